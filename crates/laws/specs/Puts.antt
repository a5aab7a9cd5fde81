-- Bytes stored one after the other in a list.
use Rattle.std.specs.Prelude.{List, [], ◌∷◌, ℕ, ◌+◌, ◌<◌, get_or, set}

-- every item is a byte
unfoldable pub Bytes : List ℕ → Type 0
Bytes s = (i : ℕ) → get_or s i 0 < 256

-- d with vs stored from index i on
unfoldable pub puts : List ℕ → ℕ → List ℕ → List ℕ
puts d i [] = d
puts d i (v ∷ vs) = puts (set d i v) (i + 1) vs
