-- Texts in definitions: the bytes of a quoted text, in UTF-8.
use Rattle.std.specs.Prelude.{List, [], ◌++◌, ◌∷◌, ◌%◌, ◌+◌, ◌/◌, ℕ, ltb}
use Prim.Native.Char.{code}
use Prim.Native.String as S
use Prim.Native.String.{String}
use Rattle.laws.specs.Pick.{pick}

-- a character by its code: in ASCII below 128, else the two bytes of UTF-8, which reach up to 2,047
unfoldable pub character_bytes : ℕ → List ℕ
character_bytes c = pick (ltb c 128) (c ∷ []) ((192 + c / 64) ∷ (128 + c % 64) ∷ [])

-- a text, character by character
unfoldable pub utf8 : String → List ℕ
utf8 S.[] = []
utf8 (S.◌∷◌ c s) = character_bytes (code c) ++ utf8 s
