-- A number as decimal text, in ASCII, and the number that a text starts with.
use Rattle.std.specs.Prelude.{List, [], ◌∷◌, ℕ, zero, suc, ◌+◌, ◌*◌, ◌-◌, ◌/◌, ◌%◌, leb, ltb, Bool, ◌&&◌}
use Rattle.laws.specs.Pick.{pick}

-- the digits of n, the highest first, before the text `after`; at most k before the last
unfoldable pub digits_onto : ℕ → ℕ → List ℕ → List ℕ
digits_onto zero n after = (48 + n) ∷ after
digits_onto (suc k) n after = pick (ltb n 10) ((48 + n) ∷ after) (digits_onto k (n / 10) ((48 + n % 10) ∷ after))

-- a number below 10 ^ 20
unfoldable pub decimal : ℕ → List ℕ
decimal n = digits_onto 19 n []

unfoldable pub is_digit : ℕ → Bool
is_digit c = leb 48 c && ltb c 58

-- the number of v's digits and of those that the text starts with
unfoldable pub digits_after : ℕ → List ℕ → ℕ
digits_after v [] = v
digits_after v (c ∷ s) = pick (is_digit c) (digits_after (v * 10 + (c - 48)) s) v

-- the number whose digits a text starts with
unfoldable pub read_decimal : List ℕ → ℕ
read_decimal s = digits_after 0 s
