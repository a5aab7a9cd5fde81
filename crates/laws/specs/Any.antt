-- Whether one of many passes a test, which is the first, and whether all do.
use Rattle.std.specs.Prelude.{Bool, ◌&&◌, ◌||◌, false, true, List, [], ◌∷◌, ◌+◌, suc, zero, ℕ}
use Rattle.laws.specs.Pick.{pick}

-- one of a list
unfoldable pub any : {A : Type 0} → (A → Bool) → List A → Bool
any t [] = false
any t (a ∷ rest) = t a || any t rest

-- the index of the first of a list that does, from 0; its length where none does
unfoldable pub first_at : {A : Type 0} → (A → Bool) → List A → ℕ
first_at t [] = 0
first_at t (a ∷ rest) = pick (t a) 0 (1 + first_at t rest)

-- a number below n
unfoldable pub any_below : ℕ → (ℕ → Bool) → Bool
any_below zero t = false
any_below (suc n) t = t n || any_below n t

-- every number below n
unfoldable pub all_below : ℕ → (ℕ → Bool) → Bool
all_below zero t = true
all_below (suc n) t = t n && all_below n t
