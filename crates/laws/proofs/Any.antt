-- Laws of tests of every number below another.
use mathlib.Core.Bool.{Bool, true}
use mathlib.Core.Path.{◌∙◌, ◌≡◌, ap}
use Prim.Native.Nat.{◌<◌, suc, zero, ℕ}
use native.Mathlib.Nat.{not-suc-le-zero}
use native.Mathlib.Omega.{arith}
use Rattle.laws.proofs.Order.{and-true, by_equal}
use Rattle.laws.specs.Any.{all_below}

pub all-at : (n : ℕ) (t : ℕ → Bool) → all_below n t ≡ true → (k : ℕ) → k < n → t k ≡ true
unfolding all_below
all-at zero t e k h = absurd (not-suc-le-zero h)
all-at (suc n) t e k h =
    let a = and-true (t n) (all_below n t) e in
    by_equal k n (λ q. ap t q ∙ a.0) (λ q. all-at n t a.1 k (omega arith))
