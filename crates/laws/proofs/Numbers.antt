-- Laws of the numbers of refusals.
use mathlib.Core.Bool.{true, false}
use mathlib.Core.Path.{◌≡◌, refl}
use Prim.Native.Nat.{◌≤◌, ℕ}
use native.Mathlib.Omega.{arith}
use lib.Dec.{eqb, ltb}
use borrow.Author.Tests.{eqb-true, ltb-true, ne_eqb}
use Rattle.laws.proofs.Any.{all-at}
use Rattle.laws.proofs.Order.{by_order}
use Rattle.laws.specs.Any.{all_below}
use Rattle.laws.specs.Reason.{number_of, numbered}

-- computed over both tables
tested : all_below 20 (λ k. eqb (number_of (numbered k)) k) ≡ true
unfolding all_below
tested = refl

-- a number that has no name is kept
kept : (n : ℕ) → 20 ≤ n → number_of (numbered n) ≡ n
kept n h = simp no
  where
    no : (k : ℕ) → ltb k 20 ≡ true → eqb n k ≡ false
    no k l = ne_eqb n k (λ e. omega (arith, ltb-true k 20 l))

-- the reason of a number has that number
pub numbered-back : (n : ℕ) → number_of (numbered n) ≡ n
numbered-back n = by_order n 20 (λ h. eqb-true _ _ (all-at 20 (λ k. eqb (number_of (numbered k)) k) tested n h)) (kept n)
