-- Which quarter turns an angle stands for.
use mathlib.Core.Path.{◌∙◌, ◌≡◌}
use Prim.Native.Nat.{◌%◌, ◌<◌, ℕ}
use native.Mathlib.Omega.{arith}
use borrow.Author.Tests.{eq-eqb, ne_eqb}
use Rattle.laws.proofs.Order.{pick-false, pick_true}
use Rattle.motions.specs.Turn.{q0, q1, q2, q3, quarter_of}

pub quarter-zero : (a : ℕ) → a % 4 ≡ 0 → quarter_of a ≡ q0
unfolding quarter_of
quarter-zero a e = pick_true _ _ _ (eq-eqb (a % 4) 0 e)

pub quarter-one : (a : ℕ) → a % 4 ≡ 1 → quarter_of a ≡ q1
unfolding quarter_of
quarter-one a e = pick-false _ _ _ (ne_eqb (a % 4) 0 (λ z. differ z)) ∙ pick_true _ _ _ (eq-eqb (a % 4) 1 e)
  where
    differ : a % 4 ≡ 0 → ⊥
    differ z = omega arith

pub quarter-two : (a : ℕ) → a % 4 ≡ 2 → quarter_of a ≡ q2
unfolding quarter_of
quarter-two a e = pick-false _ _ _ (ne_eqb (a % 4) 0 (λ z. differ 0 (omega arith) z)) ∙ pick-false _ _ _ (ne_eqb (a % 4) 1 (λ z. differ 1 (omega arith) z)) ∙ pick_true _ _ _ (eq-eqb (a % 4) 2 e)
  where
    differ : (n : ℕ) → n < 2 → a % 4 ≡ n → ⊥
    differ n h z = omega arith

pub quarter-three : (a : ℕ) → (a % 4 ≡ 0 → ⊥) → (a % 4 ≡ 1 → ⊥) → (a % 4 ≡ 2 → ⊥) → quarter_of a ≡ q3
unfolding quarter_of
quarter-three a x y z = pick-false _ _ _ (ne_eqb (a % 4) 0 x) ∙ pick-false _ _ _ (ne_eqb (a % 4) 1 y) ∙ pick-false _ _ _ (ne_eqb (a % 4) 2 z)
