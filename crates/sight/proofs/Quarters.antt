-- Quarter turns by their number: sums and mirrors of turns.
use mathlib.Core.Bool.{Bool, false, true}
use mathlib.Core.Path.{◌∙◌, ◌≡◌, ap, refl, sym}
use Prim.Native.Nat.{◌%◌, ◌+◌, ◌<◌, suc, zero, ℕ}
use native.Mathlib.Nat.{add-zero}
use native.Mathlib.Omega.{arith}
use lib.Dec.{eqb}
use Rattle.laws.proofs.Order.{by_equal}
use Rattle.laws.specs.Pick.{pick}
use Rattle.motions.proofs.Quarters.{quarter-one, quarter-two, quarter-zero}
use Rattle.motions.specs.Turn.{Quarter, q0, q1, q2, q3, quarter_of}
use Rattle.sight.specs.Sight.{mirror_turns}

-- ---- turns as such

-- one turn more, and so many more
unfoldable pub next : Quarter → Quarter
next q0 = q1
next q1 = q2
next q2 = q3
next q3 = q0

unfoldable pub plus : Quarter → Quarter → Quarter
unfolding next
plus q q0 = q
plus q q1 = next q
plus q q2 = next (next q)
plus q q3 = next (next (next q))

plus-next : (q k : Quarter) → plus q (next k) ≡ next (plus q k)
unfolding plus next
plus-next q q0 = refl
plus-next q q1 = refl
plus-next q q2 = refl
plus-next q0 q3 = refl
plus-next q1 q3 = refl
plus-next q2 q3 = refl
plus-next q3 q3 = refl

-- after an exchange of left and right (true), or of top and bottom
unfoldable pub flipped : Bool → Quarter → Quarter
flipped true q0 = q0
flipped true q1 = q3
flipped true q2 = q2
flipped true q3 = q1
flipped false q0 = q2
flipped false q1 = q1
flipped false q2 = q0
flipped false q3 = q3

-- ---- by their number

pub by-quarter {ℓ} : {X : Type ℓ} (a : ℕ) → (a % 4 ≡ 0 → X) → (a % 4 ≡ 1 → X) → (a % 4 ≡ 2 → X) → (a % 4 ≡ 3 → X) → X
by-quarter a f g h k = by_equal (a % 4) 0 f (λ n. by_equal (a % 4) 1 g (λ m. by_equal (a % 4) 2 h (λ o. k (last n m o))))
  where
    last : (a % 4 ≡ 0 → ⊥) → (a % 4 ≡ 1 → ⊥) → (a % 4 ≡ 2 → ⊥) → a % 4 ≡ 3
    last n m o = omega arith

-- a number stands for the turn of its rest
pub quarter-by : (a b : ℕ) → a % 4 ≡ b % 4 → quarter_of a ≡ quarter_of b
unfolding quarter_of
quarter-by a b e = ap (λ (m : ℕ). pick (eqb m 0) q0 (pick (eqb m 1) q1 (pick (eqb m 2) q2 q3))) e

pub quarter-3 : (a : ℕ) → a % 4 ≡ 3 → quarter_of a ≡ q3
unfolding quarter_of pick
quarter-3 a e = quarter-by a 3 e

quarter-suc : (a : ℕ) → quarter_of (suc a) ≡ next (quarter_of a)
unfolding next
quarter-suc a =
    by-quarter a
    (λ e. quarter-one (suc a) (omega arith) ∙ ap next (sym (quarter-zero a e)))
    (λ e. quarter-two (suc a) (omega arith) ∙ ap next (sym (quarter-one a e)))
    (λ e. quarter-3 (suc a) (omega arith) ∙ ap next (sym (quarter-two a e)))
    (λ e. quarter-zero (suc a) (omega arith) ∙ ap next (sym (quarter-3 a e)))

quarter-add : (t a : ℕ) → quarter_of (t + a) ≡ plus (quarter_of t) (quarter_of a)
unfolding plus
quarter-add t zero = ap quarter_of (add-zero t) ∙ sym (ap (plus (quarter_of t)) (quarter-zero 0 refl))
quarter-add t (suc a) =
    let s : t + suc a ≡ suc (t + a) = omega arith in
    ap quarter_of s ∙ quarter-suc (t + a) ∙ ap next (quarter-add t a) ∙ sym (plus-next (quarter_of t) (quarter_of a)) ∙ ap (plus (quarter_of t)) (sym (quarter-suc a))

pub quarter-sum : (t a : ℕ) → quarter_of ((t + a) % 4) ≡ plus (quarter_of t) (quarter_of a)
quarter-sum t a = quarter-by ((t + a) % 4) (t + a) (omega arith) ∙ quarter-add t a

pub quarter-mirror : (b : Bool) (t : ℕ) → quarter_of (mirror_turns b t) ≡ flipped b (quarter_of t)
unfolding mirror_turns flipped
quarter-mirror true t =
    by-quarter t
    (λ e. quarter-zero _ (omega arith) ∙ ap (flipped true) (sym (quarter-zero t e)))
    (λ e. quarter-3 _ (omega arith) ∙ ap (flipped true) (sym (quarter-one t e)))
    (λ e. quarter-two _ (omega arith) ∙ ap (flipped true) (sym (quarter-two t e)))
    (λ e. quarter-one _ (omega arith) ∙ ap (flipped true) (sym (quarter-3 t e)))
quarter-mirror false t =
    by-quarter t
    (λ e. quarter-two _ (omega arith) ∙ ap (flipped false) (sym (quarter-zero t e)))
    (λ e. quarter-one _ (omega arith) ∙ ap (flipped false) (sym (quarter-one t e)))
    (λ e. quarter-zero _ (omega arith) ∙ ap (flipped false) (sym (quarter-two t e)))
    (λ e. quarter-3 _ (omega arith) ∙ ap (flipped false) (sym (quarter-3 t e)))

pub mirror-below : (b : Bool) (t : ℕ) → mirror_turns b t < 4
unfolding mirror_turns
mirror-below true t = omega arith
mirror-below false t = omega arith
