use Rattle.std.proofs.Common.{◌≡◌, ℕ, ◌<◌, ◌≤◌, ◌⊎◌, sym, ap, ◌∙◌, inl, inr, eq-or-lt_of_le, arith, ne_eqb}
use lib.Ieee.{of_bits, round}
use Rattle.laws.specs.Pick.{pick}
use Rattle.fill.specs.Fill.{table_of, weights_from, weights_of}
use Rattle.fill.specs.Rounded.{lit}
use Rattle.fill.proofs.weights.Weights.of.Goals as goal
use Rattle.fill.proofs.weights.Weights.of.Goals.{in_default-via-then-matrix-lt9, in_default-via-else-matrix-lt9+else-matrix-lt11}

ten : (m : ℕ) → 9 < m → m < 11 → 10 ≡ m
ten m h k = omega arith

-- every matrix that is not listed
other : (m : ℕ) → (m ≡ 1 → ⊥) → (m ≡ 4 → ⊥) → (m ≡ 7 → ⊥) → (m < 9) ⊎ (11 ≤ m) → table_of m ≡ table_of 6
unfolding table_of pick
other m a b d h =
    let nine : m ≡ 9 → ⊥ = λ e. elim h [ inl w ↦ omega arith | inr w ↦ omega arith ] in
    let ten' : m ≡ 10 → ⊥ = λ e. elim h [ inl w ↦ omega arith | inr w ↦ omega arith ] in
    simp (ne_eqb m 1 a, ne_eqb m 4 b, ne_eqb m 7 d, ne_eqb m 9 nine, ne_eqb m 10 ten')

pub returns-in-1 : goal.returns-in-1
unfolding weights_of table_of pick of_bits round
returns-in-1 c = c.new.ensures ∙ ap weights_of (sym c.in-1.is)

pub returns-in-4 : goal.returns-in-4
unfolding weights_of table_of pick of_bits round
returns-in-4 c = c.new-in-4.ensures ∙ ap weights_of (sym c.in-4.is)

pub returns-in-7 : goal.returns-in-7
unfolding weights_of table_of pick of_bits round
returns-in-7 c = c.new-in-7.ensures ∙ ap weights_of (sym c.in-7.is)

pub returns-in-9 : goal.returns-in-9
unfolding weights_of table_of pick of_bits round
returns-in-9 c =
    let low : 9 ≤ c.args.matrix = omega arith in
    let high : c.args.matrix < 11 = omega arith in
    elim (eq-or-lt_of_le low) [ inl w ↦ c.new-in-9.ensures ∙ ap weights_of w | inr w ↦ c.new-in-9.ensures ∙ ap weights_of (ten _ w high) ]

pub returns-in_default : goal.returns-in_default
unfolding weights_of table_of pick of_bits round
returns-in_default c =
    let outside : (c.args.matrix < 9) ⊎ (11 ≤ c.args.matrix) = elim c.in_default.branch [ in_default-via-then-matrix-lt9 w ↦ inl (omega arith) | in_default-via-else-matrix-lt9+else-matrix-lt11 w ↦ inr (omega arith) ] in
    c.new-in_default.ensures ∙ sym (ap (λ (t : ℕ × ℕ). weights_from (lit t.0 10000) (lit t.1 10000)) (other _ (λ (e : c.args.matrix ≡ 1). omega arith) (λ (e : c.args.matrix ≡ 4). omega arith) (λ (e : c.args.matrix ≡ 7). omega arith) outside))
