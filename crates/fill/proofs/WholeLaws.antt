-- A double to a whole number by its whole part t and a test against t + 1/2: a half goes away from zero.
use Rattle.std.proofs.Common.{◌≡◌, ℕ, ◌+◌, ◌*◌, ◌/◌, ◌^◌, ◌<◌, ◌≤◌, true, false, T, pos, sym, refl, ap, ◌∙◌, subst, true≢false, lt_of_lt_of_le, le_of_lt, mul-le-mul_right, mul_assoc, div-lt_iff_lt-mul, mul-lt-mul_of_pos_right, mul-pos, lt_of_not-le, le-div_iff_mul-le, mul-one, not-le_of_lt, div-mul-le_self, arith, lit<, lt→ltb, pow_pos, ltb-false, ltb-true}
use native.Mathlib.Nat.{div-eq_of_lt, div-eq_of_lt-le, lt-div-mul-add}
use lib.Ieee.{Float, binary64, down, fin, inf, lt, mul, nan, of_bits, of_int, round, to_unsigned, up}
use lib.Ieee.Back.{round_whole}
use lib.Ieee.Exact.{HasValue, round_exact}
use lib.Ieee.Fits.{down_pos}
use lib.Ieee.Order.{transfer}
use lib.Ieee.Positive.{den, den_pos, mul_at, num, positive_of_value}
use Rattle.fill.specs.Rounded.{whole_of}

-- x is not a NaN, an infinity or below zero
abbrev pub Plain : Float → Type 0
Plain nan = ⊥
Plain (inf s) = ⊥
Plain (fin true m e) = ⊥
Plain (fin false m e) = Unit

-- ---- the order against a value b / c
pub lt-cross : (x y : Float) (b c : ℕ) → Plain x → 0 < c → HasValue y false b c → lt x y ≡ true → num x * c < b * den x
unfolding lt
lt-cross nan y b c p C v h = absurd p
lt-cross (inf s) y b c p C v h = absurd p
lt-cross (fin true m e) y b c p C v h = absurd p
lt-cross (fin false m e) nan b c p C v h = absurd v
lt-cross (fin false m e) (inf t) b c p C v h = absurd v
lt-cross (fin false m e) (fin true n d) b c p C v h = absurd (true≢false v.0)
lt-cross (fin false m e) (fin false n d) b c p C v h =
    lt_of_not-le (λ (g : b * down e ≤ m * up e * c).
    not-le_of_lt (ltb-true _ _ h) (transfer (n * up d) (m * up e) (down d) (down e) b (m * up e) c (down e) C (down_pos e) v.1 refl g))

pub ge-cross : (x y : Float) (b c : ℕ) → Plain x → 0 < c → HasValue y false b c → lt x y ≡ false → b * den x ≤ num x * c
unfolding lt
ge-cross nan y b c p C v h = absurd p
ge-cross (inf s) y b c p C v h = absurd p
ge-cross (fin true m e) y b c p C v h = absurd p
ge-cross (fin false m e) nan b c p C v h = absurd v
ge-cross (fin false m e) (inf t) b c p C v h = absurd v
ge-cross (fin false m e) (fin true n d) b c p C v h = absurd (true≢false v.0)
ge-cross (fin false m e) (fin false n d) b c p C v h =
    transfer b (m * up e) c (down e) (n * up d) (m * up e) (down d) (down e) (down_pos d) (down_pos e) (sym v.1) refl (ltb-false _ _ h)

-- ---- the test against zero
pub above_zero : (x : Float) → lt (of_bits binary64 0) x ≡ true → T (lt (fin true 1 (pos 0)) x)
unfolding lt of_bits
above_zero nan h = absurd (true≢false (sym h))
above_zero (inf true) h = absurd (true≢false (sym h))
above_zero (inf false) h = tt
above_zero (fin true m e) h = absurd (true≢false (sym h))
above_zero (fin false m e) h = lt→ltb 0 (1 * down e + m * up e * 1) (omega (arith, down_pos e))

pub plain : (x : Float) (t : ℕ) → lt (of_bits binary64 0) x ≡ true → lt x (of_int binary64 (pos t)) ≡ true → t ≤ 2 ^ 53 → Plain x
unfolding lt of_bits of_int
plain nan t h k b = true≢false (sym h)
plain (inf true) t h k b = true≢false (sym h)
plain (inf false) t h k b = under (round binary64 false t 1) t (round_whole binary64 false t b) k
  where
    under : (y : Float) (t : ℕ) → HasValue y false t 1 → lt (inf false) y ≡ true → ⊥
    under nan t v h = v
    under (inf s) t v h = v
    under (fin s m e) t v h = true≢false (sym h)
plain (fin true m e) t h k b = true≢false (sym h)
plain (fin false m e) t h k b = tt

pub below_top : (x : Float) (t : ℕ) → Plain x → lt x (of_int binary64 (pos t)) ≡ true → t ≤ 2 ^ 53 → num x < t * den x
unfolding of_int
below_top x t p h b = rw mul-one at (lt-cross x (round binary64 false t 1) t 1 p (lit< tt) (round_whole binary64 false t b) h)

pub from-top : (x : Float) (t : ℕ) → Plain x → lt x (of_int binary64 (pos t)) ≡ false → t ≤ 2 ^ 53 → t * den x ≤ num x
unfolding of_int
from-top x t p h b = rw mul-one at (ge-cross x (round binary64 false t 1) t 1 p (lit< tt) (round_whole binary64 false t b) h)

-- ---- the whole part
pub below-wide : (x : Float) (t : ℕ) → Plain x → num x < t * den x → t < 65536 → T (lt x (fin false 1 (pos 64)))
unfolding lt
below-wide nan t p h b = absurd p
below-wide (inf s) t p h b = absurd p
below-wide (fin true m e) t p h b = absurd p
below-wide (fin false m e) t p h b = lt→ltb (m * up e * 1) (1 * 2 ^ 64 * down e) (omega (arith, mul-le-mul_right (down e) b))

pub part-is : (x : Float) (t : ℕ) → Plain x → num x < t * den x → t < 65536 → to_unsigned 64 x ≡ num x / den x
unfolding to_unsigned
part-is nan t p h b = absurd p
part-is (inf s) t p h b = absurd p
part-is (fin true m e) t p h b = absurd p
part-is (fin false m e) t p h b = let l : m * up e / down e < t = (div-lt_iff_lt-mul (down_pos e)).1 h in omega arith

pub part-lt : (x : Float) (t : ℕ) → num x < t * den x → num x / den x < t
part-lt x t h = (div-lt_iff_lt-mul (den_pos x)).1 h

-- ---- (2 t + 1) / 2 is a float
pub half-value : (n : ℕ) → 0 < n → n < 2 ^ 53 → HasValue (mul binary64 (of_int binary64 (pos n)) (of_bits binary64 0x3fe0_0000_0000_0000)) false n 2
unfolding of_int of_bits
half-value n p b =
    let v : HasValue (round binary64 false n 1) false n 1 = round_whole binary64 false n (le_of_lt b) in
    let is : mul binary64 (round binary64 false n 1) (of_bits binary64 0x3fe0_0000_0000_0000) ≡ round binary64 false (n * 1) (1 * 2) =
    mul_at binary64 (round binary64 false n 1) (of_bits binary64 0x3fe0_0000_0000_0000) n 1 1 2 (positive_of_value (round binary64 false n 1) n 1 v p) tt (lit< tt) (lit< tt) v (refl, refl) in
    subst (λ (y : Float). HasValue y false n 2) (sym (is ∙ ap (λ (k : ℕ). round binary64 false k 2) (mul-one n)))
    (round_exact binary64 false n 2 n 1073 (lit< tt) b
    (lt_of_lt_of_le (mul-lt n b) (le_of_lt (lit< tt)))
    (sym (mul_assoc n (2 ^ 1073) 2)))
  where
    mul-lt : (n : ℕ) → n < 2 ^ 53 → n * 2 ^ 1073 < 2 ^ 53 * 2 ^ 1073
    mul-lt n h = mul-lt-mul_of_pos_right h (pow_pos 1073)

-- ---- the four answers

-- N / D has the whole part t, and is below t + 1/2, or not
down_is : (N D : ℕ) → 0 < D → N * 2 < (N / D + N / D + 1) * D → (2 * N + D) / (2 * D) ≡ N / D
down_is N D p h = let lo : N / D * D ≤ N = div-mul-le_self N D in div-eq_of_lt-le (2 * D) (omega arith) (omega arith)

up_is : (N D : ℕ) → 0 < D → (N / D + N / D + 1) * D ≤ N * 2 → (2 * N + D) / (2 * D) ≡ N / D + 1
up_is N D p h = let hi : N < N / D * D + D = lt-div-mul-add p in div-eq_of_lt-le (2 * D) (omega arith) (omega arith)

pub answer-down : (x : Float) (top : ℕ) → Plain x → num x < top * den x → num x * 2 < (num x / den x + num x / den x + 1) * den x → num x / den x ≡ whole_of x top
unfolding whole_of
answer-down nan top p b h = absurd p
answer-down (inf s) top p b h = absurd p
answer-down (fin true m e) top p b h = absurd p
answer-down (fin false m e) top p b h =
    let q = down_is (m * up e) (down e) (down_pos e) h in
    let l : m * up e / down e < top = (div-lt_iff_lt-mul (down_pos e)).1 b in
    omega arith

pub answer-up : (x : Float) (top : ℕ) → Plain x → num x < top * den x → (num x / den x + num x / den x + 1) * den x ≤ num x * 2 → num x / den x + 1 ≡ whole_of x top
unfolding whole_of
answer-up nan top p b h = absurd p
answer-up (inf s) top p b h = absurd p
answer-up (fin true m e) top p b h = absurd p
answer-up (fin false m e) top p b h =
    let q = up_is (m * up e) (down e) (down_pos e) h in
    let l : m * up e / down e < top = (div-lt_iff_lt-mul (down_pos e)).1 b in
    omega arith

-- at top or above it, an infinity too
pub answer-top : (x : Float) (top : ℕ) → lt (of_bits binary64 0) x ≡ true → lt x (of_int binary64 (pos top)) ≡ false → top ≤ 2 ^ 53 → top ≡ whole_of x top
unfolding whole_of lt of_bits
answer-top nan top h k b = absurd (true≢false (sym h))
answer-top (inf true) top h k b = absurd (true≢false (sym h))
answer-top (inf false) top h k b = refl
answer-top (fin true m e) top h k b = absurd (true≢false (sym h))
answer-top (fin false m e) top h k b =
    let g : top * down e ≤ m * up e = from-top (fin false m e) top tt k b in
    let l : top ≤ (2 * (m * up e) + down e) / (2 * down e) = (le-div_iff_mul-le (mul-pos (lit< tt) (down_pos e))).1 (omega arith) in
    omega arith

-- at zero or below it, and a NaN
pub answer-zero : (x : Float) (top : ℕ) → lt (of_bits binary64 0) x ≡ false → 0 ≡ whole_of x top
unfolding whole_of lt of_bits
answer-zero nan top h = refl
answer-zero (inf true) top h = refl
answer-zero (inf false) top h = absurd (true≢false h)
answer-zero (fin true m e) top h = refl
answer-zero (fin false m e) top h =
    let z : m * up e * 1 ≤ 0 * down e = ltb-false (0 * down e) (m * up e * 1) h in
    let D : 0 < down e = down_pos e in
    let q : (2 * (m * up e) + down e) / (2 * down e) ≡ 0 = div-eq_of_lt (omega arith) in
    omega arith
