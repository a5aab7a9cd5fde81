-- How far a fill's samples lie from H.273's figures.
use Rattle.std.specs.Prelude.{Option}
use mathlib.Core.Bool.{Bool, false, not, true, true≢false}
use mathlib.Core.Path.{◌≡◌, ap, refl, sym}
use Prim.Native.Nat.{◌*◌, ◌+◌, ◌-◌, ◌/◌, ◌<◌, ◌^◌, ◌≤◌, min, ℕ}
use native.Mathlib.Nat.{add-zero, div-mul-le_self, lt-div-mul-add, lt_of_mul-lt-mul_right, mul-le-mul, mul-le-mul_left, mul-le-mul_right, mul-pos, mul-zero, zero-add}
use native.Mathlib.Omega.{arith}
use lib.Dec.{eqb, lit<, lit≤}
use lib.Ieee.{Float, binary64, div, down, fin, inf, mul, nan, of_int, sub, up}
use lib.Ieee.Exact.{HasValue}
use lib.Ieee.Fits.{down_pos}
use lib.Ieee.Nearest.{div_same}
use lib.Pow.{pow_mono}
use Rattle.laws.proofs.Order.{by_order, pick-both}
use Rattle.laws.proofs.Out.{Holds, refuse-holds}
use Rattle.laws.specs.Pick.{pick}
use Rattle.image.proofs.FormLaws.{top-high}
use Rattle.image.proofs.JudgedLaws.{depth-sound}
use Rattle.image.specs.Format.{is_depth, top_at}
use Rattle.figures.proofs.NearLaws.{Close, Near, NearPos, near_add, near_div, near-lit, near-more, near_mul, near-over, near-pos, near-raise, near_sub, near_times, near-times-right, near-whole, signed}
use Rattle.figures.proofs.Rounding.{E, E_pos, W, W-is, W-pos, less, plus}
use Rattle.figures.specs.Figure.{AllWithin, Fraction, Within, figures_of, green_of, identity_figures, luma_n, primary, raised, times, weighted_figures}
use Rattle.fill.specs.Fill.{blue_of, cb_of, cr_of, fill_of, full_chroma_of, full_of, identity_of, luma_of, nclx_of, part_of, red_of, studio_of, table_of, weighted_of, weights_of, ycbcr_of}
use Rattle.fill.specs.Rounded.{lit, whole_of}
use Rattle.fill.specs.declared.Nclx.{Nclx}

abbrev fraction : ℕ → ℕ → ℕ → Fraction
fraction a b Q = record { plus = a; minus = b; over = Q }

-- ---- the step to a whole number

-- a double's whole number is that of its count of units
whole-units : (x : Float) (n top : ℕ) → HasValue x false n W → whole_of x top ≡ min ((2 * n + W) / (2 * W)) top
unfolding whole_of
whole-units nan n top v = absurd v
whole-units (inf s) n top v = absurd v
whole-units (fin true m e) n top v = absurd (true≢false v.0)
whole-units (fin false m e) n top v =
    ap (λ (z : ℕ). min z top)
    (div_same (2 * (m * up e) + down e) (2 * down e) (2 * n + W) (2 * W) (mul-pos (lit< tt) (down_pos e)) (mul-pos (lit< tt) W-pos) (cross (m * up e) (down e) v.1))
  where
    cross : (N D : ℕ) → N * W ≡ n * D → (2 * N + D) * (2 * W) ≡ (2 * n + W) * (2 * D)
    cross N D h = omega arith

whole_below : (x : Float) (n top : ℕ) → HasValue x true n W → whole_of x top ≡ 0
unfolding whole_of
whole_below nan n top v = absurd v
whole_below (inf s) n top v = absurd v
whole_below (fin true m e) n top v = refl
whole_below (fin false m e) n top v = absurd (true≢false (sym v.0))

-- both held to top
held : (t a b Q top : ℕ) → 0 < Q → t * Q + b < a + Q → a < t * Q + b + Q → Within (min t top) top (fraction a b Q)
held t a b Q top Q0 h l = by_order top t high low
  where
    high : top < t → Within (min t top) top (fraction a b Q)
    high g =
        let e : min t top ≡ top = omega arith in
        let m = mul-le-mul_right Q g in
        rw e (record { above = omega arith; below = omega arith })

    low : t ≤ top → Within (min t top) top (fraction a b Q)
    low g =
        let e : min t top ≡ t = omega arith in
        let m = mul-le-mul_right Q g in
        rw e (record { above = omega arith; below = omega arith })

-- n / W is within less than a half of (a - b) / Q
module _ (n a b Q f : ℕ) (half : 2 * f < W) (Q0 : 0 < Q) where
  nearest-up : n * Q + b * W ≤ 0 * Q + a * W + Q * f → (2 * n + W) / (2 * W) * Q + b < a + Q
  nearest-up h =
      lt_of_mul-lt-mul_right (2 * W) (omega (arith, mul-le-mul_right Q (div-mul-le_self (2 * n + W) (2 * W)), mul-le-mul_left Q half))

  nearest-down : 0 * Q + a * W ≤ n * Q + b * W + Q * f → a < (2 * n + W) / (2 * W) * Q + b + Q
  nearest-down h =
      let k : 2 * n + W < (2 * n + W) / (2 * W) * (2 * W) + 2 * W = lt-div-mul-add (mul-pos (lit< tt) W-pos) in
      lt_of_mul-lt-mul_right (2 * W) (omega (arith, mul-le-mul_right Q k, mul-le-mul_left Q half))

within : {x : Float} {a b Q f k : ℕ} (top : ℕ) → 0 < Q → 2 * f < W → Near x a b Q f k → Within (whole_of x top) top (fraction a b Q)
within {x = x} {a = a} {b = b} {Q = Q} {f = f} top Q0 half r = go r.s r.n r.val r.close
  where
    go : (s : Bool) (n : ℕ) → HasValue x s n W → Close (plus s n) (less s n) a b Q f → Within (whole_of x top) top (fraction a b Q)
    go false n v h = rw (whole-units x n top v) (held ((2 * n + W) / (2 * W)) a b Q top Q0 (nearest-up n a b Q f half Q0 h.hi) (nearest-down n a b Q f half Q0 h.lo))
    go true n v h =
        let z : a < b + Q = lt_of_mul-lt-mul_right W (omega (arith, mul-le-mul_left Q half)) in
        rw (whole_below x n top v) (record { above = omega arith; below = omega arith })

-- ---- the samples of a value that is near a fraction

abbrev Value : Float → ℕ → ℕ → ℕ → Type 0
Value x a b Q = Near x a b Q (512 * E) 64

module _ {x : Float} {a b Q : ℕ} (d : ℕ) (lo : 8 ≤ d) (hi : d ≤ 16) (Q0 : 0 < Q) (r : Value x a b Q) where
  full-within : Within (full_of x d) (top_at d) (times (top_at d) (fraction a b Q))
  unfolding full_of of_int
  full-within =
      let h = top-high d hi in
      let e = W-is in
      let p = E_pos in
      let m = mul-le-mul_right E h in
      within (top_at d) Q0 (omega arith) (near-times-right (top_at d) (omega arith) (omega arith) r)

  chroma-within : Within (full_chroma_of x d) (top_at d) (raised (2 ^ (d - 1)) (times (top_at d) (fraction a b Q)))
  unfolding full_chroma_of of_int
  chroma-within =
      let h = top-high d hi in
      let k : 2 ^ (d - 1) ≤ 2 ^ 15 = pow_mono {j = 15} (omega arith) in
      let e = W-is in
      let p = E_pos in
      let m = mul-le-mul_right E h in
      within (top_at d) Q0 (omega arith) (near-raise (2 ^ (d - 1)) (omega arith) (omega arith) (near-times-right (top_at d) (omega arith) (omega arith) r))

  studio-within : (k o : ℕ) → k ≤ 255 → o ≤ 255 → Within (studio_of (lit k 1) (lit o 1) x d) (top_at d) (times (2 ^ (d - 8)) (raised o (times k (fraction a b Q))))
  unfolding studio_of of_int
  studio-within k o hk ho =
      let h : 2 ^ (d - 8) ≤ 2 ^ 8 = pow_mono {j = 8} (omega arith) in
      let e = W-is in
      let p = E_pos in
      let m = mul-le-mul_right E hk in
      let z : 2 ^ (d - 8) * (k * 64 + 1 + o + 1) ≤ 2 ^ 8 * 16577 = mul-le-mul {m₂ = 16577} h (omega arith) in
      let g : 2 ^ (d - 8) * (k * (512 * E) + E + E) ≤ 2 ^ 8 * (130562 * E) = mul-le-mul {m₂ = 130562 * E} h (omega arith) in
      within (top_at d) Q0 (omega arith) (near-times-right (2 ^ (d - 8)) (omega arith) (omega arith) (near-raise o (omega arith) (omega arith) (near_times k (omega arith) (omega arith) r)))

-- ---- values

-- a colour of 16 bits
near-part : (v : ℕ) → v ≤ 65535 → Near (part_of v) v 0 65535 E 2
unfolding part_of of_int
near-part v h =
    let q = signed (near-whole v (omega arith)) in
    let r = near-whole 65535 (lit≤ tt) in
    let w = W-pos in
    let z = mul-le-mul_right W h in
    near-more E 2 (omega arith) (lit≤ tt) (near_div 1 1 (lit≤ tt) (lit≤ tt) q r (omega (arith, r.close.lo)) (omega (arith, r.close.lo, q.size)))

one : Near (lit 1 1) 10000 0 10000 0 1
one = near-over 10000 10000 refl (signed (near-whole 1 (lit≤ tt)))

-- 1 less a weight
rest : (K : ℕ) → K ≤ 10000 → Near (sub binary64 (lit 1 1) (lit K 10000)) 10000 K 10000 (2 * E) 4
rest K h = near-more (2 * E) 4 (omega arith) (lit≤ tt) (rw zero-add at (near_sub (lit≤ tt) one (signed (near-lit K 10000 (lit< tt) h))))

-- a matrix's weights
small : (m : ℕ) → (red_of m ≤ 3000) × (blue_of m ≤ 1140)
unfolding table_of
small m =
    let P : ℕ × ℕ → Type 0 = λ p. (p.0 ≤ 3000) × (p.1 ≤ 1140) in
    pick-both P (eqb m 1) _ _ (lit≤ tt, lit≤ tt)
    (pick-both P (eqb m 4) _ _ (lit≤ tt, lit≤ tt)
    (pick-both P (eqb m 7) _ _ (lit≤ tt, lit≤ tt) (pick-both P (eqb m 9) _ _ (lit≤ tt, lit≤ tt) (pick-both P (eqb m 10) _ _ (lit≤ tt, lit≤ tt) (lit≤ tt, lit≤ tt)))))

-- a weight's part of the luma
term : {k : Float} {K d j : ℕ} (C : ℕ) → K ≤ 10000 → C ≤ 65535 → j * 2 ≤ 2 ^ 24 → NearPos k K 10000 d j → Near (mul binary64 k (part_of C)) (K * C) 0 655350000 (d * 2 + E + 1 * E) (j * 2 + 1)
term C h_k h_c h r = rw mul-zero at (near_mul 1 (omega arith) h r (near-part C h_c))

-- a matrix, a colour
module _ (m R G B : ℕ) (hr : R ≤ 65535) (hg : G ≤ 65535) (hb : B ≤ 65535) where
  y : Float
  y = luma_of (weights_of m) (part_of R) (part_of G) (part_of B)

  green : NearPos (weights_of m).kg (green_of m) 10000 (4 * E) 7
  unfolding weights_of
  green =
      let s = small m in
      let e = W-is in
      let p = E_pos in
      let w : 1 * W ≤ green_of m * W = mul-le-mul_right W (omega arith) in
      near-pos (green_of m) (omega arith) (omega arith) (near-more (4 * E) 7 (omega arith) (lit≤ tt) (near_sub (lit≤ tt) (rest (red_of m) (omega arith)) (signed (near-lit (blue_of m) 10000 (lit< tt) (omega arith)))))

  near-luma : Near y (luma_n m R G B) 0 655350000 (20 * E) 27
  unfolding y luma_of weights_of
  near-luma =
      let s = small m in
      let r = term R (omega arith) hr (lit≤ tt) (near-lit (red_of m) 10000 (lit< tt) (omega arith)) in
      let g = term G (omega arith) hg (lit≤ tt) green in
      let b = term B (omega arith) hb (lit≤ tt) (near-lit (blue_of m) 10000 (lit< tt) (omega arith)) in
      near-more (20 * E) 27 (omega arith) (lit≤ tt) (near_add (lit≤ tt) (near_add (lit≤ tt) r g) b)

  -- blue or red, by its weight
  near_difference : (C K : ℕ) → C ≤ 65535 → K ≤ 5000 → Value (div binary64 (sub binary64 (part_of C) y) (mul binary64 (lit 2 1) (sub binary64 (lit 1 1) (lit K 10000)))) (C * 10000) (luma_n m R G B) (65535 * (2 * (10000 - K)))
  near_difference C K h_c h_k =
      let e = W-is in
      let p = E_pos in
      let j : 5000 * W ≤ (10000 - K) * W = mul-le-mul_right W (omega arith) in
      let x = rw (zero-add (luma_n m R G B), add-zero (C * 10000)) at (near_sub (lit≤ tt) (near-over 655350000 10000 refl (near-part C h_c)) near-luma) in
      let d = near-pos (2 * (10000 - K)) (omega arith) (omega arith) (near_times 2 (lit≤ tt) (lit≤ tt) (rest K (omega arith))) in
      near-more (512 * E) 64 (omega arith) (lit≤ tt) (near_div 65535 60 (omega arith) (lit≤ tt) x d (omega (arith, d.close.lo)) (omega (arith, d.close.lo, x.size)))

  weighted-within : (d : ℕ) (full : Bool) → 8 ≤ d → d ≤ 16 → AllWithin (weighted_of (weights_of m) (part_of R) (part_of G) (part_of B) d full) (top_at d) (weighted_figures m R G B d full)
  unfolding weighted_of weighted_figures pick cb_of cr_of weights_of y
  weighted-within d true lo hi =
      let s = small m in
      record {
        y = full-within d lo hi (lit< tt) (near-more (512 * E) 64 (omega arith) (lit≤ tt) near-luma);
        cb = chroma-within d lo hi (omega arith) (near_difference B (blue_of m) hb (omega arith));
        cr = chroma-within d lo hi (omega arith) (near_difference R (red_of m) hr (omega arith));
      }
  weighted-within d false lo hi =
      let s = small m in
      record {
        y = studio-within d lo hi (lit< tt) (near-more (512 * E) 64 (omega arith) (lit≤ tt) near-luma) 219 16 (lit≤ tt) (lit≤ tt);
        cb = studio-within d lo hi (omega arith) (near_difference B (blue_of m) hb (omega arith)) 224 128 (lit≤ tt) (lit≤ tt);
        cr = studio-within d lo hi (omega arith) (near_difference R (red_of m) hr (omega arith)) 224 128 (lit≤ tt) (lit≤ tt);
      }

identity-within : (R G B d : ℕ) → R ≤ 65535 → G ≤ 65535 → B ≤ 65535 → 8 ≤ d → d ≤ 16 → AllWithin (identity_of (part_of R) (part_of G) (part_of B) d) (top_at d) (identity_figures R G B d)
unfolding identity_of identity_figures
identity-within R G B d hr hg hb lo hi = record { y = one_of G hg; cb = one_of B hb; cr = one_of R hr }
  where
    one_of : (v : ℕ) → v ≤ 65535 → Within (full_of (part_of v) d) (top_at d) (times (top_at d) (primary v))
    one_of v h = full-within d lo hi (lit< tt) (near-more (512 * E) 64 (omega arith) (lit≤ tt) (near-part v h))

-- either matrix, as the definition and the figures choose it
chosen : (z : Bool) (m R G B d : ℕ) (full : Bool) → R ≤ 65535 → G ≤ 65535 → B ≤ 65535 → 8 ≤ d → d ≤ 16
    → AllWithin (pick z (identity_of (part_of R) (part_of G) (part_of B) d) (weighted_of (weights_of m) (part_of R) (part_of G) (part_of B) d full)) (top_at d) (pick z (identity_figures R G B d) (weighted_figures m R G B d full))
unfolding pick
chosen true m R G B d full hr hg hb lo hi = identity-within R G B d hr hg hb lo hi
chosen false m R G B d full hr hg hb lo hi = weighted-within m R G B hr hg hb d full lo hi

-- Every colour sample of an accepted fill is less than one step from H.273's figure held to 0 and top. The figures are exact
-- fractions of the 16-bit colours and of the weights in ten-thousandths: for matrix 0 G, B, R at full scale, for every other number
-- those of the weights, in full or studio range as the flag says.
pub fill-within : (red green blue depth : ℕ) (colour : Option Nclx) → red ≤ 65535 → green ≤ 65535 → blue ≤ 65535
    → Holds (λ s. AllWithin s (top_at depth) (figures_of red green blue depth colour)) (fill_of red green blue depth colour)
unfolding fill_of ycbcr_of figures_of Holds
fill-within R G B d colour hr hg hb =
    let n = nclx_of colour in
    refuse-holds _ (not (is_depth d)) 6 _ (λ e.
    let k = depth-sound d e in
    chosen (eqb n.matrix 0) n.matrix R G B d n.full_range hr hg hb k.0 k.1)
