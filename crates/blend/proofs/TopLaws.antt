-- Division by a depth's top, 2 ^ d − 1, by shifts.
use mathlib.Core.Path.{◌∙◌, ◌≡◌, ap, sym}
use Prim.Native.Nat.{◌%◌, ◌*◌, ◌+◌, ◌-◌, ◌/◌, ◌<◌, ◌^◌, ◌≤◌, suc, ℕ}
use native.Mathlib.Nat.{mul-add-div, mul_comm, suc-mul}
use native.Mathlib.Omega.{arith}
use lib.Pow.{pow_mono}
use Rattle.laws.proofs.Order.{by_order, mul-below}
use Rattle.image.specs.Format.{top_at}
use Rattle.blend.specs.inner.Row.{DepthTop}
use Rattle.blend.proofs.ReachLaws.{in_row, row-column}

item-last : (q c : ℕ) → 1 ≤ q → (q - 1) * c + c ≡ q * c
item-last q c h = let e : q ≡ suc (q - 1) = omega arith in sym (ap (λ (k : ℕ). k * c) e ∙ suc-mul (q - 1) c)

-- the quotient of a number below p * p - 1, where p is t + 1
module _ (t p y : ℕ) (same : p ≡ t + 1) (h : 1 ≤ t) (l : y + 1 < p * p) where
  abbrev q : ℕ
  q = y / t

  abbrev r : ℕ
  r = y % t

  parts : (y ≡ q * t + r) × (r < t)
  parts = row-column y t h

  more : q * p ≡ q * t + q
  more = rw same (omega arith)

  small : q ≤ p
  small = by_order p q (λ k. absurd (large k)) (λ k. k)
    where
      large : p < q → ⊥
      large k = omega (arith, mul-below q t (t + 2) t (omega arith) (omega arith), parts, rw same at l)

  below : q ≤ r → (y + 1 + y / p) / p ≡ q
  below k =
      let e : y / p ≡ q = (in_row y q p (omega (arith, parts, more)) (omega (arith, parts, more))).0 in
      (in_row (y + 1 + y / p) q p (omega (arith, parts, more)) (omega (arith, parts, more))).0

  above : r < q → (y + 1 + y / p) / p ≡ q
  above k =
      let less : (q - 1) * p + p ≡ q * p = item-last q p (omega arith) in
      let e : y / p ≡ q - 1 = (in_row y (q - 1) p (omega (arith, parts, more, small)) (omega (arith, parts, more, small))).0 in
      (in_row (y + 1 + y / p) q p (omega (arith, parts, more)) (omega (arith, parts, more))).0

  quotient : (y + 1 + y / p) / p ≡ y / t
  quotient = by_order r q above below

-- x below t * t * p, where p is t + 1
module _ (t p x : ℕ) (same : p ≡ t + 1) (any : 1 ≤ t) (low : x < t * t * p) where
  abbrev h : ℕ
  h = x / p

  abbrev y : ℕ
  y = x - h * p + h

  split : (x ≡ h * p + x % p) × (x % p < p)
  split = row-column x p (omega arith)

  high : h < t * t
  high = by_order h (t * t) (λ k. k) (λ k. absurd (large k))
    where
      large : t * t ≤ h → ⊥
      large k = omega (arith, mul-below h p (t * t) p k (omega arith), split)

  square : p * p ≡ t * t + 2 * t + 1
  square = rw same (omega arith)

  pub rest-small : (h * p ≤ x) × (h < t * t) × (y + 1 < p * p)
  rest-small = (omega (arith, split), high, omega (arith, split, high, square))

  pub by-top : h + (y + 1 + y / p) / p ≡ x / t
  by-top =
      ap (λ (k : ℕ). h + k) (quotient t p y same any rest-small.2)
      ∙ sym (mul-add-div any h y)
      ∙ ap (λ (k : ℕ). k / t) (omega (arith, split, times, mul_comm t h))
    where
      times : h * p ≡ h * t + h
      times = rw same (omega arith)

-- ---- the top of a depth

module _ (d top : ℕ) (k : DepthTop d top) where
  pub depth-top : (1 ≤ top) × (top < 2 ^ 16) × (2 ^ d ≡ top + 1)
  depth-top =
      let a : 2 ^ 1 ≤ 2 ^ d = pow_mono k.low in
      let b : 2 ^ d ≤ 2 ^ 16 = pow_mono k.high in
      (omega (arith, k.same), omega (arith, k.same), omega (arith, k.same))

  -- what is divided by it while an input is laid: v of at most top times top, under a rest of at most top
  pub share-low : (v x : ℕ) → v ≤ top * top → x ≤ top → v * x + top / 2 < top_at d * top_at d * 2 ^ d
  share-low v x h l =
      let s : top * top * (top + 1) ≡ top * top * top + top * top = omega arith in
      let a = mul-below (top * top) top v x h l in
      let b = mul-below top top top 1 (omega arith) depth-top.0 in
      rw (← k.same, depth-top.2) (omega (arith, depth-top.0))

  pub whole-low : (v : ℕ) → v ≤ top * top → v + top / 2 < top_at d * top_at d * 2 ^ d
  whole-low v h = let e : v * 1 ≡ v = omega arith in omega (arith, share-low v 1 h depth-top.0)

  pub top-is : (x : ℕ) → x / top_at d ≡ x / top
  top-is x = ap (λ (t : ℕ). x / t) (sym k.same)
