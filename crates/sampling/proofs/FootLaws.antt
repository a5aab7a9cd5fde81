-- Laws of footprints: where they lie, how samples share them, and the weighed sums, which fit 64 bits.
use mathlib.Core.Path.{◌∙◌, ◌≡◌, ap, sym}
use Prim.Native.Nat.{◌*◌, ◌+◌, ◌-◌, ◌/◌, ◌<◌, ◌^◌, ◌≤◌, max, min, suc, ℕ}
use native.Mathlib.Nat.{add-mul, div-le_of_le-mul, div-lt_iff_lt-mul, div-mul-le_self, le-div_iff_mul-le, le_trans, mul_assoc, mul_comm, mul-le-mul, mul-le-mul_right, mul_left_comm, suc-mul, zero-add}
use native.Mathlib.Omega.{arith}
use lib.Dec.{leb, lit≤}
use borrow.Author.Tests.{le-leb, lt-leb}
use Rattle.laws.proofs.Order.{by_order, pick-false, pick_true}
use Rattle.sampling.specs.Area.{around_of, first_of, foot_of, past_of, share_of, sum, weighed, weight_of}
use Rattle.sampling.specs.declared.area.Foot.{Foot}
use Rattle.sampling.specs.inner.Sums.{FootIn}

pub min-case {ℓ} : {X : Type ℓ} (a b : ℕ) → (a ≤ b → min a b ≡ a → X) → (b < a → min a b ≡ b → X) → X
min-case a b f g = by_order b a (λ h. g h (omega arith)) (λ h. f h (omega arith))

pub max-case {ℓ} : {X : Type ℓ} (a b : ℕ) → (a ≤ b → max a b ≡ b → X) → (b < a → max a b ≡ a → X) → X
max-case a b f g = by_order b a (λ h. g h (omega arith)) (λ h. f h (omega arith))

pub min-left : (a b : ℕ) → a ≤ b → min a b ≡ a
min-left a b h = omega arith

pub min-right : (a b : ℕ) → b < a → min a b ≡ b
min-right a b h = omega arith

pub min-le : (a b : ℕ) → (min a b ≤ a) × (min a b ≤ b)
min-le a b = (omega arith, omega arith)

-- ---- a sample that a footprint touches

touch : (a e j : ℕ) → a / 256 ≤ j → j < (e + 255) / 256 → (256 * j < e) × (a < 256 * j + 256)
touch a e j l h = (omega arith, omega arith)

pub touched : (f : Foot) (j : ℕ) → first_of f ≤ j → j < past_of f → (256 * j < f.end) × (f.start < 256 * j + 256)
unfolding first_of past_of
touched f j l h = touch f.start f.end j l h

inside_past : (e n j : ℕ) → e ≤ 256 * n → j < (e + 255) / 256 → j < n
inside_past e n j l h = omega arith

pub past-in : (f : Foot) (n j : ℕ) → FootIn f n → j < past_of f → j < n
unfolding past_of
past-in f n j k h = inside_past f.end n j k.inside h

-- how much of a footprint stands before sample j
unfoldable pub before : Foot → ℕ → ℕ
before f j = min f.end (256 * j) - f.start

pub before-le : (f : Foot) (j : ℕ) → before f j ≤ f.end - f.start
unfolding before
before-le f j = let h = (min-le f.end (256 * j)).0 in omega (arith, h)

module _ (f : Foot) (j : ℕ) (some : f.start < f.end) (low : first_of f ≤ j) (high : j < past_of f) where
  abbrev L : ℕ
  L = min f.end (256 * j + 256)

  abbrev G : ℕ
  G = max f.start (256 * j)

  -- the end of its share: past the sample's first place and past the footprint's start
  end_is : (256 * j < L) × (f.start < L) × (L ≤ 256 * j + 256) × (L ≤ f.end)
  end_is =
      let t = touched f j low high in
      let b = min-le f.end (256 * j + 256) in
      min-case f.end (256 * j + 256)
      (λ h e. (omega (arith, e, t.0), omega (arith, e, some), b.1, b.0))
      (λ h e. (omega (arith, e), omega (arith, e, t.1), b.1, b.0))

  pub weight-some : G ≤ L
  weight-some =
      let k = end_is in
      max-case f.start (256 * j) (λ h e. omega (arith, e, k.0)) (λ h e. omega (arith, e, k.1))

  pub weight-le : weight_of f j ≤ 256
  unfolding weight_of
  weight-le =
      let k = end_is in
      max-case f.start (256 * j) (λ h e. omega (arith, e, k.2)) (λ h e. omega (arith, e, h, k.2))

  pub weight-step : before f j + weight_of f j ≡ before f (j + 1)
  unfolding before weight_of
  weight-step =
      let k = end_is in
      let t = touched f j low high in
      let n : 256 * (j + 1) ≡ 256 * j + 256 = omega arith in
      rw n
      (min-case f.end (256 * j) (λ h e. absurd (off h t.0))
      (λ h e. max-case f.start (256 * j) (λ g q. omega (arith, e, q, g, k.0)) (λ g q. omega (arith, e, q, g, k.1))))
    where
      off : f.end ≤ 256 * j → 256 * j < f.end → ⊥
      off a b = omega arith

-- ---- weighed sums

pub sum_step : (g : ℕ → ℕ) (j n : ℕ) → j < n → sum g j (n - j) ≡ g j + sum g (j + 1) (n - (j + 1))
unfolding sum
sum_step g j n h = let e : n - j ≡ suc (n - (j + 1)) = omega arith in ap (sum g j) e

pub sum-end : (g : ℕ → ℕ) (j n : ℕ) → n ≤ j → sum g j (n - j) ≡ 0
unfolding sum
sum-end g j n h = let e : n - j ≡ 0 = omega arith in ap (sum g j) e

-- a sum on its way: what it has come to at sample j, and what is left; no item is above `most`
pub record Weighing (f : Foot) (v : ℕ → ℕ) (most j acc : ℕ) : Type 0 where
  pub low : first_of f ≤ j
  pub high : j ≤ past_of f
  pub rest : acc + sum (λ i. v i * weight_of f i) j (past_of f - j) ≡ weighed f v
  pub small : acc ≤ before f j * most

before-past : (a e : ℕ) → a < e → a / 256 ≤ (e + 255) / 256
before-past a e h = omega arith

pub first_past : (f : Foot) → f.start < f.end → first_of f ≤ past_of f
unfolding first_of past_of
first_past f h = before-past f.start f.end h

module _ (f : Foot) (v : ℕ → ℕ) (most : ℕ) (some : f.start < f.end) where
  pub weighing-start : Weighing f v most (first_of f) 0
  unfolding weighed
  weighing-start = record { low = omega arith; high = first_past f some; rest = zero-add _; small = omega arith }

  module _ (j acc : ℕ) (w : Weighing f v most j acc) (left : j < past_of f) (few : v j ≤ most) where
    next_small : acc + v j * weight_of f j ≤ before f (j + 1) * most
    next_small =
        let s = weight-step f j some w.low left in
        let m = add-mul (before f j) (weight_of f j) most in
        let k : v j * weight_of f j ≤ most * weight_of f j = mul-le-mul_right (weight_of f j) few in
        let c = mul_comm most (weight_of f j) in
        rw (← s) (omega (arith, m, k, c, w.small))

    -- the next sum fits what the whole footprint comes to at most
    pub weighing-fits : acc + v j * weight_of f j ≤ (f.end - f.start) * most
    weighing-fits = le_trans next_small (mul-le-mul_right most (before-le f (j + 1)))

    pub weighing-step : (acc' : ℕ) → acc' ≡ acc + v j * weight_of f j → Weighing f v most (j + 1) acc'
    weighing-step acc' e =
        record {
          low = omega (arith, w.low);
          high = omega (arith, left);
          rest = omega (arith, e, w.rest, sum_step (λ i. v i * weight_of f i) j (past_of f) left);
          small = rw e next_small;
        }

  pub weighing-done : (j acc : ℕ) → Weighing f v most j acc → past_of f ≤ j → (acc ≡ weighed f v) × (acc ≤ (f.end - f.start) * most)
  weighing-done j acc w h = (
    omega (arith, w.rest, sum-end (λ i. v i * weight_of f i) j (past_of f) h),
    le_trans w.small (mul-le-mul_right most (before-le f j)),
  )

-- ---- where footprints lie

share_in : (from to k : ℕ) → to ≤ from → k < to → FootIn (share_of from to k) from
unfolding share_of
share_in from to k l h =
    let a : ℕ = k * from * 256 in
    let b : ℕ = (k + 1) * from * 256 in
    let z : 0 < to = omega arith in
    let q : (k + 1) * from ≡ k * from + from = omega (arith, suc-mul k from) in
    let e : b ≡ a + from * 256 = ap (λ (n : ℕ). n * 256) q ∙ add-mul (k * from) from 256 in
    let g : (a / to + 1) * to ≡ a / to * to + to = omega (arith, suc-mul (a / to) to) in
    let s : (a / to + 1) * to ≤ b = omega (arith, e, g, div-mul-le_self a to) in
    let m : b ≤ to * (256 * from) = rw (mul_assoc (k + 1) from 256, mul_comm 256 from) (mul-le-mul_right (from * 256) (omega arith)) in
    let o : a / to + 1 ≤ b / to = (le-div_iff_mul-le z).1 s in
    record { positive = omega (arith, o); inside = div-le_of_le-mul to m }

around-in : (from to k : ℕ) → 1 ≤ from → FootIn (around_of from to k) from
unfolding around_of
around-in from to k h = record {
  positive = omega arith;
  inside = let l = (min-le ((2 * k + 1) * from * 256 / (2 * to) - 128) (256 * (from - 1))).1 in omega (arith, l);
}

pub foot-in : (from to k : ℕ) → 1 ≤ from → k < to → FootIn (foot_of from to k) from
unfolding foot_of
foot-in from to k l h =
    by_order from to
    (λ g. rw (pick-false (leb to from) (share_of from to k) (around_of from to k) (lt-leb to from g)) (around-in from to k l))
    (λ g. rw (pick_true (leb to from) (share_of from to k) (around_of from to k) (le-leb to from g)) (share_in from to k g h))

-- ---- the mean

-- two footprints of a picture of at most 2 ^ 30 pixels
pub whole-small : (across down : Foot) (columns rows : ℕ) → FootIn across columns → FootIn down rows → columns * rows ≤ 2 ^ 30
    → (1 ≤ (across.end - across.start) * (down.end - down.start)) × ((across.end - across.start) * (down.end - down.start) ≤ 2 ^ 46)
whole-small across down columns rows a b h =
    let w : across.end - across.start ≤ 256 * columns = omega (arith, a.inside) in
    let t : down.end - down.start ≤ 256 * rows = omega (arith, b.inside) in
    let m = mul-le-mul w t in
    let e : 256 * columns * (256 * rows) ≡ 65536 * (columns * rows) = squares columns rows in
    let x : 1 ≤ across.end - across.start = omega (arith, a.positive) in
    let y : 1 ≤ down.end - down.start = omega (arith, b.positive) in
    (mul-le-mul x y, omega (arith, m, e, h))
  where
    squares : (c r : ℕ) → 256 * c * (256 * r) ≡ 65536 * (c * r)
    squares c r =
        mul_assoc 256 c (256 * r) ∙ ap (λ (n : ℕ). 256 * n) (mul_left_comm c 256 r) ∙ sym (mul_assoc 256 256 (c * r))

-- the sum over both is at most 65535 × the whole
pub sum-whole : (n w t : ℕ) → n ≤ t * (w * 65535) → n ≤ 65535 * (w * t)
sum-whole n w t h =
    let e : t * (w * 65535) ≡ 65535 * (w * t) = sym (mul_assoc t w 65535) ∙ mul_comm (t * w) 65535 ∙ ap (λ (k : ℕ). 65535 * k) (mul_comm t w) in
    rw e at h

-- a mean of samples is a sample, however it is rounded
pub mean-small : (n k d : ℕ) → k < d → n ≤ 65535 * d → (n + k) / d < 65536
mean-small n k d l h = let p : 1 ≤ d = omega arith in (div-lt_iff_lt-mul p).1 (omega arith)

-- products along an axis of at most 2 ^ 26 samples
pub axis-small : (k from : ℕ) → k ≤ 2 ^ 27 → from ≤ 2 ^ 26 → k * from ≤ 2 ^ 53
axis-small k from a b = le_trans (mul-le-mul a b) (lit≤ tt)
