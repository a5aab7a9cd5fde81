-- Laws of column sums: two weighed sums may be taken in either order; footprints from quotients that are carried.
use mathlib.Core.Bool.{◌&&◌, true}
use mathlib.Core.List.{List}
use mathlib.Core.Path.{◌∙◌, ◌≡◌, ap, ap₂, refl, sym}
use Prim.Native.Nat.{◌*◌, ◌+◌, ◌-◌, ◌/◌, ◌<◌, ◌^◌, ◌≤◌, max, min, suc, zero, ℕ}
use native.Mathlib.Nat.{add-mul, add-zero, div-add-mod', div-eq_of_lt, div-le_self, mod-eq_of_lt, mod-lt, mul-add-div_right, mul-add-mod_self_right, mul_assoc, mul_comm, mul-le-mul_right, suc-mul, zero-add, zero-mul}
use native.Mathlib.Omega.{arith}
use lib.Dec.{eqb, leb}
use lib.ListN.{get_or, length, set}
use lib.Seq.{get_or-set_other, get_or-set_same}
use borrow.Author.Tests.{le-leb, leb-true, lt-leb}
use Rattle.laws.proofs.Order.{and-true, by_equal, by_order, by-test, mul-below, pick-false, pick_true}
use Rattle.laws.specs.Pick.{pick}
use Rattle.planes.specs.Bytes.{sample_at, sample_in}
use Rattle.sampling.proofs.AgreeLaws.{sum-cong}
use Rattle.sampling.proofs.FootLaws.{Weighing, first_past, mean-small, min-left, min-right, weighing-start, whole-small}
use Rattle.sampling.proofs.MeanLaws.{weighed-constant}
use Rattle.sampling.specs.Area.{area_mean, around_of, first_of, foot_of, past_of, share_of, sum, weighed, weight_of}
use Rattle.sampling.specs.Rounded.{rounded}
use Rattle.sampling.specs.declared.area.Foot.{Foot}
use Rattle.sampling.specs.declared.raster.Axis.{Axis}
use Rattle.sampling.specs.declared.raster.Raster.{Raster}
use Rattle.sampling.specs.inner.Redraw.{AreaAxis, RasterFits}
use Rattle.sampling.specs.inner.Sums.{AreaFits, FootIn}
use Rattle.means.specs.declared.sums.Held.{Held}
use Rattle.means.specs.declared.sums.Pace.{Pace}
use Rattle.means.specs.declared.sums.Stand.{Stand}
use Rattle.means.specs.inner.Columns.{MeansFits, SumsHeld, column_of, foot_from, pace_of, place_of, stand_of}

-- ---- sums

sum-le : (f g : ℕ → ℕ) (k n : ℕ) → ((i : ℕ) → k ≤ i → i < k + n → f i ≤ g i) → sum f k n ≤ sum g k n
unfolding sum
sum-le f g k zero h = omega arith
sum-le f g k (suc n) h =
    let a = h k (omega arith) (omega arith) in
    let b = sum-le f g (k + 1) n (λ i x y. h i (omega arith) (omega arith)) in
    omega (arith, a, b)

sum-nothing : (k n : ℕ) → sum (λ i. 0) k n ≡ 0
unfolding sum
sum-nothing k zero = refl
sum-nothing k (suc n) = zero-add _ ∙ sum-nothing (k + 1) n

sum-times : (f : ℕ → ℕ) (c k n : ℕ) → sum f k n * c ≡ sum (λ i. f i * c) k n
unfolding sum
sum-times f c k zero = zero-mul c
sum-times f c k (suc n) = add-mul (f k) (sum f (k + 1) n) c ∙ ap (λ (x : ℕ). f k * c + x) (sum-times f c (k + 1) n)

sum-plus : (f g : ℕ → ℕ) (k n : ℕ) → sum f k n + sum g k n ≡ sum (λ i. f i + g i) k n
unfolding sum
sum-plus f g k zero = refl
sum-plus f g k (suc n) =
    let e = sum-plus f g (k + 1) n in
    omega (arith, e)

sum-exchange : (g : ℕ → ℕ → ℕ) (i m k n : ℕ) → sum (λ x. sum (λ y. g x y) k n) i m ≡ sum (λ y. sum (λ x. g x y) i m) k n
unfolding sum
sum-exchange g i zero k n = sym (sum-nothing k n)
sum-exchange g i (suc m) k n =
    ap (λ (a : ℕ). sum (λ y. g i y) k n + a) (sum-exchange g (i + 1) m k n)
    ∙ sum-plus (λ y. g i y) (λ y. sum (λ x. g x y) (i + 1) m) k n

swap-last : (a b c : ℕ) → a * b * c ≡ a * c * b
swap-last a b c = mul_assoc a b c ∙ ap (λ (x : ℕ). a * x) (mul_comm b c) ∙ sym (mul_assoc a c b)

-- two weighed sums, in either order
pub weighed-exchange : (across down : Foot) (v : ℕ → ℕ → ℕ) → weighed across (λ x. weighed down (λ y. v x y)) ≡ weighed down (λ y. weighed across (λ x. v x y))
unfolding weighed
weighed-exchange across down v =
    let i = first_of across in
    let m = past_of across - first_of across in
    let k = first_of down in
    let n = past_of down - first_of down in
    sum-cong _ _ i m (λ x a b. sum-times (λ y. v x y * weight_of down y) (weight_of across x) k n)
    ∙ sum-exchange (λ x y. v x y * weight_of down y * weight_of across x) i m k n
    ∙ sum-cong _ _ k n
    (λ y a b. sum-cong _ _ i m (λ x p q. swap-last (v x y) (weight_of down y) (weight_of across x))
    ∙ sym (sum-times (λ x. v x y * weight_of across x) (weight_of down y) i m))

weighed-below : (f : Foot) (v : ℕ → ℕ) (most : ℕ) → first_of f ≤ past_of f → ((i : ℕ) → first_of f ≤ i → i < past_of f → v i ≤ most) → weighed f v ≤ weighed f (λ j. most)
unfolding weighed
weighed-below f v most l h = sum-le _ _ (first_of f) (past_of f - first_of f) (λ i a b. mul-le-mul_right (weight_of f i) (h i a (omega arith)))

-- items of at most `most`
pub weighed-le : (f : Foot) (v : ℕ → ℕ) (most : ℕ) → f.start < f.end → ((i : ℕ) → first_of f ≤ i → i < past_of f → v i ≤ most) → weighed f v ≤ most * (f.end - f.start)
weighed-le f v most some h = rw (← (weighed-constant f most some)) (weighed-below f v most (first_past f some) h)

-- items that are the same under the footprint
pub weighed-as : (f : Foot) (v u : ℕ → ℕ) → f.start < f.end → ((i : ℕ) → first_of f ≤ i → i < past_of f → v i ≡ u i) → weighed f v ≡ weighed f u
unfolding weighed
weighed-as f v u some h =
    let l = first_past f some in
    sum-cong _ _ (first_of f) (past_of f - first_of f) (λ i a b. ap (λ (x : ℕ). x * weight_of f i) (h i a (omega arith)))

-- ---- quotients

-- a quotient with its remainder
pub stand-is : (q r by : ℕ) → r < by → stand_of (q * by + r) by ≡ record { at = q; rest = r }
unfolding stand_of
stand-is q r by h =
    let z : 0 < by = omega arith in
    ap₂ (λ (a b : ℕ). record { at = a; rest = b })
    (mul-add-div_right z q r ∙ ap (λ (x : ℕ). q + x) (div-eq_of_lt h) ∙ add-zero q)
    (mul-add-mod_self_right q by r ∙ mod-eq_of_lt h)

pub stand-under : (q r by : ℕ) → r < by → record { at = q; rest = r } ≡ stand_of (q * by + r) by
stand-under q r by h = sym (stand-is q r by h)

-- the remainders came to the divisor
pub stand-over : (q r by : ℕ) → by ≤ r → r < 2 * by → record { at = q + 1; rest = r - by } ≡ stand_of (q * by + r) by
stand-over q r by h l =
    let e : (q + 1) * by + (r - by) ≡ q * by + r = omega (arith, suc-mul q by) in
    sym (stand-is (q + 1) (r - by) by (omega arith)) ∙ ap (λ (n : ℕ). stand_of n by) e

-- two quotients of one divisor come to the quotient of the sum
pub stand-sum : (m n by : ℕ) → ((stand_of m by).at + (stand_of n by).at) * by + ((stand_of m by).rest + (stand_of n by).rest) ≡ m + n
unfolding stand_of
stand-sum m n by =
    let a = add-mul (m / by) (n / by) by in
    omega (arith, a, div-add-mod' m by, div-add-mod' n by)

pub stand-rest : (n by : ℕ) → 1 ≤ by → (stand_of n by).rest < by
unfolding stand_of
stand-rest n by h = mod-lt n h

-- the next place
pub place-next : (p : Pace) (k : ℕ)
    → stand_of (((place_of p k).at + (stand_of p.step p.by).at) * p.by + ((place_of p k).rest + (stand_of p.step p.by).rest)) p.by ≡ place_of p (k + 1)
unfolding place_of
place-next p k =
    let e : p.first + k * p.step + p.step ≡ p.first + (k + 1) * p.step = omega (arith, suc-mul k p.step) in
    ap (λ (n : ℕ). stand_of n p.by) (stand-sum (p.first + k * p.step) p.step p.by ∙ e)

share-number : (k from : ℕ) → k * (256 * from) ≡ k * from * 256
share-number k from = ap (λ (x : ℕ). k * x) (mul_comm 256 from) ∙ sym (mul_assoc k from 256)

around-number : (k from : ℕ) → 256 * from + k * (512 * from) ≡ (2 * k + 1) * from * 256
around-number k from =
    let a : k * (512 * from) ≡ k * from * 512 = ap (λ (x : ℕ). k * x) (mul_comm 512 from) ∙ sym (mul_assoc k from 512) in
    let b : (2 * k + 1) * from ≡ 2 * k * from + from = omega (arith, suc-mul (2 * k) from) in
    let c : 2 * k * from ≡ 2 * (k * from) = mul_assoc 2 k from in
    omega (arith, a, b, c)

-- the footprint of sample k
pub foot-carried : (a : Axis) (k : ℕ) → foot_from a (place_of (pace_of a) k).at (place_of (pace_of a) (k + 1)).at ≡ foot_of a.from a.to k
unfolding foot_from foot_of place_of pace_of stand_of share_of around_of pick
foot-carried a k =
    by_order a.from a.to
    (λ h. rw (lt-leb a.to a.from h) (ap (λ (n : ℕ). record { start = min (n / (2 * a.to) - 128) (256 * (a.from - 1)); end = min (n / (2 * a.to) - 128) (256 * (a.from - 1)) + 256 }) (around-number k a.from)))
    (λ h. rw (le-leb a.to a.from h) (ap₂ (λ (m n : ℕ). record { start = m / a.to; end = n / a.to }) (zero-add _ ∙ share-number k a.from) (zero-add _ ∙ share-number (k + 1) a.from)))

-- ---- lists of sums

pub below_none {ℓ} : {X : Type ℓ} (i : ℕ) → i < 0 → X
below_none i h = absurd (off h)
  where
    off : i < 0 → ⊥
    off l = omega arith

-- one more stored
pub stored_next : (acc : List ℕ) (j v : ℕ) (g : ℕ → ℕ) → j < length acc → ((i : ℕ) → i < j → get_or acc i 0 ≡ g i) → v ≡ g j → (i : ℕ) → i < j + 1 → get_or (set acc j v) i 0 ≡ g i
stored_next acc j v g room so e i h = by_equal i j (λ q. rw q (get_or-set_same acc j v 0 room ∙ e)) (λ n. get_or-set_other acc j i v 0 n ∙ so i (less n))
  where
    less : (i ≡ j → ⊥) → i < j
    less n = by_order i j (λ l. l) (λ l. absurd (n (omega arith)))

-- and those past it kept
pub kept-beyond : (acc₀ acc : List ℕ) (j v : ℕ) → ((i : ℕ) → j ≤ i → get_or acc i 0 ≡ get_or acc₀ i 0) → (i : ℕ) → j + 1 ≤ i → get_or (set acc j v) i 0 ≡ get_or acc₀ i 0
kept-beyond acc₀ acc j v so i h = get_or-set_other acc j i v 0 off ∙ so i (omega arith)
  where
    off : i ≡ j → ⊥
    off q = omega arith

-- ---- a footprint by its head, the whole samples, and its tail

head-min : (a e : ℕ) → min e (256 * (a / 256) + 256) - max a (256 * (a / 256)) ≡ min e (256 * (a / 256) + 256) - a
head-min a e = let h : max a (256 * (a / 256)) ≡ a = omega arith in ap (λ (x : ℕ). min e (256 * (a / 256) + 256) - x) h

-- all in one sample
pub head-all : (f : Foot) → f.end ≤ 256 * (f.start / 256) + 256 → weight_of f (first_of f) ≡ f.end - f.start
unfolding weight_of first_of
head-all f h = head-min f.start f.end ∙ ap (λ (x : ℕ). x - f.start) (min-left f.end (256 * (f.start / 256) + 256) h)

pub head-part : (f : Foot) → 256 * (f.start / 256) + 256 < f.end → weight_of f (first_of f) ≡ 256 * (f.start / 256) + 256 - f.start
unfolding weight_of first_of
head-part f h = head-min f.start f.end ∙ ap (λ (x : ℕ). x - f.start) (min-right f.end (256 * (f.start / 256) + 256) h)

inner-weight : (a e j : ℕ) → a / 256 < j → j < e / 256 → min e (256 * j + 256) - max a (256 * j) ≡ 256
inner-weight a e j l h = let p : max a (256 * j) ≡ 256 * j = omega arith in let q : min e (256 * j + 256) ≡ 256 * j + 256 = omega arith in omega (arith, p, q)

pub inner-whole : (f : Foot) (j : ℕ) → f.start / 256 < j → j < f.end / 256 → weight_of f j ≡ 256
unfolding weight_of
inner-whole f j l h = inner-weight f.start f.end j l h

tail-weight : (a e : ℕ) → a / 256 < e / 256 → min e (256 * (e / 256) + 256) - max a (256 * (e / 256)) ≡ e - 256 * (e / 256)
tail-weight a e l = let p : max a (256 * (e / 256)) ≡ 256 * (e / 256) = omega arith in let q : min e (256 * (e / 256) + 256) ≡ e = omega arith in omega (arith, p, q)

pub tail-part : (f : Foot) → f.start / 256 < f.end / 256 → weight_of f (f.end / 256) ≡ f.end - 256 * (f.end / 256)
unfolding weight_of
tail-part f l = tail-weight f.start f.end l

past_one : (a e : ℕ) → e ≤ 256 * (a / 256) + 256 → (e + 255) / 256 ≤ a / 256 + 1
past_one a e h = omega arith

pub head-past : (f : Foot) → f.end ≤ 256 * (f.start / 256) + 256 → past_of f ≤ first_of f + 1
unfolding first_of past_of
head-past f h = past_one f.start f.end h

some-past : (a e : ℕ) → a < e → a / 256 < (e + 255) / 256
some-past a e h = omega arith

pub first-in : (f : Foot) → f.start < f.end → first_of f < past_of f
unfolding first_of past_of
first-in f h = some-past f.start f.end h

inner-in : (e j : ℕ) → j < e / 256 → j < (e + 255) / 256
inner-in e j h = omega arith

pub inner-past : (f : Foot) (j : ℕ) → j < f.end / 256 → j < past_of f
unfolding past_of
inner-past f j h = inner-in f.end j h

even-past : (e : ℕ) → e - 256 * (e / 256) ≡ 0 → (e + 255) / 256 ≤ e / 256
even-past e h = omega arith

pub tail_none : (f : Foot) → f.end - 256 * (f.end / 256) ≡ 0 → past_of f ≤ f.end / 256
unfolding past_of
tail_none f h = even-past f.end h

odd-past : (e : ℕ) → (e - 256 * (e / 256) ≡ 0 → ⊥) → (e / 256 < (e + 255) / 256) × ((e + 255) / 256 ≤ e / 256 + 1)
odd-past e h = (by_order (e / 256) ((e + 255) / 256) (λ l. l) (λ l. absurd (h (omega arith))), omega arith)

pub tail-some : (f : Foot) → (f.end - 256 * (f.end / 256) ≡ 0 → ⊥) → (f.end / 256 < past_of f) × (past_of f ≤ f.end / 256 + 1)
unfolding past_of
tail-some f h = odd-past f.end h

short-foot : (a e first n : ℕ) → first ≤ a / 256 → (e + 255) / 256 ≤ first + n → e - a ≤ 256 * n
short-foot a e first n l h = omega arith

-- a footprint over n samples
pub foot-short : (f : Foot) (first n : ℕ) → first ≤ first_of f → past_of f ≤ first + n → f.end - f.start ≤ 256 * n
unfolding first_of past_of
foot-short f first n l h = short-foot f.start f.end first n l h

-- two samples
second-weight : (a e : ℕ) → 256 * (a / 256) + 256 < e → e ≤ 256 * (a / 256) + 256 + 256 → min e (256 * (a / 256 + 1) + 256) - max a (256 * (a / 256 + 1)) ≡ e - (256 * (a / 256) + 256)
second-weight a e l h = let p : max a (256 * (a / 256 + 1)) ≡ 256 * (a / 256) + 256 = omega arith in let q : min e (256 * (a / 256 + 1) + 256) ≡ e = omega arith in omega (arith, p, q)

pub second-part : (f : Foot) → 256 * (f.start / 256) + 256 < f.end → f.end ≤ 256 * (f.start / 256) + 256 + 256 → weight_of f (f.start / 256 + 1) ≡ f.end - (256 * (f.start / 256) + 256)
unfolding weight_of
second-part f l h = second-weight f.start f.end l h

second-ends : (a e : ℕ) → 256 * (a / 256) + 256 < e → e ≤ 256 * (a / 256) + 256 + 256 → (a / 256 + 1 < (e + 255) / 256) × ((e + 255) / 256 ≤ a / 256 + 1 + 1)
second-ends a e l h = (omega arith, omega arith)

pub second_past : (f : Foot) → 256 * (f.start / 256) + 256 < f.end → f.end ≤ 256 * (f.start / 256) + 256 + 256 → (f.start / 256 + 1 < past_of f) × (past_of f ≤ f.start / 256 + 1 + 1)
unfolding past_of
second_past f l h = second-ends f.start f.end l h

-- in the columns that are held
pub covered : (f : Foot) (h : Held) → 256 * h.first ≤ f.start → f.end ≤ 256 * h.past → (h.first ≤ first_of f) × (past_of f ≤ h.past)
unfolding first_of past_of
covered f h a b = (low h.first f.start a, high f.end h.past b)
  where
    low : (n s : ℕ) → 256 * n ≤ s → n ≤ s / 256
    low n s l = omega arith

    high : (e n : ℕ) → e ≤ 256 * n → (e + 255) / 256 ≤ n
    high e n l = omega arith

-- a sample is below 65536
pub sample-few : (d : List ℕ) (bytes stride x y : ℕ) → ((i : ℕ) → get_or d i 0 < 256) → sample_in d bytes stride x y ≤ 65535
unfolding sample_in sample_at
sample-few d bytes stride x y h =
    let i = y * stride + x * bytes in
    by-test (eqb bytes 1) (λ e. rw (pick_true _ (get_or d i 0) (get_or d i 0 + 256 * get_or d (i + 1) 0) e) (omega (arith, h i))) (λ e. rw (pick-false _ (get_or d i 0) (get_or d i 0 + 256 * get_or d (i + 1) 0) e) (omega (arith, h i, h (i + 1))))

pub weighing-at : (f : Foot) (v : ℕ → ℕ) (most j k acc : ℕ) → j ≡ k → Weighing f v most j acc → Weighing f v most k acc
weighing-at f v most j k acc e w = rw e at w

-- ---- a row of means

pub means-area : (d : List ℕ) (r : Raster) (f down : Foot) → RasterFits d r → MeansFits r down → FootIn f r.across.from → AreaFits d r.bytes r.stride f down
means-area d r f down o k w = record {
  columns = r.across.from;
  rows = r.down.from;
  positive = o.positive;
  bounded = o.bounded;
  wide = w;
  tall = k.tall;
  size = k.size;
  inside = o.inside;
}

pub weighing-zero : (f : Foot) (v : ℕ → ℕ) (most acc : ℕ) → f.start < f.end → acc ≡ 0 → Weighing f v most (first_of f) acc
weighing-zero f v most acc some e = rw e (weighing-start f v most some)

module _ (d : List ℕ) (r : Raster) (f down : Foot) (k : MeansFits r down) (w : FootIn f r.across.from) (bytes : (i : ℕ) → get_or d i 0 < 256) where
  abbrev whole_of : ℕ
  whole_of = (f.end - f.start) * (down.end - down.start)

  column-few : (x : ℕ) → column_of d r down x ≤ 65535 * (down.end - down.start)
  unfolding column_of
  column-few x = weighed-le down _ 65535 k.tall.positive (λ y a b. sample-few d r.bytes r.stride x y bytes)

  pub columns-few : weighed f (column_of d r down) ≤ 65535 * whole_of
  columns-few =
      let a = weighed-le f (column_of d r down) (65535 * (down.end - down.start)) w.positive (λ x p q. column-few x) in
      let e : 65535 * (down.end - down.start) * (f.end - f.start) ≡ 65535 * whole_of = mul_assoc 65535 (down.end - down.start) (f.end - f.start) ∙ ap (λ (n : ℕ). 65535 * n) (mul_comm (down.end - down.start) (f.end - f.start)) in
      rw e at a

  pub columns-mean : rounded (weighed f (column_of d r down)) whole_of ≡ area_mean f down (λ x y. sample_in d r.bytes r.stride x y)
  unfolding column_of area_mean
  columns-mean = ap (λ (n : ℕ). rounded n whole_of) (weighed-exchange f down (λ x y. sample_in d r.bytes r.stride x y))

  pub mean-sample : rounded (weighed f (column_of d r down)) whole_of < 65536
  unfolding rounded
  mean-sample =
      let s = whole-small f down _ _ w k.tall k.size in
      mean-small (weighed f (column_of d r down)) (whole_of / 2) whole_of (half-less whole_of s.0) columns-few
    where
      half-less : (n : ℕ) → 1 ≤ n → n / 2 < n
      half-less n h = omega arith

  -- by the columns that are held
  pub held-columns : (sums : List ℕ) (h : Held) → SumsHeld sums d r down h → h.first ≤ first_of f → past_of f ≤ h.past → weighed f (λ x. get_or sums (x - h.first) 0) ≡ weighed f (column_of d r down)
  held-columns sums h o a b = weighed-as f _ _ w.positive (λ x p q. o.held x (omega (arith, a, p)) (omega (arith, b, q)))

pub held_none : (sums d : List ℕ) (r : Raster) (down : Foot) → SumsHeld sums d r down (record { first = 0; past = 0 })
held_none sums d r down = record { room = omega arith; held = λ x a b. below_none x b }

pub held-from : (sums d : List ℕ) (r : Raster) (down : Foot) (first many : ℕ) → many ≤ length sums → ((j : ℕ) → j < many → get_or sums j 0 ≡ column_of d r down (first + j))
    → SumsHeld sums d r down (record { first = first; past = first + many })
held-from sums d r down first many l h = record {
  room = omega (arith, l);
  held = λ x a b. h (x - first) (inside x a b) ∙ ap (column_of d r down) (again x a);
}
  where
    inside : (x : ℕ) → first ≤ x → x < first + many → x - first < many
    inside x a b = omega arith

    again : (x : ℕ) → first ≤ x → first + (x - first) ≡ x
    again x a = omega arith

-- what the tests of a footprint tell
pub covered-by : (f : Foot) (h : Held) → (leb (256 * h.first) f.start && leb f.end (256 * h.past)) ≡ true → (h.first ≤ first_of f) × (past_of f ≤ h.past)
covered-by f h e = let k = and-true _ _ e in covered f h (leb-true _ _ k.0) (leb-true _ _ k.1)

-- ---- places along an axis

pub place-first : (p : Pace) → stand_of p.first p.by ≡ place_of p 0
unfolding place_of
place-first p = let e : p.first ≡ p.first + 0 * p.step = omega (arith, zero-mul p.step) in ap (λ (n : ℕ). stand_of n p.by) e

pub advance-next : (p : Pace) (k : ℕ) (s step : Stand) (by : ℕ) → s ≡ place_of p k → step ≡ stand_of p.step p.by → by ≡ p.by
    → stand_of ((s.at + step.at) * by + (s.rest + step.rest)) by ≡ place_of p (k + 1)
advance-next p k s step by e f g = rw (e, f, g) (place-next p k)

pub pace-by : (a : Axis) → 1 ≤ a.to → a.to ≤ 2 ^ 26 → (1 ≤ (pace_of a).by) × ((pace_of a).by ≤ 2 ^ 40)
unfolding pace_of pick
pace-by a h l = by_order a.from a.to (λ g. rw (lt-leb a.to a.from g) (omega arith, omega arith)) (λ g. rw (le-leb a.to a.from g) (h, omega arith))

pace-step : (a : Axis) → a.from ≤ 2 ^ 26 → ((pace_of a).first ≤ 2 ^ 34) × ((pace_of a).step ≤ 2 ^ 35)
unfolding pace_of pick
pace-step a h = by_order a.from a.to (λ g. rw (lt-leb a.to a.from g) (omega arith, omega arith)) (λ g. rw (le-leb a.to a.from g) (omega arith, omega arith))

stand-le : (n by : ℕ) → (stand_of n by).at ≤ n
unfolding stand_of
stand-le n by = div-le_self n by

pub place-fits : (a : Axis) (k : ℕ) (s step : Stand) (by : ℕ) → s ≡ place_of (pace_of a) k → step ≡ stand_of (pace_of a).step (pace_of a).by → by ≡ (pace_of a).by
    → 1 ≤ a.to → AreaAxis a → k < a.to → (s.rest < by) × (step.rest < by) × (by ≤ 2 ^ 40) × (s.at ≤ 2 ^ 62) × (step.at ≤ 2 ^ 62)
unfolding place_of
place-fits a k s step by e f g some fits h =
    let b = pace-by a some fits.new in
    let p = pace-step a fits.old in
    let m = mul-below (2 ^ 26) (2 ^ 35) k (pace_of a).step (omega (arith, fits.new)) p.1 in
    let u = stand-le ((pace_of a).first + k * (pace_of a).step) (pace_of a).by in
    let v = stand-le (pace_of a).step (pace_of a).by in
    rw (e, f, g) (stand-rest _ _ b.0, stand-rest _ _ b.0, b.1, omega (arith, p.0, m, u), omega (arith, p.1, v))
