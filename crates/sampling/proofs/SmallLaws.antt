-- What each operation makes of a picture whose samples fit their bytes has samples that fit theirs.
use mathlib.Core.Path.{◌∙◌, ◌≡◌, refl, sym}
use Prim.Native.Nat.{◌*◌, ◌+◌, ◌-◌, ◌/◌, ◌<◌, ◌^◌, ◌≤◌, suc, zero, ℕ}
use native.Mathlib.Nat.{div-lt_iff_lt-mul, mul_assoc, mul_comm, mul-le-mul, mul_left_comm, suc-mul}
use native.Mathlib.Omega.{arith}
use lib.Dec.{lit≤}
use Rattle.image.proofs.FormLaws.{bytes-cases, columns-some, rows-some}
use Rattle.planes.proofs.RoundTrip.{Small}
use Rattle.image.specs.Format.{bytes_of, columns_of, rows_of, sized}
use Rattle.planes.specs.Picture.{Pic}
use Rattle.image.specs.Sound.{FormSound}
use Rattle.sampling.proofs.FootLaws.{Weighing, foot-in, past-in, weighing-done, weighing-start, weighing-step}
use Rattle.sampling.specs.Area.{area, area_mean, first_of, past_of, weighed}
use Rattle.sampling.specs.inner.Sums.{FootIn}
use Rattle.sampling.specs.Rounded.{rounded}
use Rattle.sampling.specs.declared.area.Foot.{Foot}

-- ---- a mean is at most the max sample

weighing-all : (f : Foot) (n : ℕ) (v : ℕ → ℕ) (most : ℕ) → FootIn f n → ((i : ℕ) → i < n → v i ≤ most)
    → (left j acc : ℕ) → left ≡ past_of f - j → Weighing f v most j acc → weighed f v ≤ (f.end - f.start) * most
weighing-all f n v most k h zero j acc e w =
    let d = weighing-done f v most k.positive j acc w (omega (arith, e, w.high)) in
    rw d.0 at d.1
weighing-all f n v most k h (suc left) j acc e w =
    let l : j < past_of f = omega (arith, e) in
    weighing-all f n v most k h left (j + 1) _ (omega (arith, e)) (weighing-step f v most k.positive j acc w l (h j (past-in f n j k l)) _ refl)

pub weighed-le : (f : Foot) (n : ℕ) (v : ℕ → ℕ) (most : ℕ) → FootIn f n → ((i : ℕ) → i < n → v i ≤ most) → weighed f v ≤ (f.end - f.start) * most
weighed-le f n v most k h = weighing-all f n v most k h _ (first_of f) 0 refl (weighing-start f v most k.positive)

rounded-le : (n d most : ℕ) → 1 ≤ d → n ≤ d * most → rounded n d ≤ most
unfolding rounded
rounded-le n d most l h =
    let e : (most + 1) * d ≡ most * d + d = omega (arith, suc-mul most d) in
    let b : (n + d / 2) / d < most + 1 = (div-lt_iff_lt-mul l).1 (omega (arith, e, mul_comm d most, h)) in
    omega (arith, b)

pub mean-le : (across down : Foot) (columns rows : ℕ) (v : ℕ → ℕ → ℕ) (most : ℕ) → FootIn across columns → FootIn down rows
    → ((x y : ℕ) → x < columns → y < rows → v x y ≤ most) → area_mean across down v ≤ most
unfolding area_mean
mean-le across down columns rows v most a b h =
    let w : 1 ≤ across.end - across.start = omega (arith, a.positive) in
    let t : 1 ≤ down.end - down.start = omega (arith, b.positive) in
    let s = weighed-le down rows _ ((across.end - across.start) * most) b (λ y j. weighed-le across columns _ most a (λ x i. h x y i j)) in
    let e : (down.end - down.start) * ((across.end - across.start) * most) ≡ (across.end - across.start) * (down.end - down.start) * most
    = mul_left_comm (down.end - down.start) (across.end - across.start) most ∙ sym (mul_assoc (across.end - across.start) (down.end - down.start) most) in
    rounded-le _ _ most (mul-le-mul w t) (rw e at s)

pub area_small : (P : Pic) (w h : ℕ) → FormSound P.form → Small P → Small (area P w h)
unfolding area sized
area_small P w h ok k = record {
  small = λ p x y i j.
      let z : 1 ≤ 256 ^ bytes_of P.form.format = bytes-cases P.form.format (λ e. rw e (lit≤ tt)) (λ e. rw e (lit≤ tt)) in
      let m = mean-le _ _ (columns_of P.form p) (rows_of P.form p) (P.at p) (256 ^ bytes_of P.form.format - 1)
      (foot-in _ _ x (columns-some P.form ok p) i) (foot-in _ _ y (rows-some P.form ok p) j) (λ u v a b. omega (arith, k.small p u v a b)) in
      omega (arith, m, z);
}
