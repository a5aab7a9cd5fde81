-- An equal depth and an equal size are the identity.
use mathlib.Core.Path.{◌∙◌, ◌≡◌, ap, ap₂, refl}
use Prim.Native.Nat.{◌*◌, ◌+◌, ◌-◌, ◌/◌, ◌≤◌, ℕ}
use native.Mathlib.Nat.{add-zero, mul-div_cancel, mul_right_comm}
use native.Mathlib.Omega.{arith}
use borrow.Author.Tests.{le-leb}
use Rattle.laws.proofs.Order.{pick_true}
use Rattle.image.proofs.FormLaws.{columns-some, rows-some}
use Rattle.image.specs.Format.{columns_of, rows_of, sized}
use Rattle.planes.specs.Picture.{Agree, Pic}
use Rattle.image.specs.Sound.{FormSound}
use Rattle.sampling.proofs.FootLaws.{max-case, min-left}
use Rattle.sampling.proofs.PlaceLaws.{level-same, near_same}
use Rattle.sampling.specs.Area.{area, area_mean, first_of, foot_of, past_of, share_of, sum, weighed, weight_of}
use Rattle.sampling.specs.Depth.{rescaled, to_depth}
use Rattle.sampling.specs.Nearest.{nearest}
use Rattle.sampling.specs.Rounded.{rounded}
use Rattle.sampling.specs.declared.area.Foot.{Foot}

pub rescaled-same : (P : Pic) → Agree (rescaled P P.form.format.depth) P
unfolding rescaled to_depth
rescaled-same P = record { form = refl; reads = λ p h x y a b. level-same P.form.format.depth (P.at p x y) }

module _ (P : Pic) (ok : FormSound P.form) where
  pub nearest-same : Agree (nearest P P.form.width P.form.height) P
  unfolding nearest sized
  nearest-same = record { form = refl; reads = λ p h x y a b. ap₂ (P.at p) (near_same _ x (columns-some P.form ok p)) (near_same _ y (rows-some P.form ok p)) }

-- ---- the area of one sample

foot-same : (n k : ℕ) → 1 ≤ n → foot_of n n k ≡ record { start = k * 256; end = (k + 1) * 256 }
unfolding foot_of share_of
foot-same n k h =
    pick_true _ _ _ (le-leb n n (omega arith))
    ∙ ap₂ (λ (a b : ℕ). record { start = a; end = b })
    (ap (λ (i : ℕ). i / n) (mul_right_comm k n 256) ∙ mul-div_cancel (k * 256) h)
    (ap (λ (i : ℕ). i / n) (mul_right_comm (k + 1) n 256) ∙ mul-div_cancel ((k + 1) * 256) h)

abbrev one : ℕ → Foot
one k = record { start = k * 256; end = (k + 1) * 256 }

one-weight : (k : ℕ) → weight_of (one k) k ≡ 256
unfolding weight_of
one-weight k =
    let e = min-left ((k + 1) * 256) (256 * k + 256) (omega arith) in
    max-case (k * 256) (256 * k) (λ h g. omega (arith, e, g)) (λ h g. omega (arith, e, g))

one-weighed : (k : ℕ) (v : ℕ → ℕ) → weighed (one k) v ≡ v k * 256
unfolding weighed first_of past_of sum
one-weighed k v =
    let a : k * 256 / 256 ≡ k = omega arith in
    let n : ((k + 1) * 256 + 255) / 256 - k * 256 / 256 ≡ 1 = omega arith in
    ap₂ (sum (λ j. v j * weight_of (one k) j)) a n ∙ add-zero (v k * weight_of (one k) k) ∙ ap (λ (w : ℕ). v k * w) (one-weight k)

pub mean-same : (columns rows x y : ℕ) (v : ℕ → ℕ → ℕ) → 1 ≤ columns → 1 ≤ rows → area_mean (foot_of columns columns x) (foot_of rows rows y) v ≡ v x y
unfolding area_mean rounded
mean-same columns rows x y v a b =
    let e = one-weighed y (λ j. weighed (one x) (λ i. v i j)) ∙ ap (λ (n : ℕ). n * 256) (one-weighed x (λ i. v i y)) in
    let s : (x + 1) * 256 - x * 256 ≡ 256 = omega arith in
    let t : (y + 1) * 256 - y * 256 ≡ 256 = omega arith in
    rw (foot-same columns x a, foot-same rows y b) (rw (e, s, t) (omega arith))

pub area_same : (P : Pic) → FormSound P.form → Agree (area P P.form.width P.form.height) P
unfolding area sized
area_same P ok = record { form = refl; reads = λ p h x y a b. mean-same (columns_of P.form p) (rows_of P.form p) x y (P.at p) (columns-some P.form ok p) (rows-some P.form ok p) }
