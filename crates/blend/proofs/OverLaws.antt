-- What the blending arithmetic keeps: colour times opacity is at most top times top, and what is opaque stays opaque.
use mathlib.Core.Bool.{Bool, false, true}
use mathlib.Core.List.{List, [], ◌∷◌}
use mathlib.Core.Path.{◌∙◌, ◌≡◌, ap, refl, sym}
use Prim.Native.Nat.{◌*◌, ◌+◌, ◌-◌, ◌/◌, ◌≤◌, min, ℕ}
use native.Mathlib.Nat.{div-eq_of_lt, mul-add-div}
use native.Mathlib.Omega.{arith}
use borrow.Author.Tests.{ne_eqb}
use Rattle.laws.proofs.Order.{by-test, mul-below, pick-false, pick-le, pick_true}
use Rattle.laws.specs.Pick.{pick}
use Rattle.image.specs.declared.format.Part.{Part}
use Rattle.image.specs.declared.format.Part.TheVariants.{Alpha, Cb, Cr, Luma}
use Rattle.inputs.specs.Layers.{Layer}
use Rattle.blend.specs.Overlay.{covers_at, over, over_all, over_alpha, over_at, over_colour, unpremultiply}

-- ---- bounds

top-square : (top : ℕ) → 1 ≤ top → top ≤ top * top
top-square top h = omega (arith, mul-below top top top 1 (omega arith) h)

pub over-held : (top : ℕ) (p : Part) (m a : ℕ) (b : Bool) (v : ℕ) → 1 ≤ top → over top p m a b v ≤ top * top
unfolding over over_colour over_alpha
over-held top Luma m a b v h = omega arith
over-held top Cb m a b v h = omega arith
over-held top Cr m a b v h = omega arith
over-held top Alpha m a b v h = omega (arith, top-square top h)

pub over_at-held : (top : ℕ) (p : Part) (x y : ℕ) (l : Layer) (v : ℕ) → v ≤ top * top → 1 ≤ top → over_at top p x y l v ≤ top * top
unfolding over_at
over_at-held top p x y l v k h = pick-le _ _ _ _ (over-held top p _ _ _ v h) k

pub over_all-held : (top : ℕ) (p : Part) (x y : ℕ) (ls : List Layer) (v : ℕ) → v ≤ top * top → 1 ≤ top → over_all top p x y ls v ≤ top * top
unfolding over_all
over_all-held top p x y [] v k h = k
over_all-held top p x y (l ∷ ls) v k h = over_all-held top p x y ls (over_at top p x y l v) (over_at-held top p x y l v k h) h

-- ---- an opaque canvas

-- k times top, with half of top for the rounding, over top
pub round-top : (k top : ℕ) → 1 ≤ top → (top * k + top / 2) / top ≡ k
round-top k top h = mul-add-div h k (top / 2) ∙ ap (λ (z : ℕ). k + z) (div-eq_of_lt (omega arith)) ∙ omega arith

under-opaque : (v top : ℕ) → 1 ≤ top → (v * (top - top) + top / 2) / top ≡ 0
under-opaque v top h =
    let e : top - top ≡ 0 = omega arith in
    let z : v * (top - top) + top / 2 ≡ top / 2 = rw e (omega arith) in
    rw z (div-eq_of_lt (omega arith))

-- nothing shows through an input's alpha top
pub over-colour-opaque : (top m : ℕ) (b : Bool) (v : ℕ) → 1 ≤ top → over_colour top m top b v ≡ min (m * top) (top * top)
unfolding over_colour pick
over-colour-opaque top m true v h = rw (under-opaque v top h) (omega arith)
over-colour-opaque top m false v h = rw (under-opaque v top h) (omega arith)

over-opaque : (top a : ℕ) → 1 ≤ top → over_alpha top a top ≡ top
unfolding over_alpha
over-opaque top a h = rw (round-top (top - a) top h) (omega arith)

opaque-at : (top x y : ℕ) (l : Layer) → 1 ≤ top → over_at top Alpha x y l top ≡ top
unfolding over_at over
opaque-at top x y l h = by-test (covers_at l x y) (λ e. pick_true _ _ _ e ∙ over-opaque top _ h) (λ e. pick-false _ _ _ e)

pub opaque-stays : (top x y : ℕ) (ls : List Layer) → 1 ≤ top → over_all top Alpha x y ls top ≡ top
unfolding over_all
opaque-stays top x y [] h = refl
opaque-stays top x y (l ∷ ls) h = ap (over_all top Alpha x y ls) (opaque-at top x y l h) ∙ opaque-stays top x y ls h

-- where the opacity is top, the sample is not the fill's
pub unpremultiply-opaque : (top f v : ℕ) → 1 ≤ top → unpremultiply top f v top ≡ unpremultiply top 0 v top
unfolding unpremultiply
unpremultiply-opaque top f v h = let e = ne_eqb top 0 (omega arith) in pick-false _ _ _ e ∙ sym (pick-false _ _ _ e)
