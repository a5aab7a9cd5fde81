-- Document 01's two sentences on an overlay's places: one that no input covers holds fill and fill alpha exactly; one whose covering
-- inputs all have alpha top or straight alpha 0 there ends as the topmost at top, capped at top, with alpha top, or as the fill.
use mathlib.Core.Bool.{Bool, ◌&&◌, and-false, false, true}
use mathlib.Core.List.{List, [], ◌∷◌}
use mathlib.Core.Path.{◌∙◌, ◌≡◌, ap, ap₂, refl, sym}
use Prim.Native.Nat.{◌*◌, ◌+◌, ◌-◌, ◌/◌, ◌<◌, ◌≤◌, min, ℕ}
use native.Mathlib.Nat.{div-eq_of_lt, le_refl, mul-add-div, mul-le-mul, mul-le-mul_right}
use native.Mathlib.Omega.{arith}
use lib.Dec.{eqb}
use borrow.Author.Tests.{eq-eqb, ne_eqb}
use Rattle.laws.proofs.Order.{by_equal, by_order, by-test, or_left, or_right, pick-false, pick_true, true-and}
use Rattle.laws.specs.Any.{any}
use Rattle.laws.specs.Pick.{pick}
use Rattle.image.specs.Format.{cover, half_x, half_y, top_of}
use Rattle.image.specs.declared.format.Form.{Form}
use Rattle.image.specs.declared.format.Part.{Part}
use Rattle.image.specs.declared.format.Part.TheVariants.{Alpha, Cb, Cr, Luma}
use Rattle.planes.specs.Picture.{pixel}
use Rattle.inputs.specs.Layers.{Layer}
use Rattle.blend.specs.Overlay.{alpha_of, backdrop, base, covers_at, final_sample, over, over_all, over_alpha, over_at, over_colour, overlay_pic, place_at, sample_of, unpremultiply}
use Rattle.overlay.specs.Covered.{AllCut, CutOut, Found, capped, ends_as, hides, layer, nowhere, topmost, topmost_from}

-- ---- arithmetic

half-div : (a : ℕ) → 0 < a → a / 2 / a ≡ 0
half-div a l = div-eq_of_lt (omega arith)

-- k times a, with half of a for the rounding, over a
round-div : (k a : ℕ) → 0 < a → (a * k + a / 2) / a ≡ k
round-div k a l = mul-add-div l k (a / 2) ∙ ap (λ (z : ℕ). k + z) (half-div a l) ∙ omega arith

-- nothing shows through what is opaque
under : (v top : ℕ) → 0 < top → (v * (top - top) + top / 2) / top ≡ 0
under v top l = ap (λ (z : ℕ). z / top) (let e : top - top ≡ 0 = omega arith in rw e (omega arith)) ∙ half-div top l

over-colour-opaque : (top m : ℕ) (b : Bool) (v : ℕ) → 0 < top → over_colour top m top b v ≡ min (m * top) (top * top)
unfolding over_colour pick
over-colour-opaque top m true v l = rw (under v top l) (omega arith)
over-colour-opaque top m false v l = rw (under v top l) (omega arith)

over-alpha-opaque : (top c : ℕ) → 0 < top → over_alpha top top c ≡ top
unfolding over_alpha
over-alpha-opaque top c l = rw (under c top l) (omega arith)

-- what is clear changes nothing
under-clear : (v top : ℕ) → 0 < top → (v * (top - 0) + top / 2) / top ≡ v
under-clear v top l = let e : v * (top - 0) + top / 2 ≡ top * v + top / 2 = (let z : top - 0 ≡ top = omega arith in rw z (omega arith)) in rw (e, round-div v top l)

over-colour-clear : (top m v : ℕ) → 0 < top → v ≤ top * top → over_colour top m 0 false v ≡ v
unfolding over_colour pick
over-colour-clear top m v l h = rw (under-clear v top l) (omega arith)

over-alpha-clear : (top c : ℕ) → 0 < top → c ≤ top → over_alpha top 0 c ≡ c
unfolding over_alpha
over-alpha-clear top c l h = rw (under-clear c top l) (omega arith)

min-mul : (m top : ℕ) → min (m * top) (top * top) ≡ top * min m top
min-mul m top =
    by_order top m
    (λ l. let h : top ≤ m = omega arith in let k : min m top ≡ top = omega arith in rw k (omega (arith, mul-le-mul_right top h)))
    (λ l. let k : min m top ≡ m = omega arith in rw k (omega (arith, mul-le-mul_right top l)))

unpremultiply-fill : (top fill a : ℕ) → fill ≤ top → unpremultiply top fill (fill * a) a ≡ fill
unfolding unpremultiply
unpremultiply-fill top fill a h =
    by_equal a 0 (λ e. pick_true _ _ _ (eq-eqb a 0 e))
    (λ e.
    let p : 0 < a = omega arith in
    let c : fill * a + a / 2 ≡ a * fill + a / 2 = omega arith in
    pick-false _ _ _ (ne_eqb a 0 e) ∙ rw (c, round-div fill a p) (omega arith))

unpremultiply-opaque : (top fill m : ℕ) → 0 < top → unpremultiply top fill (min (m * top) (top * top)) top ≡ min m top
unfolding unpremultiply
unpremultiply-opaque top fill m l = pick-false _ _ _ (ne_eqb top 0 (nonzero top l)) ∙ rw (min-mul m top, round-div (min m top) top l) (omega arith)
  where
    nonzero : (k : ℕ) → 0 < k → k ≡ 0 → ⊥
    nonzero k h e = omega arith

-- ---- a place

hides-yes : (top x y : ℕ) (l : Layer) → covers_at l x y ≡ true → eqb (alpha_of top l x y) top ≡ true → hides top x y l ≡ true
unfolding hides
hides-yes top x y l a b = true-and _ _ a b

hides-clear : (top x y : ℕ) (l : Layer) → eqb (alpha_of top l x y) top ≡ false → hides top x y l ≡ false
unfolding hides
hides-clear top x y l b = ap (λ (k : Bool). covers_at l x y && k) b ∙ and-false (covers_at l x y)

hides-off : (top x y : ℕ) (l : Layer) → covers_at l x y ≡ false → hides top x y l ≡ false
unfolding hides
hides-off top x y l a = ap (λ (k : Bool). k && eqb (alpha_of top l x y) top) a

module _ (top : ℕ) (some-top : 0 < top) (fill : Part → ℕ) (low : (p : Part) → fill p ≤ top) (x y : ℕ) where
  -- what a plane carries once the topmost of alpha top is found
  carried : Part → Found → ℕ
  carried p nowhere = backdrop fill p
  carried Luma (layer l) = min (sample_of l Luma x y * top) (top * top)
  carried Cb (layer l) = min (sample_of l Cb x y * top) (top * top)
  carried Cr (layer l) = min (sample_of l Cr x y * top) (top * top)
  carried Alpha (layer l) = top

  most : Part → ℕ
  most Luma = top * top
  most Cb = top * top
  most Cr = top * top
  most Alpha = top

  carried-low : (p : Part) (f : Found) → carried p f ≤ most p
  unfolding carried most backdrop
  carried-low Luma nowhere = mul-le-mul (low Luma) (low Alpha)
  carried-low Cb nowhere = mul-le-mul (low Cb) (low Alpha)
  carried-low Cr nowhere = mul-le-mul (low Cr) (low Alpha)
  carried-low Alpha nowhere = low Alpha
  carried-low Luma (layer l) = omega arith
  carried-low Cb (layer l) = omega arith
  carried-low Cr (layer l) = omega arith
  carried-low Alpha (layer l) = le_refl top

  opaque-over : (p : Part) (l : Layer) (b : Bool) (v : ℕ) → over top p (sample_of l p x y) top b v ≡ carried p (layer l)
  unfolding over carried
  opaque-over Luma l b v = over-colour-opaque top _ b v some-top
  opaque-over Cb l b v = over-colour-opaque top _ b v some-top
  opaque-over Cr l b v = over-colour-opaque top _ b v some-top
  opaque-over Alpha l b v = over-alpha-opaque top v some-top

  clear-over : (p : Part) (m v : ℕ) → v ≤ most p → over top p m 0 false v ≡ v
  unfolding over most
  clear-over Luma m v h = over-colour-clear top m v some-top h
  clear-over Cb m v h = over-colour-clear top m v some-top h
  clear-over Cr m v h = over-colour-clear top m v some-top h
  clear-over Alpha m v h = over-alpha-clear top v some-top h

  -- one input hides what is below, or leaves it
  step : (p : Part) (l : Layer) (f : Found) → CutOut top x y l → over_at top p x y l (carried p f) ≡ carried p (pick (hides top x y l) (layer l) f)
  unfolding over_at
  step p l f k =
      by-test (covers_at l x y)
      (λ e. by_equal (alpha_of top l x y) top
      (λ q.
      pick_true _ _ _ e ∙ ap (λ (a : ℕ). over top p (sample_of l p x y) a l.premultiplied (carried p f)) q ∙ opaque-over p l l.premultiplied (carried p f) ∙ sym (ap (carried p) (pick_true _ _ _ (hides-yes top x y l e (eq-eqb _ _ q)))))
      (λ q.
      let z = k.clear e q in
      pick_true _ _ _ e ∙ ap₂ (λ (a : ℕ) (b : Bool). over top p (sample_of l p x y) a b (carried p f)) z.0 z.1 ∙ clear-over p (sample_of l p x y) (carried p f) (carried-low p f) ∙ sym (ap (carried p) (pick-false _ _ _ (hides-clear top x y l (ne_eqb _ _ q))))))
      (λ e. pick-false _ _ _ e ∙ sym (ap (carried p) (pick-false _ _ _ (hides-off top x y l e))))

  all-over : (p : Part) (ls : List Layer) (f : Found) → AllCut top x y ls → over_all top p x y ls (carried p f) ≡ carried p (topmost_from (hides top x y) f ls)
  unfolding over_all topmost_from AllCut
  all-over p [] f k = refl
  all-over p (l ∷ ls) f k = ap (over_all top p x y ls) (step p l f k.0) ∙ all-over p ls (pick (hides top x y l) (layer l) f) k.1

  ends : (p : Part) (f : Found) → final_sample top p (fill p) (carried p f) (carried Alpha f) ≡ ends_as top fill p x y f
  unfolding final_sample carried ends_as capped backdrop
  ends Luma nowhere = unpremultiply-fill top (fill Luma) (fill Alpha) (low Luma)
  ends Cb nowhere = unpremultiply-fill top (fill Cb) (fill Alpha) (low Cb)
  ends Cr nowhere = unpremultiply-fill top (fill Cr) (fill Alpha) (low Cr)
  ends Alpha nowhere = let h = low Alpha in omega arith
  ends Luma (layer l) = unpremultiply-opaque top (fill Luma) _ some-top
  ends Cb (layer l) = unpremultiply-opaque top (fill Cb) _ some-top
  ends Cr (layer l) = unpremultiply-opaque top (fill Cr) _ some-top
  ends Alpha (layer l) = omega arith

  -- the second sentence
  pub settles : (ls : List Layer) → AllCut top x y ls → (p : Part) → place_at top fill ls p x y ≡ ends_as top fill p x y (topmost (hides top x y) ls)
  unfolding place_at topmost carried
  settles ls k p =
      ap₂ (λ (a b : ℕ). final_sample top p (fill p) a b) (all-over p ls nowhere k) (all-over Alpha ls nowhere k) ∙ ends p (topmost_from (hides top x y) nowhere ls)

  none_over : (p : Part) (ls : List Layer) (v : ℕ) → any (λ l. covers_at l x y) ls ≡ false → over_all top p x y ls v ≡ v
  unfolding over_all any over_at
  none_over p [] v e = refl
  none_over p (l ∷ ls) v e = ap (over_all top p x y ls) (pick-false _ _ _ (or_left (covers_at l x y) _ e)) ∙ none_over p ls v (or_right (covers_at l x y) _ e)

  -- where nothing is laid the fill is left
  pub unchanged : (ls : List Layer) → ((p : Part) → over_all top p x y ls (backdrop fill p) ≡ backdrop fill p) → (p : Part) → place_at top fill ls p x y ≡ fill p
  unfolding place_at carried ends_as
  unchanged ls e p = ap₂ (λ (a b : ℕ). final_sample top p (fill p) a b) (e p) (e Alpha) ∙ ends p nowhere

  -- the first
  pub uncovered : (ls : List Layer) → any (λ l. covers_at l x y) ls ≡ false → (p : Part) → place_at top fill ls p x y ≡ fill p
  uncovered ls e p = unchanged ls (λ q. none_over q ls (backdrop fill q) e) p

-- ---- a plane that is not halved reads at each place what is worked there

pub whole-pixel : (m : Form) (fill : Part → ℕ) (ls : List Layer) (p : Part) (x y : ℕ) → half_x m.format p ≡ false → half_y m.format p ≡ false → pixel (overlay_pic m fill ls) p x y ≡ place_at (top_of m.format) fill ls p x y
unfolding pixel overlay_pic cover base
whole-pixel m fill ls p x y e f = rw (e, f)
