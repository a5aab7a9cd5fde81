-- Where no input has alpha, the inputs laid on the fill in list order are the overlay (document 01, Overlay).
use mathlib.Core.Bool.{Bool, ◌&&◌, false, true}
use mathlib.Core.List.{List, [], ◌∷◌}
use mathlib.Core.Path.{◌∙◌, ◌≡◌, ap, ap₂, refl, sym}
use Prim.Native.Nat.{◌*◌, ◌+◌, ◌-◌, ◌<◌, ◌≤◌, ℕ}
use native.Mathlib.Omega.{arith}
use lib.ListN.{length}
use borrow.Author.Tests.{eq-eqb}
use Rattle.laws.proofs.Order.{and-true, bool_same, by-test, or_left, or_right, pick-false, pick_true, within, within-true, within-yes}
use Rattle.laws.specs.Any.{any}
use Rattle.laws.specs.Pick.{pick}
use Rattle.laws.specs.Puts.{puts}
use Rattle.numbers.specs.declared.Offset.{Offset}
use Rattle.image.proofs.FormLaws.{top-some}
use Rattle.image.specs.Format.{columns_of, half_x, half_y, has_part, rows_of, top_of}
use Rattle.image.specs.Sound.{FormSound}
use Rattle.image.specs.declared.format.Form.{Form}
use Rattle.image.specs.declared.format.Part.{Part}
use Rattle.image.specs.declared.format.Part.TheVariants.{Alpha, Cb, Cr, Luma}
use Rattle.records.specs.declared.record.Frame.{Frame}
use Rattle.planes.proofs.RoundTrip.{encode-agree}
use Rattle.planes.specs.Bytes.{encode, head_bytes, plane_bytes, row_bytes, rows_bytes, size_of}
use Rattle.planes.specs.Picture.{Agree, Pic}
use Rattle.paste.specs.Stored.{headed}
use Rattle.paste.specs.inner.Even.{by_part, flat_pic}
use Rattle.fill.specs.declared.Ycbcr.{Ycbcr}
use Rattle.derived.specs.declared.overlay.OverlayDescriptor.{OverlayDescriptor}
use Rattle.inputs.specs.Layers.{Layer, layers_of, see_through}
use Rattle.opaque.proofs.FitLaws.{fit-clear}
use Rattle.opaque.proofs.LaidLaws.{covered_at, frames-laid, input-at, input_pic, layers-form, layers_pic, left_at, pasted_at}
use Rattle.opaque.proofs.WindowLaws.{window-spot}
use Rattle.opaque.specs.inner.Laid.{across_of, down_of, laid_at, lay_frames, unfit}
use Rattle.opaque.specs.inner.Window.{spot_of, window_of}
use Rattle.overlay.proofs.CoveredLaws.{settles}
use Rattle.blend.proofs.ReachLaws.{stretch-covers, stretch-from}
use Rattle.overlay.specs.Covered.{AllCut, Found, capped, ends_as, hides, layer, nowhere, topmost, topmost_from}
use Rattle.blend.specs.Overlay.{alpha_of, base, covers, covers_at, overlay_pic, sample_of, spot_at}
use Rattle.overlay.specs.Run.{fill_part}

-- ---- along one axis

base_step : (h : Bool) (x : ℕ) → base h x ≡ x * pick h 2 1
unfolding base pick
base_step true x = omega arith
base_step false x = omega arith

-- a window has just the samples of the plane that the input covers
window-covers : (h : Bool) (o : Offset) (side n x : ℕ) → x < n → within (window_of h o side n).at (window_of h o side n).count x ≡ covers side o (base h x)
unfolding window_of
window-covers h o side n x l =
    bool_same _ _ (λ q. let w = within-true _ _ x q in stretch-covers h o side x (omega (arith, w.0, w.1)) (omega (arith, w.0, w.1)))
    (λ q. let s = stretch-from h o side x q in within-yes _ _ x (omega (arith, s.0, s.1)) (omega (arith, s.0, s.1)))

-- and the input's places there
window-spotted : (h : Bool) (o : Offset) (side n x : ℕ) → within (window_of h o side n).at (window_of h o side n).count x ≡ true → spot_of h (window_of h o side n) (x - (window_of h o side n).at) ≡ spot_at o (base h x)
unfolding spot_at
window-spotted h o side n x q =
    let w = within-true _ _ x q in
    let s = window-spot h o side n (x - (window_of h o side n).at) (omega (arith, w.0, w.1)) in
    let e : (window_of h o side n).at + (x - (window_of h o side n).at) ≡ x = omega (arith, w.0) in
    let f : ((window_of h o side n).at + (x - (window_of h o side n).at)) * pick h 2 1 ≡ base h x = ap (λ (k : ℕ). k * pick h 2 1) e ∙ sym (base_step h x) in
    omega (arith, s.0, f)

and-swap : (a b : Bool) → (a && b) ≡ (b && a)
and-swap true true = refl
and-swap true false = refl
and-swap false true = refl
and-swap false false = refl

-- ---- a sample of the canvas

module _ (c : Form) (fill : Part → ℕ) (p : Part) (x y : ℕ) (in_x : x < columns_of c p) (in_y : y < rows_of c p) where
  abbrev X : ℕ
  X = base (half_x c.format p) x

  abbrev Y : ℕ
  Y = base (half_y c.format p) y

  abbrev top : ℕ
  top = top_of c.format

  covered-across : (l : Layer) → within (across_of c l.pic.form l.placement p).at (across_of c l.pic.form l.placement p).count x ≡ covers l.pic.form.width l.placement.horizontal X
  unfolding across_of
  covered-across l = window-covers (half_x c.format p) l.placement.horizontal l.pic.form.width (columns_of c p) x in_x

  covered-down : (l : Layer) → within (down_of c l.pic.form l.placement p).at (down_of c l.pic.form l.placement p).count y ≡ covers l.pic.form.height l.placement.vertical Y
  unfolding down_of
  covered-down l = window-covers (half_y c.format p) l.placement.vertical l.pic.form.height (rows_of c p) y in_y

  covered-is : (l : Layer) → covered_at c l.pic.form l.placement p x y ≡ covers_at l X Y
  unfolding covered_at covers_at
  covered-is l = ap₂ (λ (a b : Bool). a && b) (covered-down l) (covered-across l) ∙ and-swap (covers l.pic.form.height l.placement.vertical Y) _

  laid-capped : (l : Layer) (q : Part) → laid_at top l.pic q (spot_at l.placement.horizontal X) (spot_at l.placement.vertical Y) ≡ capped top X Y l q
  unfolding laid_at capped sample_of
  laid-capped l Luma = refl
  laid-capped l Cb = refl
  laid-capped l Cr = refl
  laid-capped l Alpha = refl

  left_is : (l : Layer) → covers_at l X Y ≡ true → left_at c l.pic l.placement p x y ≡ capped top X Y l p
  unfolding left_at covers_at across_of down_of
  left_is l e =
      let k = and-true _ _ e in
      ap₂ (laid_at top l.pic p)
      (window-spotted (half_x c.format p) l.placement.horizontal l.pic.form.width (columns_of c p) x (covered-across l ∙ k.0))
      (window-spotted (half_y c.format p) l.placement.vertical l.pic.form.height (rows_of c p) y (covered-down l ∙ k.1))
      ∙ laid-capped l p

  -- an input without alpha hides what it covers
  alpha-is : (l : Layer) → see_through l ≡ false → alpha_of top l X Y ≡ top
  unfolding alpha_of see_through
  alpha-is l a = pick-false _ _ _ a

  hides-is : (l : Layer) → see_through l ≡ false → hides top X Y l ≡ covers_at l X Y
  unfolding hides
  hides-is l a = ap (λ (b : Bool). covers_at l X Y && b) (eq-eqb _ _ (alpha-is l a)) ∙ and-swap (covers_at l X Y) true

  all-cut : (ls : List Layer) → any see_through ls ≡ false → AllCut top X Y ls
  unfolding any AllCut
  all-cut [] a = tt
  all-cut (l ∷ ls) a = (record { clear = λ e n. absurd (n (alpha-is l (or_left (see_through l) _ a))) }, all-cut ls (or_right (see_through l) _ a))

  laid-step : (l : Layer) (P : Pic) (f : Found) → see_through l ≡ false → P.at p x y ≡ ends_as top fill p X Y f → pasted_at c l.pic l.placement p P x y ≡ ends_as top fill p X Y (pick (hides top X Y l) (layer l) f)
  unfolding pasted_at ends_as
  laid-step l P f a e =
      by-test (covers_at l X Y)
      (λ q. pick_true _ _ _ (covered-is l ∙ q) ∙ left_is l q ∙ ap (ends_as top fill p X Y) (sym (pick_true _ (layer l) f (hides-is l a ∙ q))))
      (λ q. pick-false _ _ _ (covered-is l ∙ q) ∙ e ∙ ap (ends_as top fill p X Y) (sym (pick-false _ (layer l) f (hides-is l a ∙ q))))

  laid-ends : has_part c.format p ≡ true → (ls : List Layer) (P : Pic) (f : Found) → any see_through ls ≡ false → P.at p x y ≡ ends_as top fill p X Y f
      → (layers_pic c ls P).at p x y ≡ ends_as top fill p X Y (topmost_from (hides top X Y) f ls)
  unfolding layers_pic topmost_from any
  laid-ends h [] P f a e = e
  laid-ends h (l ∷ ls) P f a e =
      laid-ends h ls (input_pic c l.pic l.placement P) _ (or_right (see_through l) _ a) (input-at c l.pic l.placement P p x y h ∙ laid-step l P f (or_left (see_through l) _ a) e)

  laid-place : 0 < top_of c.format → ((q : Part) → fill q ≤ top_of c.format) → has_part c.format p ≡ true → (ls : List Layer) → any see_through ls ≡ false
      → (layers_pic c ls (flat_pic c fill)).at p x y ≡ (overlay_pic c fill ls).at p x y
  unfolding overlay_pic flat_pic ends_as topmost
  laid-place some low h ls a = laid-ends h ls (flat_pic c fill) nowhere a refl ∙ sym (settles top some fill low X Y ls (all-cut ls a) p)

-- ---- the picture, and its record

module _ (c : Form) (fill : Part → ℕ) (some : 0 < top_of c.format) (low : (p : Part) → fill p ≤ top_of c.format) (ls : List Layer) (a : any see_through ls ≡ false) where
  laid-form : (layers_pic c ls (flat_pic c fill)).form ≡ c
  unfolding flat_pic
  laid-form = layers-form c ls (flat_pic c fill)

  laid-agree : Agree (layers_pic c ls (flat_pic c fill)) (overlay_pic c fill ls)
  unfolding overlay_pic
  laid-agree = record {
    form = laid-form;
    reads = λ p h x y l m.
        laid-place c fill p x y (rw laid-form at l) (rw laid-form at m) some low (rw laid-form at h) ls a;
  }

pub flat-encode : (c : Form) (s : Ycbcr) (alpha : ℕ) → headed (head_bytes c) (flat_pic c (by_part s.y s.cb s.cr alpha)) ≡ encode (flat_pic c (fill_part s alpha))
unfolding headed flat_pic by_part fill_part encode plane_bytes rows_bytes row_bytes
flat-encode c s alpha = refl

flat-form : (c : Form) (fill : Part → ℕ) → (flat_pic c fill).form ≡ c
unfolding flat_pic
flat-form c fill = refl

-- the fill painted, and the inputs laid
pub opaque-drawn : (c : Form) (body tray list : List ℕ) (e : OverlayDescriptor) (frs : List Frame) (s : Ycbcr) (alpha : ℕ) (d d1 d2 : List ℕ) → FormSound c → ((p : Part) → fill_part s alpha p ≤ top_of c.format)
    → any (unfit c) frs ≡ false → size_of c ≤ length d → d1 ≡ puts d 0 (headed (head_bytes c) (flat_pic c (by_part s.y s.cb s.cr alpha))) → d2 ≡ lay_frames c body tray e 0 frs d1
    → d2 ≡ puts d 0 (encode (overlay_pic c (fill_part s alpha) (layers_of body tray list e 0 frs)))
opaque-drawn c body tray list e frs s alpha d d1 d2 ok low fit room q1 q2 =
    q2 ∙ ap (lay_frames c body tray e 0 frs) (q1 ∙ ap (puts d 0) (flat-encode c s alpha))
    ∙ frames-laid c body tray list e 0 frs (flat_pic c (fill_part s alpha)) d (flat-form c (fill_part s alpha)) room
    ∙ ap (puts d 0) (encode-agree _ _ (laid-agree c (fill_part s alpha) (top-some c.format ok.low) low _ (fit-clear body tray list e c 0 frs fit)))
