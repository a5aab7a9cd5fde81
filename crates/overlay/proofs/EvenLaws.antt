-- Where nothing is promoted all lies even: a halved plane, too, reads at each place what is worked there.
use mathlib.Core.Bool.{Bool, ◌&&◌, ◌||◌, false, not, true, true≢false}
use mathlib.Core.List.{List, [], ◌∷◌}
use mathlib.Core.Path.{◌∙◌, ◌≡◌, ap, ap₂, refl, sym}
use Prim.Native.Nat.{◌%◌, ◌*◌, ◌/◌, ℕ}
use native.Mathlib.Omega.{arith}
use lib.Dec.{eqb, ltb}
use borrow.Author.Tests.{eqb-true, not-false}
use Rattle.laws.proofs.Order.{bool_same, by-test, or_left, or_right, pick-false, pick_true}
use Rattle.laws.specs.Any.{any}
use Rattle.laws.specs.Pick.{pick}
use Rattle.numbers.specs.declared.Offset.{Offset}
use Rattle.image.proofs.FormLaws.{like-halved}
use Rattle.image.specs.Format.{cover, half_x, half_y, halved, halves_x, halves_y, has_alpha, has_part, is_mono, middle_of, odd, top_of}
use Rattle.image.specs.declared.format.Form.{Form}
use Rattle.image.specs.declared.format.Part.{Part}
use Rattle.image.specs.declared.format.Part.TheVariants.{Alpha, Cb, Cr, Luma}
use Rattle.image.specs.declared.format.PixelFormat.{PixelFormat}
use Rattle.planes.proofs.PictureLaws.{evenly-if, needs-X, needs-Y, odd-false}
use Rattle.planes.specs.Picture.{full, pixel}
use Rattle.planes.specs.inner.Even.{Evenly}
use Rattle.inputs.specs.Layers.{Layer, odd_across_of, odd_down_of, odd_offset, other_chroma_of, overlay_form, promotes, see_through}
use Rattle.blend.proofs.ReachLaws.{covers-facts, facts-covers}
use Rattle.blend.specs.Overlay.{alpha_of, backdrop, base, covers, covers_at, final_sample, over, over_all, over_at, overlay_pic, place_at, sample_of, spot_at}
use Rattle.overlay.proofs.CoveredLaws.{whole-pixel}

-- ---- along one axis: the first place of a sample, and any other that it covers

pub record AxisEven (h : Bool) (o : Offset) (n : ℕ) : Type 0 where
  pub ahead : Evenly h o.ahead
  pub behind : Evenly h o.behind
  pub side : Evenly h n

there : (o : Offset) (n x : ℕ) → o.ahead % 2 ≡ 0 → o.behind % 2 ≡ 0 → n % 2 ≡ 0 → covers n o (2 * (x / 2)) ≡ true → covers n o x ≡ true
there o n x a b c e = let u = covers-facts n o (2 * (x / 2)) e in facts-covers n o x (omega arith) (omega arith)

back : (o : Offset) (n x : ℕ) → o.ahead % 2 ≡ 0 → o.behind % 2 ≡ 0 → n % 2 ≡ 0 → covers n o x ≡ true → covers n o (2 * (x / 2)) ≡ true
back o n x a b c e = let u = covers-facts n o x e in facts-covers n o (2 * (x / 2)) (omega arith) (omega arith)

covers-first : (h : Bool) (o : Offset) (n x : ℕ) → AxisEven h o n → covers n o (base h (cover h x)) ≡ covers n o x
unfolding base cover Evenly
covers-first true o n x k = bool_same _ _ (there o n x k.ahead k.behind k.side) (back o n x k.ahead k.behind k.side)
covers-first false o n x k = refl

spot-first : (h : Bool) (o : Offset) (n x : ℕ) → AxisEven h o n → cover h (spot_at o (base h (cover h x))) ≡ cover h (spot_at o x)
unfolding base cover Evenly spot_at
spot-first true o n x k = let a = k.ahead in let b = k.behind in omega arith
spot-first false o n x k = refl

cover-alike : (h h_x : Bool) (o : Offset) (n x : ℕ) → h ≡ h_x → AxisEven h_x o n → cover h (spot_at o (base h_x (cover h_x x))) ≡ cover h (spot_at o x)
cover-alike h h_x o n x e k = rw e (spot-first h_x o n x k)

-- ---- an input

-- it lies even where the plane is halved, is halved as the plane is, and has no alpha if the plane is halved
pub record LayerEven (h_x h_y : Bool) (p : Part) (l : Layer) : Type 0 where
  pub across : AxisEven h_x l.placement.horizontal l.pic.form.width
  pub down : AxisEven h_y l.placement.vertical l.pic.form.height
  pub like_x : half_x l.pic.form.format p ≡ h_x
  pub like_y : half_y l.pic.form.format p ≡ h_y
  pub alpha : (top x y : ℕ) → alpha_of top l (base h_x (cover h_x x)) (base h_y (cover h_y y)) ≡ alpha_of top l x y

unfoldable pub AllEven : Bool → Bool → Part → List Layer → Type 0
AllEven h_x h_y p [] = Unit {0}
AllEven h_x h_y p (l ∷ ls) = LayerEven h_x h_y p l × AllEven h_x h_y p ls

module _ (h_x h_y : Bool) (p : Part) (top x y : ℕ) where
  abbrev X : ℕ
  X = base h_x (cover h_x x)

  abbrev Y : ℕ
  Y = base h_y (cover h_y y)

  covers-alike : (l : Layer) → LayerEven h_x h_y p l → covers_at l X Y ≡ covers_at l x y
  unfolding covers_at
  covers-alike l k = ap₂ (λ (a b : Bool). a && b) (covers-first h_x _ _ x k.across) (covers-first h_y _ _ y k.down)

  sample-alike : (l : Layer) → LayerEven h_x h_y p l → sample_of l p X Y ≡ sample_of l p x y
  unfolding sample_of full pixel
  sample-alike l k =
      ap₂ (λ (a b : ℕ). pick (has_part l.pic.form.format p) (l.pic.at p a b) (middle_of l.pic.form.format))
      (cover-alike (half_x l.pic.form.format p) h_x l.placement.horizontal l.pic.form.width x k.like_x k.across) (cover-alike (half_y l.pic.form.format p) h_y l.placement.vertical l.pic.form.height y k.like_y k.down)

  one_alike : (l : Layer) (v : ℕ) → LayerEven h_x h_y p l → over_at top p X Y l v ≡ over_at top p x y l v
  unfolding over_at
  one_alike l v k = rw (covers-alike l k, sample-alike l k, k.alpha top x y)

  over-alpha-alike : (l : Layer) (v : ℕ) → LayerEven h_x h_y p l → over_at top Alpha X Y l v ≡ over_at top Alpha x y l v
  unfolding over_at over
  over-alpha-alike l v k = rw (covers-alike l k, k.alpha top x y)

  all_alike : (ls : List Layer) (v : ℕ) → AllEven h_x h_y p ls → (over_all top p X Y ls v ≡ over_all top p x y ls v) × (over_all top Alpha X Y ls v ≡ over_all top Alpha x y ls v)
  unfolding over_all AllEven
  all_alike [] v k = (refl, refl)
  all_alike (l ∷ ls) v k = (
    ap (over_all top p X Y ls) (one_alike l v k.0) ∙ (all_alike ls (over_at top p x y l v) k.1).0,
    ap (over_all top Alpha X Y ls) (over-alpha-alike l v k.0) ∙ (all_alike ls (over_at top Alpha x y l v) k.1).1,
  )

  pub place-alike : (fill : Part → ℕ) (ls : List Layer) → AllEven h_x h_y p ls → place_at top fill ls p X Y ≡ place_at top fill ls p x y
  unfolding place_at
  place-alike fill ls k = ap₂ (λ (a b : ℕ). final_sample top p (fill p) a b) (all_alike ls (backdrop fill p) k).0 (all_alike ls (backdrop fill Alpha) k).1

-- ---- the picture

pub even-pixel : (m : Form) (fill : Part → ℕ) (ls : List Layer) (p : Part) → AllEven (half_x m.format p) (half_y m.format p) p ls
    → (x y : ℕ) → pixel (overlay_pic m fill ls) p x y ≡ place_at (top_of m.format) fill ls p x y
unfolding pixel overlay_pic
even-pixel m fill ls p k x y = place-alike (half_x m.format p) (half_y m.format p) p (top_of m.format) x y fill ls k

-- ---- where nothing is promoted

none-odd : (o : Offset) (h : Bool) (n : ℕ) → (h ≡ true → (odd_offset o || odd n) ≡ false) → AxisEven h o n
unfolding odd_offset
none-odd o h n f = record {
  ahead = evenly-if h o.ahead (λ e. odd-false _ (or_left _ _ (or_left _ _ (f e))));
  behind = evenly-if h o.behind (λ e. odd-false _ (or_right (odd o.ahead) _ (or_left _ _ (f e))));
  side = evenly-if h n (λ e. odd-false _ (or_right (odd o.ahead || odd o.behind) _ (f e)));
}

halved-not : (p : Part) → halved false p ≡ false
unfolding halved
halved-not Luma = refl
halved-not Cb = refl
halved-not Cr = refl
halved-not Alpha = refl

halved-true : (b : Bool) (p : Part) → halved b p ≡ true → b ≡ true
halved-true true p e = refl
halved-true false p e = sym (halved-not p) ∙ e

-- mono and 4:4:4 are halved nowhere
chroma-whole : (f : PixelFormat) (p : Part) (n : ℕ) → f.chroma ≡ n → (eqb n 1 || eqb n 2) ≡ false → eqb n 1 ≡ false → (half_x f p ≡ false) × (half_y f p ≡ false)
unfolding halves_x halves_y
chroma-whole f p n z a b =
    (ap (λ (c : ℕ). halved (eqb c 1 || eqb c 2) p) z ∙ ap (λ (h : Bool). halved h p) a ∙ halved-not p, ap (λ (c : ℕ). halved (eqb c 1) p) z ∙ ap (λ (h : Bool). halved h p) b ∙ halved-not p)

mono-whole : (f : PixelFormat) (p : Part) → is_mono f ≡ true → (half_x f p ≡ false) × (half_y f p ≡ false)
unfolding is_mono
mono-whole f p e = chroma-whole f p 0 (eqb-true f.chroma 0 e) refl refl

promotes-through : (f : PixelFormat) (w h : ℕ) (ls : List Layer) → is_mono f ≡ false → any see_through ls ≡ true → promotes f w h ls ≡ true
unfolding promotes
promotes-through f w h ls m e = rw (m, e) refl

-- where an input has alpha, so is the canvas
pub alpha-whole : (f : PixelFormat) (w h a : ℕ) (ls : List Layer) → any see_through ls ≡ true → (p : Part) → (half_x (overlay_form f w h a ls).format p ≡ false) × (half_y (overlay_form f w h a ls).format p ≡ false)
unfolding overlay_form is_mono
alpha-whole f w h a ls e p =
    by-test (promotes f w h ls)
    (λ q. chroma-whole _ p 3 (pick_true _ 3 f.chroma q) refl refl)
    (λ q. by-test (is_mono f) (λ m. chroma-whole _ p 0 (pick-false _ 3 f.chroma q ∙ eqb-true f.chroma 0 m) refl refl) (λ m. absurd (true≢false (sym (promotes-through f w h ls m e) ∙ q))))

alpha-alike : (h_x h_y : Bool) (l : Layer) (top x y : ℕ) → (h_x ≡ false) × (h_y ≡ false) → alpha_of top l (base h_x (cover h_x x)) (base h_y (cover h_y y)) ≡ alpha_of top l x y
unfolding base cover
alpha-alike h_x h_y l top x y e = rw (e.0, e.1)

alpha-top : (l : Layer) (top x y : ℕ) → has_alpha l.pic.form.format ≡ false → alpha_of top l x y ≡ top
unfolding alpha_of
alpha-top l top x y e = pick-false _ _ _ e

module _ (f : PixelFormat) (p : Part) where
  layer-even : (l : Layer) → (halves_x f ≡ true → odd_across_of l ≡ false) → (halves_y f ≡ true → odd_down_of l ≡ false) → other_chroma_of f l ≡ false → (is_mono f ≡ false → see_through l ≡ false) → LayerEven (half_x f p) (half_y f p) p l
  unfolding odd_across_of odd_down_of other_chroma_of see_through
  layer-even l a d c s =
      let k = like-halved f l.pic.form.format p (eqb-true _ _ (not-false _ c)) in
      record {
        across = none-odd _ (half_x f p) _ (λ e. a (halved-true (halves_x f) p e));
        down = none-odd _ (half_y f p) _ (λ e. d (halved-true (halves_y f) p e));
        like_x = k.0;
        like_y = k.1;
        alpha = λ top x y. by-test (is_mono f) (λ e. alpha-alike _ _ l top x y (mono-whole f p e)) (λ e. alpha-top l top _ _ (s e) ∙ sym (alpha-top l top x y (s e)));
      }

  layers-even : (ls : List Layer) → (halves_x f ≡ true → any odd_across_of ls ≡ false) → (halves_y f ≡ true → any odd_down_of ls ≡ false) → any (other_chroma_of f) ls ≡ false → (is_mono f ≡ false → any see_through ls ≡ false) → AllEven (half_x f p) (half_y f p) p ls
  unfolding any AllEven
  layers-even [] a d c s = tt
  layers-even (l ∷ ls) a d c s = (
    layer-even l (λ e. or_left (odd_across_of l) _ (a e)) (λ e. or_left (odd_down_of l) _ (d e)) (or_left (other_chroma_of f l) _ c) (λ e. or_left (see_through l) _ (s e)),
    layers-even ls (λ e. or_right (odd_across_of l) _ (a e)) (λ e. or_right (odd_down_of l) _ (d e)) (or_right (other_chroma_of f l) _ c) (λ e. or_right (see_through l) _ (s e)),
  )

  pub not-promoted : (width height : ℕ) (ls : List Layer) → promotes f width height ls ≡ false → AllEven (half_x f p) (half_y f p) p ls
  unfolding promotes
  not-promoted width height ls e =
      let a = or_left (not (is_mono f) && any see_through ls || any (other_chroma_of f) ls) _ e in
      let b = or_right (not (is_mono f) && any see_through ls || any (other_chroma_of f) ls) _ e in
      let t = or_left (not (is_mono f) && any see_through ls) _ a in
      layers-even ls (λ h. or_right (odd width) _ (needs-X f _ _ b h)) (λ h. or_right (odd height) _ (needs-Y f _ _ b h)) (or_right (not (is_mono f) && any see_through ls) _ a)
      (λ h. sym (ap (λ (m : Bool). not m && any see_through ls) h) ∙ t)

-- every plane of the composed picture reads at each place what is worked there
abbrev canvas : PixelFormat → ℕ → ℕ → ℕ → ℕ → Form
canvas f width height alpha chroma = record { width = width; height = height; format = record { chroma = chroma; depth = f.depth; alpha = pick (ltb alpha (top_of f)) 1 0 } }

whole-canvas : (f : PixelFormat) (width height alpha : ℕ) (fill : Part → ℕ) (ls : List Layer) (p : Part) (x y : ℕ) → pixel (overlay_pic (canvas f width height alpha 3) fill ls) p x y ≡ place_at (top_of f) fill ls p x y
unfolding top_of halves_x halves_y
whole-canvas f width height alpha fill ls p x y = whole-pixel (canvas f width height alpha 3) fill ls p x y (halved-not p) (halved-not p)

even-canvas : (f : PixelFormat) (width height alpha : ℕ) (fill : Part → ℕ) (ls : List Layer) (p : Part) (x y : ℕ) → promotes f width height ls ≡ false
    → pixel (overlay_pic (canvas f width height alpha f.chroma) fill ls) p x y ≡ place_at (top_of f) fill ls p x y
unfolding top_of halves_x halves_y
even-canvas f width height alpha fill ls p x y e = even-pixel (canvas f width height alpha f.chroma) fill ls p (not-promoted f p width height ls e) x y

pub overlay-pixel : (f : PixelFormat) (width height alpha : ℕ) (fill : Part → ℕ) (ls : List Layer) (p : Part) (x y : ℕ)
    → pixel (overlay_pic (overlay_form f width height alpha ls) fill ls) p x y ≡ place_at (top_of f) fill ls p x y
unfolding overlay_form
overlay-pixel f width height alpha fill ls p x y =
    by-test (promotes f width height ls)
    (λ e. ap (λ (c : ℕ). pixel (overlay_pic (canvas f width height alpha c) fill ls) p x y) (pick_true _ 3 f.chroma e) ∙ whole-canvas f width height alpha fill ls p x y)
    (λ e. ap (λ (c : ℕ). pixel (overlay_pic (canvas f width height alpha c) fill ls) p x y) (pick-false _ 3 f.chroma e) ∙ even-canvas f width height alpha fill ls p x y e)
