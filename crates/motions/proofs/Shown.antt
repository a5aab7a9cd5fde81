-- Crop, the four turns and the two mirrors carry places as they carry samples, chroma included.
use mathlib.Core.Bool.{Bool, ◌||◌, false, true}
use mathlib.Core.Path.{◌∙◌, ◌≡◌, ap, ap₂, refl}
use Prim.Native.Nat.{◌%◌, ◌+◌, ◌<◌, ℕ}
use Rattle.laws.proofs.Order.{apart, or_left, or_right}
use Rattle.planes.proofs.PictureLaws.{Alike, cut-axis, ensure-alike, ensure-case, ensure-even_x, ensure-even_y, evenly-part, flip-axis, odd-false}
use Rattle.image.specs.Format.{columns_of, cover, half_x, half_y, halves_x, halves_y, has_part, rows_of, as444, odd, sized}
use Rattle.planes.specs.Picture.{Pic, ensure, pixel, promote}
use Rattle.planes.specs.inner.Even.{Even, Evenly}
use Rattle.image.specs.declared.format.Part.{Part}
use Rattle.sizes.specs.declared.clap.CropRect.{CropRect}
use Rattle.motions.proofs.Fits.{balanced}
use Rattle.motions.specs.Place.{sideways, swaps, unturn}
use Rattle.motions.specs.inner.Shows.{Shows, uncrop, unmirror}
use Rattle.motions.specs.Turn.{Quarter, crop, cut, from_bottom, from_right, lopsided, mirror, q0, q1, q2, q3, turn, turned}

-- ---- crop: asks nothing of the picture

cut-pixel : (P : Pic) (r : CropRect) → Evenly (halves_x P.form.format) r.x → Evenly (halves_y P.form.format) r.y → (p : Part) (x y : ℕ) → pixel (cut P r) p x y ≡ pixel P p (r.x + x) (r.y + y)
unfolding pixel cut sized
cut-pixel P r ex ey p x y = ap₂ (P.at p) (cut-axis (half_x P.form.format p) r.x x (evenly-part _ p _ ex)) (cut-axis (half_y P.form.format p) r.y y (evenly-part _ p _ ey))

pub crop-shows : (P : Pic) (r : CropRect) → Shows P (crop P r) r.width r.height (uncrop r)
unfolding crop cut sized uncrop
crop-shows P r =
    record {
      width = refl;
      height = refl;
      depth = A.depth;
      parts = A.parts;
      even = record { even_x = ensure-even_x P _ _ r.width (λ e. odd-false _ (or_right (odd r.x) _ e)); even_y = ensure-even_y P _ _ r.height (λ e. odd-false _ (or_right (odd r.y) _ e)) };
      reads = λ p h x y l m.
          cut-pixel Q r (ensure-even_x P _ _ r.x (λ e. odd-false _ (or_left _ (odd r.width) e))) (ensure-even_y P _ _ r.y (λ e. odd-false _ (or_left _ (odd r.height) e))) p x y
          ∙ A.reads p h (r.x + x) (r.y + y);
    }
  where
    Q : Pic
    Q = ensure P (odd r.x || odd r.width) (odd r.y || odd r.height)

    A : Alike Q P
    A = ensure-alike P _ _

-- ---- turns

-- a turned picture whose halved sides are even, and halved alike where the sides are exchanged
turned-pixel : (P : Pic) → Even P.form → (q : Quarter) → (swaps q ≡ true → halves_x P.form.format ≡ halves_y P.form.format) → (p : Part) (x y : ℕ)
    → x < (turned P q).form.width → y < (turned P q).form.height
    → pixel (turned P q) p x y ≡ pixel P p (unturn q P.form.width P.form.height x y).x (unturn q P.form.width P.form.height x y).y
unfolding pixel turned unturn sized swaps from_right from_bottom columns_of rows_of
turned-pixel P ev q0 b p x y l m = refl
turned-pixel P ev q1 b p x y l m = ap₂ (P.at p) (rw (← (b refl)) (flip-axis (half_x P.form.format p) P.form.width y (evenly-part _ p _ ev.even_x) m)) (rw (b refl) refl)
turned-pixel P ev q2 b p x y l m = ap₂ (P.at p) (flip-axis (half_x P.form.format p) P.form.width x (evenly-part _ p _ ev.even_x) l) (flip-axis (half_y P.form.format p) P.form.height y (evenly-part _ p _ ev.even_y) m)
turned-pixel P ev q3 b p x y l m = ap₂ (P.at p) (rw (b refl) refl) (rw (b refl) (flip-axis (half_y P.form.format p) P.form.height x (evenly-part _ p _ ev.even_y) l))

even-turned : (P : Pic) → Even P.form → (q : Quarter) → (swaps q ≡ true → halves_x P.form.format ≡ halves_y P.form.format) → Even (turned P q).form
unfolding turned sized swaps
even-turned P ev q0 b = ev
even-turned P ev q1 b = record { even_x = rw (b refl) ev.even_y; even_y = rw (← (b refl)) ev.even_x }
even-turned P ev q2 b = ev
even-turned P ev q3 b = record { even_x = rw (b refl) ev.even_y; even_y = rw (← (b refl)) ev.even_x }

turned-shows : (Q P : Pic) → Alike Q P → Even Q.form → (q : Quarter) → (swaps q ≡ true → halves_x Q.form.format ≡ halves_y Q.form.format)
    → Shows P (turned Q q) (sideways (swaps q) P.form.width P.form.height) (sideways (swaps q) P.form.height P.form.width) (unturn q P.form.width P.form.height)
unfolding turned sized sideways swaps
turned-shows Q P A E q b =
    record { width = width q; height = height q; depth = depth q; parts = parts q; even = even-turned Q E q b; reads = reads }
  where
    width : (k : Quarter) → (turned Q k).form.width ≡ sideways (swaps k) P.form.width P.form.height
    width q0 = A.width
    width q1 = A.height
    width q2 = A.width
    width q3 = A.height

    height : (k : Quarter) → (turned Q k).form.height ≡ sideways (swaps k) P.form.height P.form.width
    height q0 = A.height
    height q1 = A.width
    height q2 = A.height
    height q3 = A.width

    depth : (k : Quarter) → (turned Q k).form.format.depth ≡ P.form.format.depth
    depth q0 = A.depth
    depth q1 = A.depth
    depth q2 = A.depth
    depth q3 = A.depth

    parts : (k : Quarter) (p : Part) → has_part (turned Q k).form.format p ≡ has_part P.form.format p
    parts q0 p = A.parts p
    parts q1 p = A.parts p
    parts q2 p = A.parts p
    parts q3 p = A.parts p

    reads : (p : Part) → has_part P.form.format p ≡ true → (x y : ℕ) → x < sideways (swaps q) P.form.width P.form.height → y < sideways (swaps q) P.form.height P.form.width
        → pixel (turned Q q) p x y ≡ pixel P p (unturn q P.form.width P.form.height x y).x (unturn q P.form.width P.form.height x y).y
    reads p h x y l m =
        turned-pixel Q E q b p x y (rw (width q) l) (rw (height q) m) ∙ A.reads p h _ _
        ∙ ap₂ (λ (w v : ℕ). pixel P p (unturn q w v x y).x (unturn q w v x y).y) A.width A.height

lop-odd : (a : Bool) (n : ℕ) → (a || odd n) ≡ false → n % 2 ≡ 0
lop-odd a n e = odd-false n (or_right a (odd n) e)

-- a promotion that makes both sides even where they are halved
ensure-even : (P : Pic) (a b : Bool) → (a ≡ false → P.form.width % 2 ≡ 0) → (b ≡ false → P.form.height % 2 ≡ 0) → Even (ensure P a b).form
ensure-even P a b f g =
    record { even_x = rw (ensure-alike P a b).width (ensure-even_x P a b P.form.width f); even_y = rw (ensure-alike P a b).height (ensure-even_y P a b P.form.height g) }

ensure-balanced : (P : Pic) (a b : Bool) → (let Q = ensure P (lopsided P.form.format || a) (lopsided P.form.format || b) in halves_x Q.form.format ≡ halves_y Q.form.format)
unfolding promote as444 halves_x halves_y
ensure-balanced P a b = ensure-case P _ _ (λ Q. halves_x Q.form.format ≡ halves_y Q.form.format) (λ e. refl) (λ e. balanced P.form.format a b e)

never : {A : Type 0} → false ≡ true → A
never e = apart (cc)

pub turn-shows : (P : Pic) → Even P.form → (q : Quarter)
    → Shows P (turn P q) (sideways (swaps q) P.form.width P.form.height) (sideways (swaps q) P.form.height P.form.width) (unturn q P.form.width P.form.height)
unfolding turn turned sideways swaps unturn
turn-shows P ev q0 = record { width = refl; height = refl; depth = refl; parts = λ p. refl; even = ev; reads = λ p h x y l m. refl }
turn-shows P ev q1 = turned-shows _ P (ensure-alike P _ _) (ensure-even P _ _ (lop-odd (lopsided P.form.format) _) (lop-odd (lopsided P.form.format) _)) q1 (λ e. ensure-balanced P _ _)
turn-shows P ev q2 = turned-shows _ P (ensure-alike P _ _) (ensure-even P _ _ (odd-false _) (odd-false _)) q2 (λ e. never e)
turn-shows P ev q3 = turned-shows _ P (ensure-alike P _ _) (ensure-even P _ _ (lop-odd (lopsided P.form.format) _) (lop-odd (lopsided P.form.format) _)) q3 (λ e. ensure-balanced P _ _)

-- ---- mirrors: here the even sides are needed of the picture itself

pub mirror-shows : (P : Pic) → Even P.form → (b : Bool) → Shows P (mirror P b) P.form.width P.form.height (unmirror b P.form.width P.form.height)
unfolding mirror pixel unmirror from_right from_bottom columns_of rows_of
mirror-shows P ev true =
    record {
      width = refl;
      height = refl;
      depth = refl;
      parts = λ p. refl;
      even = ev;
      reads = λ p h x y l m. ap (λ (u : ℕ). P.at p u (cover (half_y P.form.format p) y)) (flip-axis (half_x P.form.format p) P.form.width x (evenly-part _ p _ ev.even_x) l);
    }
mirror-shows P ev false =
    record {
      width = refl;
      height = refl;
      depth = refl;
      parts = λ p. refl;
      even = ev;
      reads = λ p h x y l m. ap (λ (u : ℕ). P.at p (cover (half_x P.form.format p) x) u) (flip-axis (half_y P.form.format p) P.form.height y (evenly-part _ p _ ev.even_y) m);
    }
