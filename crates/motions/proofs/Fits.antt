-- Crops, turns and mirrors are moves that every plane can make.
use mathlib.Core.Bool.{Bool, ◌&&◌, ◌||◌, false, or-false, true}
use mathlib.Core.Path.{◌∙◌, ◌≡◌, ap, refl, sym}
use Prim.Native.Nat.{◌*◌, ◌+◌, ◌-◌, ◌<◌, ◌^◌, ◌≤◌, ℕ}
use native.Mathlib.Nat.{le_trans, lt_of_le_of_lt, lt_of_lt_of_le, mul_comm}
use native.Mathlib.Omega.{arith}
use lib.Dec.{eqb}
use borrow.Author.Tests.{eqb-true}
use Rattle.laws.proofs.Order.{apart, by-test, mul-below, or_left, pick_true}
use Rattle.laws.specs.Pick.{pick}
use Rattle.image.proofs.FormLaws.{height-le, side-le, width-le}
use Rattle.image.specs.Format.{as444, bytes_of, columns_of, cover, half_x, half_y, halved, halves_x, halves_y, has_part, is_mono, needs444, rows_of, side_of, sized}
use Rattle.image.specs.Sound.{FormSound}
use Rattle.image.specs.declared.format.Form.{Form}
use Rattle.image.specs.declared.format.Part.{Part}
use Rattle.image.specs.declared.format.Part.TheVariants.{Alpha, Cb, Cr, Luma}
use Rattle.image.specs.declared.format.PixelFormat.{PixelFormat}
use Rattle.planes.proofs.PictureLaws.{evenly-if, evenly-part, needs-X, needs-Y, needs-colour, odd-false, parts-444}
use Rattle.planes.specs.inner.Even.{Evenly}
use Rattle.sizes.specs.Sound.{Inside}
use Rattle.sizes.specs.declared.clap.CropRect.{CropRect}
use Rattle.motions.specs.Turn.{lopsided}
use Rattle.moves.specs.declared.walk.Axis.{Axis}
use Rattle.moves.specs.declared.walk.Move.{Move}
use Rattle.moves.specs.inner.Move.{MoveFits, StepsFit, along_from, plane_axis, walk_of, walk_x, walk_y}
use Rattle.motions.specs.inner.Moves.{crop_move, crop_with, end_axis, form_with, half_move, half_with, mirror_move, quarter_move, quarter_with, still_move}

-- ---- along one axis: t promoted, h halved; len places of the new picture are side_of (pick t false h) len samples

pub record AxisMoves (t h : Bool) (a : Axis) (count n : ℕ) : Type 0 where
  pub fits : StepsFit (plane_axis t h a) count
  pub inside : (k : ℕ) → k < count → cover (t && h) (along_from (plane_axis t h a).back (plane_axis t h a).from k) < side_of h n

pub forward-moves : (t h : Bool) (a len n : ℕ) → n ≤ 2 ^ 30 → (t ≡ false → Evenly h a) → a + len ≤ n → AxisMoves t h (record { from = a; back = false }) (side_of (pick t false h) len) n
unfolding plane_axis pick cover side_of along_from Evenly
forward-moves true true a len n s e l = record { fits = record { small = omega arith; bounded = omega arith; behind = λ k q b. apart (cc) }; inside = λ k q. omega arith }
forward-moves true false a len n s e l = record { fits = record { small = omega arith; bounded = omega arith; behind = λ k q b. apart (cc) }; inside = λ k q. omega arith }
forward-moves false true a len n s e l = let z = e refl in record { fits = record { small = omega arith; bounded = omega arith; behind = λ k q b. apart (cc) }; inside = λ k q. omega arith }
forward-moves false false a len n s e l = record { fits = record { small = omega arith; bounded = omega arith; behind = λ k q b. apart (cc) }; inside = λ k q. omega arith }

pub back-moves : (t h : Bool) (n : ℕ) → n ≤ 2 ^ 30 → 1 ≤ n → AxisMoves t h (record { from = n - 1; back = true }) (side_of (pick t false h) n) n
unfolding plane_axis pick cover side_of along_from
back-moves true true n s l = record { fits = record { small = omega arith; bounded = omega arith; behind = λ k q b. omega arith }; inside = λ k q. omega arith }
back-moves true false n s l = record { fits = record { small = omega arith; bounded = omega arith; behind = λ k q b. omega arith }; inside = λ k q. omega arith }
back-moves false true n s l = record { fits = record { small = omega arith; bounded = omega arith; behind = λ k q b. omega arith }; inside = λ k q. omega arith }
back-moves false false n s l = record { fits = record { small = omega arith; bounded = omega arith; behind = λ k q b. omega arith }; inside = λ k q. omega arith }

-- either way from one end of the axis to the other
pub end-moves : (t h back : Bool) (n : ℕ) → n ≤ 2 ^ 30 → 1 ≤ n → AxisMoves t h (end_axis back n) (side_of (pick t false h) n) n
unfolding end_axis pick Evenly
end-moves t h true n s l = back-moves t h n s l
end-moves t true false n s l = forward-moves t true 0 n n s (λ e. refl) (omega arith)
end-moves t false false n s l = forward-moves t false 0 n n s (λ e. tt) (omega arith)

-- and as many samples as the plane has, promoted or not
pub end-few : (t h back : Bool) (n : ℕ) → n ≤ 2 ^ 30 → 1 ≤ n → AxisMoves t h (end_axis back n) (side_of h n) n
unfolding pick side_of
end-few false h back n s l = end-moves false h back n s l
end-few true h back n s l =
    let e = end-moves true h back n s l in
    record {
      fits = record { small = e.fits.small; bounded = lt_of_le_of_lt (side-le h n) e.fits.bounded; behind = λ k q b. e.fits.behind k (lt_of_lt_of_le q (side-le h n)) b };
      inside = λ k q. e.inside k (lt_of_lt_of_le q (side-le h n));
    }

-- ---- the new form

pub halved-with : (t : Bool) (m : Form) (p : Part) → (half_x (form_with t m).format p ≡ pick t false (half_x m.format p)) × (half_y (form_with t m).format p ≡ pick t false (half_y m.format p))
unfolding form_with pick as444 halved halves_x halves_y
halved-with false m p = (refl, refl)
halved-with true m Luma = (refl, refl)
halved-with true m Cb = (refl, refl)
halved-with true m Cr = (refl, refl)
halved-with true m Alpha = (refl, refl)

-- promoted or not, a form with chroma where it is promoted has the same planes, bytes and bounds
pub record With (t : Bool) (m : Form) : Type 0 where
  pub chroma : (form_with t m).format.chroma ≤ 3
  pub depth : (form_with t m).format.depth ≡ m.format.depth
  pub alpha : (form_with t m).format.alpha ≡ m.format.alpha
  pub parts : (p : Part) → has_part (form_with t m).format p ≡ has_part m.format p

pub with-form : (t : Bool) (m : Form) → FormSound m → (t ≡ true → is_mono m.format ≡ false) → With t m
unfolding form_with pick as444
with-form true m ok c = record { chroma = omega arith; depth = refl; alpha = refl; parts = parts-444 m (c refl) }
with-form false m ok c = record { chroma = ok.chroma; depth = refl; alpha = refl; parts = λ p. refl }

pub with-sound : (t : Bool) (m : Form) (w h : ℕ) → FormSound m → With t m → 1 ≤ w → 1 ≤ h → w * h ≤ 2 ^ 30 → FormSound (sized (form_with t m) w h)
unfolding sized
with-sound t m w h ok k a b c = record { chroma = k.chroma; low = rw k.depth ok.low; high = rw k.depth ok.high; alpha = rw k.alpha ok.alpha; wide = a; tall = b; area = c }

pub with-bytes : (t : Bool) (m : Form) → With t m → bytes_of (form_with t m).format ≡ bytes_of m.format
unfolding bytes_of
with-bytes t m k = rw k.depth

-- ---- a move whose axes stay inside

pick-lt : (t : Bool) (a b c d : ℕ) → a < c → b < d → pick t a b < pick t c d
unfolding pick
pick-lt true a b c d h k = h
pick-lt false a b c d h k = k

-- the axes of every plane
pub record AxesMove (m : Form) (v : Move) : Type 0 where
  pub across : (p : Part) → AxisMoves v.promoted (half_x m.format p) v.across (pick v.swapped (rows_of v.form p) (columns_of v.form p)) m.width
  pub down : (p : Part) → AxisMoves v.promoted (half_y m.format p) v.down (pick v.swapped (columns_of v.form p) (rows_of v.form p)) m.height

pub moves-fit : (m : Form) (v : Move) → FormSound v.form → bytes_of v.form.format ≡ bytes_of m.format → ((p : Part) → has_part v.form.format p ≡ has_part m.format p) → AxesMove m v → MoveFits m v
unfolding walk_of walk_x walk_y columns_of rows_of
moves-fit m v s b h a =
    record {
      sound = s;
      bytes = b;
      parts = h;
      across = λ p k. (a.across p).fits;
      down = λ p k. (a.down p).fits;
      inside = λ p k x y i j. ((a.across p).inside (pick v.swapped y x) (pick-lt v.swapped y x _ _ j i), (a.down p).inside (pick v.swapped x y) (pick-lt v.swapped x y _ _ i j));
    }

-- ---- crop

pub crop-fits : (m : Form) (r : CropRect) → FormSound m → Inside r m.width m.height → MoveFits m (crop_move m r)
unfolding crop_move crop_with columns_of rows_of sized pick
crop-fits m r ok i = moves-fit m (crop_move m r) (with-sound b m r.width r.height ok k i.wide i.tall area) (with-bytes b m k) k.parts axes
  where
    b : Bool
    b = (crop_move m r).promoted

    k : With b m
    k = with-form b m ok (λ e. needs-colour m.format _ _ e)

    area : r.width * r.height ≤ 2 ^ 30
    area = le_trans (mul-below m.width m.height r.width r.height (omega (arith, i.across)) (omega (arith, i.down))) ok.area

    even_x : (p : Part) → b ≡ false → Evenly (half_x m.format p) r.x
    even_x p e = evenly-part _ p _ (evenly-if _ _ (λ h. odd-false r.x (or_left _ _ (needs-X m.format _ _ e h))))

    even_y : (p : Part) → b ≡ false → Evenly (half_y m.format p) r.y
    even_y p e = evenly-part _ p _ (evenly-if _ _ (λ h. odd-false r.y (or_left _ _ (needs-Y m.format _ _ e h))))

    axes : AxesMove m (crop_move m r)
    axes = record {
      across = λ p. rw (halved-with b m p).0 (forward-moves b (half_x m.format p) r.x r.width m.width (width-le m ok) (even_x p) i.across);
      down = λ p. rw (halved-with b m p).1 (forward-moves b (half_y m.format p) r.y r.height m.height (height-le m ok) (even_y p) i.down);
    }

-- ---- mirrors and turns

pub mirror-fits : (m : Form) (t : Bool) → FormSound m → MoveFits m (mirror_move m t)
unfolding mirror_move columns_of rows_of pick
mirror-fits m t ok = moves-fit m (mirror_move m t) ok refl (λ p. refl) (axes t)
  where
    axes : (b : Bool) → AxesMove m (mirror_move m b)
    axes true = record {
      across = λ p. end-few _ (half_x m.format p) true m.width (width-le m ok) ok.wide;
      down = λ p. end-few _ (half_y m.format p) false m.height (height-le m ok) ok.tall;
    }
    axes false = record {
      across = λ p. end-few _ (half_x m.format p) false m.width (width-le m ok) ok.wide;
      down = λ p. end-few _ (half_y m.format p) true m.height (height-le m ok) ok.tall;
    }

pub still-fits : (m : Form) → FormSound m → MoveFits m (still_move m)
unfolding still_move columns_of rows_of pick
still-fits m ok = moves-fit m (still_move m) ok refl (λ p. refl) axes
  where
    axes : AxesMove m (still_move m)
    axes = record {
      across = λ p. end-few _ (half_x m.format p) false m.width (width-le m ok) ok.wide;
      down = λ p. end-few _ (half_y m.format p) false m.height (height-le m ok) ok.tall;
    }

pub half-fits : (m : Form) → FormSound m → MoveFits m (half_move m)
unfolding half_move half_with columns_of rows_of sized pick
half-fits m ok = moves-fit m (half_move m) (with-sound b m m.width m.height ok k ok.wide ok.tall ok.area) (with-bytes b m k) k.parts axes
  where
    b : Bool
    b = (half_move m).promoted

    k : With b m
    k = with-form b m ok (λ e. needs-colour m.format _ _ e)

    axes : AxesMove m (half_move m)
    axes = record {
      across = λ p. rw (halved-with b m p).0 (end-moves b (half_x m.format p) true m.width (width-le m ok) ok.wide);
      down = λ p. rw (halved-with b m p).1 (end-moves b (half_y m.format p) true m.height (height-le m ok) ok.tall);
    }

-- a picture that a quarter turn does not promote is halved along both axes or neither
pub balanced : (f : PixelFormat) (a b : Bool) → needs444 f (lopsided f || a) (lopsided f || b) ≡ false → halves_x f ≡ halves_y f
unfolding needs444 lopsided halves_x halves_y
balanced f a b e =
    by-test (eqb f.chroma 2)
    (λ t. let z : true ≡ false = rw (eqb-true f.chroma 2 t) at e in cc)
    (λ t. rw t (or-false (eqb f.chroma 1)))

pub quarter-fits : (m : Form) (left up : Bool) → FormSound m → MoveFits m (quarter_move m left up)
unfolding quarter_move quarter_with columns_of rows_of sized pick
quarter-fits m left up ok = moves-fit m (quarter_move m left up) (with-sound b m m.height m.width ok k ok.tall ok.wide area) (with-bytes b m k) k.parts axes
  where
    b : Bool
    b = (quarter_move m left up).promoted

    k : With b m
    k = with-form b m ok (λ e. needs-colour m.format _ _ e)

    area : m.height * m.width ≤ 2 ^ 30
    area = rw (mul_comm m.height m.width) ok.area

    same : (p : Part) → pick b false (half_x m.format p) ≡ pick b false (half_y m.format p)
    same p = by-test b (λ e. pick_true b false _ e ∙ sym (pick_true b false _ e)) (λ e. ap (λ (h : Bool). pick b false (halved h p)) (balanced m.format _ _ e))

    axes : AxesMove m (quarter_move m left up)
    axes = record {
      across = λ p. rw ((halved-with b m p).1, ← same p) (end-moves b (half_x m.format p) left m.width (width-le m ok) ok.wide);
      down = λ p. rw ((halved-with b m p).0, same p) (end-moves b (half_y m.format p) up m.height (height-le m ok) ok.tall);
    }
