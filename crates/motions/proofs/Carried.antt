-- What a move carries over: pictures that agree, and samples that fit their bytes.
use mathlib.Core.Bool.{Bool, ◌&&◌, false, true}
use mathlib.Core.Path.{◌∙◌, ◌≡◌, ap, refl, sym}
use Prim.Native.Nat.{◌%◌, ℕ}
use lib.Dec.{eqb}
use native.Mathlib.Omega.{arith}
use borrow.Author.Tests.{eq-eqb, ne_eqb}
use Rattle.laws.proofs.Order.{by_equal}
use Rattle.laws.specs.Pick.{pick}
use Rattle.planes.specs.inner.InRange.{InRange}
use Rattle.planes.proofs.RoundTrip.{agree-self, agree-sym, agree-in-range, agree_trans}
use Rattle.image.specs.Format.{cover, half_x, half_y, has_part}
use Rattle.planes.specs.Picture.{Agree, Pic, full, pixel, promote}
use Rattle.image.specs.Sound.{FormSound}
use Rattle.image.specs.declared.format.Form.{Form}
use Rattle.image.specs.declared.format.Part.{Part}
use Rattle.image.specs.declared.format.PixelFormat.{PixelFormat}
use Rattle.sizes.specs.Sound.{Inside}
use Rattle.sizes.specs.declared.clap.CropRect.{CropRect}
use Rattle.moves.proofs.Drawn.{full-sides}
use Rattle.motions.proofs.Draws.{crop-draws, half-draws, left-draws, mirror-draws, right-draws}
use Rattle.motions.proofs.Fits.{crop-fits, half-fits, mirror-fits, quarter-fits}
use Rattle.motions.proofs.Quarters.{quarter-one, quarter-three}
use Rattle.moves.specs.inner.Move.{MoveFits, along_from, moved, plane_axis, walk_of, walk_x, walk_y}
use Rattle.motions.specs.inner.Moves.{crop_move, half_move, mirror_move, quarter_move, turn_form}
use Rattle.motions.specs.Turn.{Quarter, crop, mirror, q0, q1, q2, q3, quarter_of, turn}
use Rattle.moves.specs.declared.walk.Move.{Move}

-- ---- a sample of a moved picture is the sample that its walk names

module _ (P : Pic) (v : Move) (p : Part) (has : has_part P.form.format p ≡ true) where
  abbrev f : PixelFormat
  f = P.form.format

  pub moved-reads : (x y : ℕ) → (moved v P).at p x y ≡ P.at p (walk_x (walk_of f v p) x y) (walk_y (walk_of f v p) x y)
  unfolding moved walk_x walk_y walk_of plane_axis pick promote full pixel cover
  moved-reads x y = go v.promoted
    where
      go : (t : Bool) →
          (let Q = pick t (promote P) P in
          Q.at p
          (along_from v.across.back (cover (half_x Q.form.format p) v.across.from) (pick v.swapped y x))
          (along_from v.down.back (cover (half_y Q.form.format p) v.down.from) (pick v.swapped x y)))
          ≡ P.at p
          (cover (t && half_x f p) (along_from (plane_axis t (half_x f p) v.across).back (plane_axis t (half_x f p) v.across).from (pick v.swapped y x)))
          (cover (t && half_y f p) (along_from (plane_axis t (half_y f p) v.down).back (plane_axis t (half_y f p) v.down).from (pick v.swapped x y)))
      go true = rw ((full-sides P.form p).0, (full-sides P.form p).1, has)
      go false = refl

pub moved-in-range : (P : Pic) (v : Move) → MoveFits P.form v → InRange P → InRange (moved v P)
unfolding moved
moved-in-range P v fits k =
    record {
      sound = fits.sound;
      small = λ p h x y i j.
          let has = sym (fits.parts p) ∙ h in
          let n = fits.inside p has x y i j in
          rw (moved-reads P v p has x y, fits.bytes) (k.small p has _ _ n.0 n.1);
    }

pub moved-agree : (P Q : Pic) (v : Move) → MoveFits P.form v → Agree P Q → Agree (moved v P) (moved v Q)
unfolding moved
moved-agree P Q v fits a =
    record {
      form = refl;
      reads = λ p h x y i j.
          let has = sym (fits.parts p) ∙ h in
          let n = fits.inside p has x y i j in
          let q = ap (λ (m : Form). m.format) a.form in
          moved-reads P v p has x y ∙ a.reads p has _ _ n.0 n.1
          ∙ ap (λ (g : PixelFormat). Q.at p (walk_x (walk_of g v p) x y) (walk_y (walk_of g v p) x y)) q
          ∙ sym (moved-reads Q v p (ap (λ (g : PixelFormat). has_part g p) (sym q) ∙ has) x y);
    }

-- ---- what a move draws, for each of the pictures that document 01 names

-- a picture that a move of each picture draws
pub record Draws (move : Form → Move) (made : Pic → Pic) (P : Pic) : Type 0 where
  pub fits : MoveFits P.form (move P.form)
  pub drawn : Agree (moved (move P.form) P) (made P)

pub draws-in-range : (move : Form → Move) (made : Pic → Pic) (P : Pic) → Draws move made P → InRange P → InRange (made P)
draws-in-range move made P d k = agree-in-range _ _ d.drawn (moved-in-range P _ d.fits k)

pub draws-form : (move : Form → Move) (made : Pic → Pic) (P : Pic) → Draws move made P → (made P).form ≡ (move P.form).form
unfolding moved
draws-form move made P d = sym d.drawn.form

pub draws-agree : (move : Form → Move) (made : Pic → Pic) (P Q : Pic) → Draws move made P → Draws move made Q → Agree P Q → Agree (made P) (made Q)
draws-agree move made P Q d e a =
    agree_trans _ _ _ (agree-sym _ _ d.drawn)
    (agree_trans _ _ _ (moved-agree P Q _ d.fits a)
    (agree_trans _ _ _ (rw a.form (agree-self _)) e.drawn))

pub crop-made : (P : Pic) (r : CropRect) → FormSound P.form → Inside r P.form.width P.form.height → Draws (λ m. crop_move m r) (λ Q. crop Q r) P
crop-made P r k i = record { fits = crop-fits P.form r k i; drawn = crop-draws P r }

pub mirror-made : (P : Pic) (t : Bool) → FormSound P.form → Draws (λ m. mirror_move m t) (λ Q. mirror Q t) P
mirror-made P t k = record { fits = mirror-fits P.form t k; drawn = mirror-draws P k.wide k.tall t }

pub left-made : (P : Pic) → FormSound P.form → Draws (λ m. quarter_move m true false) (λ Q. turn Q q1) P
left-made P k = record { fits = quarter-fits P.form true false k; drawn = left-draws P k.wide k.tall }

pub half-made : (P : Pic) → FormSound P.form → Draws half_move (λ Q. turn Q q2) P
half-made P k = record { fits = half-fits P.form k; drawn = half-draws P k.wide k.tall }

pub right-made : (P : Pic) → FormSound P.form → Draws (λ m. quarter_move m false true) (λ Q. turn Q q3) P
right-made P k = record { fits = quarter-fits P.form false true k; drawn = right-draws P k.wide k.tall }

-- ---- turns by their quarters

turn-none : (P : Pic) → turn P q0 ≡ P
unfolding turn
turn-none P = refl

pub turn-in-range : (P : Pic) (q : Quarter) → InRange P → InRange (turn P q)
turn-in-range P q0 k = rw (turn-none P) k
turn-in-range P q1 k = draws-in-range _ _ P (left-made P k.sound) k
turn-in-range P q2 k = draws-in-range _ _ P (half-made P k.sound) k
turn-in-range P q3 k = draws-in-range _ _ P (right-made P k.sound) k

pub turn-form : (P : Pic) (q : Quarter) → FormSound P.form → (turn P q).form ≡ turn_form P.form q
unfolding turn_form
turn-form P q0 k = ap (λ (Q : Pic). Q.form) (turn-none P)
turn-form P q1 k = draws-form _ _ P (left-made P k)
turn-form P q2 k = draws-form _ _ P (half-made P k)
turn-form P q3 k = draws-form _ _ P (right-made P k)

pub turn_agree : (P Q : Pic) (q : Quarter) → FormSound P.form → FormSound Q.form → Agree P Q → Agree (turn P q) (turn Q q)
turn_agree P Q q0 k l a = rw (turn-none P, turn-none Q) a
turn_agree P Q q1 k l a = draws-agree _ _ P Q (left-made P k) (left-made Q l) a
turn_agree P Q q2 k l a = draws-agree _ _ P Q (half-made P k) (half-made Q l) a
turn_agree P Q q3 k l a = draws-agree _ _ P Q (right-made P k) (right-made Q l) a

-- one quarter or three, told by two tests
pub turn_odd : (m : Form) (a : ℕ) → (a % 4 ≡ 0 → ⊥) → (a % 4 ≡ 2 → ⊥) → (quarter_move m (eqb (a % 4) 1) (eqb (a % 4) 3)).form ≡ turn_form m (quarter_of a)
unfolding turn_form
turn_odd m a x y =
    by_equal (a % 4) 1
    (λ e. rw (quarter-one a e, eq-eqb (a % 4) 1 e, ne_eqb (a % 4) 3 (λ z. omega arith)))
    (λ n. rw (quarter-three a x n y, ne_eqb (a % 4) 1 n, eq-eqb (a % 4) 3 (omega (arith))))
