-- Laws of a tile that suits its canvas: its rows are read and written inside, and stored they are the tile's part.
use mathlib.Core.Bool.{Bool, ◌&&◌, false, not, true}
use mathlib.Core.List.{List}
use mathlib.Core.Path.{◌∙◌, ◌≡◌, ap, ap₂, refl, sym}
use Prim.Native.Nat.{◌*◌, ◌+◌, ◌<◌, ◌≤◌, ℕ}
use native.Mathlib.Omega.{arith}
use lib.Dec.{leb}
use lib.ListN.{length}
use borrow.Author.Tests.{eqb-false, ne_eqb, not-true}
use Rattle.laws.proofs.Order.{pick-both, pick-false, pick_true, positive}
use Rattle.laws.specs.Pick.{pick}
use Rattle.image.proofs.FormLaws.{bytes-few, columns-le, cover-in, height-le, rows-le, width-le}
use Rattle.records.proofs.RecordLaws.{sample-inside}
use Rattle.image.specs.Format.{as444, bytes_of, columns_of, cover, half_x, half_y, halved, halves_x, halves_y, has_alpha, has_part, is_mono, row_size, rows_of, side_of}
use Rattle.records.specs.Record.{data_of, plane_of}
use Rattle.image.specs.Sound.{FormSound}
use Rattle.image.specs.declared.format.Form.{Form}
use Rattle.image.specs.declared.format.Part.{Part}
use Rattle.image.specs.declared.format.Part.TheVariants.{Alpha, Cb, Cr, Luma}
use Rattle.image.specs.declared.format.PixelFormat.{PixelFormat}
use Rattle.records.specs.declared.record.Frame.{Frame}
use Rattle.planes.proofs.ByteLaws.{samples-same}
use Rattle.planes.proofs.PictureLaws.{parts-444}
use Rattle.planes.specs.Bytes.{decode, sample_at, sample_in, samples_of, tight_at}
use Rattle.planes.specs.Picture.{Pic, full, pixel, promote}
use Rattle.paste.proofs.RowLaws.{rows-cong, rows_none}
use Rattle.paste.specs.Stored.{store_rows}
use Rattle.paste.specs.declared.rows.Source.{Source}
use Rattle.paste.specs.inner.Source.{RowsFit, source_at, source_row}
use Rattle.cells.proofs.CellFits.{cell-cases, cell-is, writes-le}
use Rattle.cells.proofs.CellLaws.{visible-tile}
use Rattle.cells.specs.Cell.{cell_of, no_cell, store_cell, store_part, tile_form, tile_pic, visible_of}
use Rattle.cells.specs.declared.cell.Cell.{Cell}
use Rattle.cells.specs.inner.Rows.{FitsCanvas}

-- ---- the tile's form

pub tile-sound : (b : Bool) (m : Form) → FormSound m → FormSound (tile_form b m)
unfolding tile_form pick as444
tile-sound true m ok = record { chroma = omega arith; low = ok.low; high = ok.high; alpha = ok.alpha; wide = ok.wide; tall = ok.tall; area = ok.area }
tile-sound false m ok = ok

pub tile-parts : (b : Bool) (m : Form) → (b ≡ true → is_mono m.format ≡ false) → (p : Part) → has_part (tile_form b m).format p ≡ has_part m.format p
unfolding tile_form pick
tile-parts true m colour p = parts-444 m (colour refl) p
tile-parts false m colour p = refl

pub tile-bytes : (b : Bool) (m : Form) → bytes_of (tile_form b m).format ≡ bytes_of m.format
unfolding tile_form pick as444 bytes_of
tile-bytes true m = refl
tile-bytes false m = refl

pub tile-alpha : (b : Bool) (m : Form) → (tile_form b m).format.alpha ≡ m.format.alpha
unfolding tile_form pick as444
tile-alpha true m = refl
tile-alpha false m = refl

pub same_bytes : (f g : PixelFormat) → f.depth ≡ g.depth → bytes_of f ≡ bytes_of g
unfolding bytes_of
same_bytes f g e = ap (λ (d : ℕ). pick (leb d 8) 1 2) e

pub tile_pic-form : (b : Bool) (P : Pic) → (tile_pic b P).form ≡ tile_form b P.form
unfolding tile_pic tile_form pick promote
tile_pic-form true P = refl
tile_pic-form false P = refl

-- along one axis: the sample that covers a place of the tile is there
tile-cover : (b h : Bool) (n x : ℕ) → x < pick b n (side_of h n) → cover (b && h) x < side_of h n
unfolding pick cover
tile-cover true h n x l = cover-in h x n l
tile-cover false h n x l = l

tile-columns : (b : Bool) (m : Form) (p : Part) → columns_of (tile_form b m) p ≡ pick b m.width (side_of (half_x m.format p) m.width)
unfolding tile_form pick columns_of as444 halves_x halved side_of
tile-columns true m Luma = refl
tile-columns true m Cb = refl
tile-columns true m Cr = refl
tile-columns true m Alpha = refl
tile-columns false m p = refl

tile-rows : (b : Bool) (m : Form) (p : Part) → rows_of (tile_form b m) p ≡ pick b m.height (side_of (half_y m.format p) m.height)
unfolding tile_form pick rows_of as444 halves_y halved side_of
tile-rows true m Luma = refl
tile-rows true m Cb = refl
tile-rows true m Cr = refl
tile-rows true m Alpha = refl
tile-rows false m p = refl

module _ (b : Bool) (m : Form) (p : Part) where
  pub covered-column : (x : ℕ) → x < columns_of (tile_form b m) p → cover (b && half_x m.format p) x < columns_of m p
  unfolding columns_of
  covered-column x l = tile-cover b (half_x m.format p) m.width x (rw (tile-columns b m p) at l)

  pub covered-row : (y : ℕ) → y < rows_of (tile_form b m) p → cover (b && half_y m.format p) y < rows_of m p
  unfolding rows_of
  covered-row y l = tile-cover b (half_y m.format p) m.height y (rw (tile-rows b m p) at l)

-- ---- a tile and its canvas

-- where the samples of a part of it are read
abbrev pub tile_source : Frame → Bool → Part → Source
tile_source fr b p = record {
  bytes = bytes_of fr.form.format;
  stride = (plane_of fr p).stride;
  half_across = b && half_x fr.form.format p;
  half_down = b && half_y fr.form.format p;
  x = 0;
  y = 0;
}

from_start : (i : ℕ) → 0 + i ≡ i
from_start i = omega arith

pub canvas-has : (f g : PixelFormat) (p : Part) → g.chroma ≡ f.chroma → f.alpha ≤ g.alpha → has_part f p ≡ true → has_part g p ≡ true
unfolding has_part is_mono has_alpha
canvas-has f g Luma e l h = refl
canvas-has f g Cb e l h = rw e h
canvas-has f g Cr e l h = rw e h
canvas-has f g Alpha e l h = ap not (ne_eqb g.alpha 0 (λ z. none z))
  where
    some : 1 ≤ f.alpha
    some = positive f.alpha (eqb-false f.alpha 0 (not-true _ h))

    none : g.alpha ≡ 0 → ⊥
    none z = omega (arith, some)

module _ (s : List ℕ) (fr : Frame) (c : Form) (b : Bool) (n : ℕ) (ok : FitsCanvas s fr c b n) (p : Part) where
  pub suits-canvas : has_part fr.form.format p ≡ true → has_part c.format p ≡ true
  suits-canvas h =
      canvas-has (tile_form b fr.form).format c.format p ok.chroma (rw (tile-alpha b fr.form) ok.alpha) (tile-parts b fr.form ok.colour p ∙ h)

  pub suits-bytes : bytes_of (tile_form b fr.form).format ≡ bytes_of c.format
  suits-bytes = tile-bytes b fr.form ∙ sym (same_bytes c.format fr.form.format ok.depth)

  -- its rows are read and written inside
  pub suits-rows : has_part fr.form.format p ≡ true → (column row : ℕ) (k : Cell) → k ≡ cell_of c (tile_form b fr.form) column row p → (k.down ≡ 0 → ⊥)
      → RowsFit n (length (data_of s (plane_of fr p))) k.at k.stride k.across k.down (tile_source fr b p)
  unfolding no_cell
  suits-rows h column row k e =
      rw e
      (cell-cases c t column row p
      (λ (k : Cell). (k.down ≡ 0 → ⊥) → RowsFit n (length (data_of s (plane_of fr p))) k.at k.stride k.across k.down (tile_source fr b p))
      (λ z. absurd (z refl))
      (λ x y z. rw (cell-is c t ok.canvas p (suits-canvas h) suits-bytes column row x y) (fit x y)))
    where
      t : Form
      t = tile_form b fr.form

      few : (1 ≤ bytes_of fr.form.format) × (bytes_of fr.form.format ≤ 2)
      few = bytes-few fr.form.format

      same : bytes_of fr.form.format ≡ bytes_of c.format
      same = sym (same_bytes c.format fr.form.format ok.depth)

      okt : FormSound t
      okt = tile-sound b fr.form ok.sound.form

      fit : (visible_of (columns_of c p) (columns_of t p) column ≡ 0 → ⊥) → (visible_of (rows_of c p) (rows_of t p) row ≡ 0 → ⊥)
          → RowsFit n (length (data_of s (plane_of fr p))) ((plane_of (tight_at c 0) p).start + (row * rows_of t p * row_size c p + column * row_size t p)) (row_size c p)
          (visible_of (columns_of c p) (columns_of t p) column) (visible_of (rows_of c p) (rows_of t p) row) (tile_source fr b p)
      fit x y =
          record {
            positive = few.0;
            bounded = few.1;
            any = positive _ x;
            wide = omega (arith, visible-tile (columns_of c p) (columns_of t p) column, columns-le t okt p, width-le t okt);
            tall = omega (arith, visible-tile (rows_of c p) (rows_of t p) row, rows-le t okt p, height-le t okt);
            reads = λ i j l m.
                rw (from_start i, from_start j)
                (sample-inside s fr.form p (plane_of fr p) (ok.sound.planes p h) (cover (b && half_x fr.form.format p) i) (cover (b && half_y fr.form.format p) j)
                (covered-column b fr.form p i (omega (arith, visible-tile (columns_of c p) (columns_of t p) column)))
                (covered-row b fr.form p j (omega (arith, visible-tile (rows_of c p) (rows_of t p) row))));
            writes = λ j m. rw same (omega (arith, writes-le c t ok.canvas p (suits-canvas h) suits-bytes column row x y j m, ok.room));
          }

-- ---- stored, they are the tile's part

decode-form : (s : List ℕ) (fr : Frame) → (decode s fr).form ≡ fr.form
unfolding decode
decode-form s fr = refl

decode-at : (s : List ℕ) (fr : Frame) (p : Part) (x y : ℕ) (b : Bool)
    → (decode s fr).at p (cover (b && half_x (decode s fr).form.format p) x) (cover (b && half_y (decode s fr).form.format p) y)
    ≡ sample_at (data_of s (plane_of fr p)) (bytes_of fr.form.format) (cover (b && half_y fr.form.format p) y * (plane_of fr p).stride + cover (b && half_x fr.form.format p) x * bytes_of fr.form.format)
unfolding decode sample_in
decode-at s fr p x y b = refl

pub tile-sample : (b : Bool) (P : Pic) (p : Part) → has_part P.form.format p ≡ true → (x y : ℕ) → (tile_pic b P).at p x y ≡ P.at p (cover (b && half_x P.form.format p) x) (cover (b && half_y P.form.format p) y)
unfolding tile_pic pick promote full pixel cover
tile-sample true P p h x y = pick_true _ _ _ h
tile-sample false P p h x y = refl

source_row_lem : (s : List ℕ) (fr : Frame) (b : Bool) (p : Part) → has_part fr.form.format p ≡ true → (n y : ℕ)
    → source_row (data_of s (plane_of fr p)) (tile_source fr b p) n y ≡ samples_of (bytes_of fr.form.format) (λ x. (tile_pic b (decode s fr)).at p x y) n
unfolding source_row source_at sample_in
source_row_lem s fr b p h n y =
    samples-same (bytes_of fr.form.format) _ _ n
    (λ x l. rw (from_start x, from_start y) (sym (tile-sample b (decode s fr) p (rw (decode-form s fr) h) x y ∙ decode-at s fr p x y b)))

pub part-stored : (s : List ℕ) (fr : Frame) (c : Form) (b : Bool) (p : Part) (d : List ℕ) (column row : ℕ) (k : Cell) → (b ≡ true → is_mono fr.form.format ≡ false) → has_part fr.form.format p ≡ true → k ≡ cell_of c (tile_form b fr.form) column row p
    → store_rows d k.at k.stride (source_row (data_of s (plane_of fr p)) (tile_source fr b p) k.across) k.down
    ≡ store_part c (tile_pic b (decode s fr)) column row p d
unfolding store_part store_cell
part-stored s fr c b p d column row k colour h e =
    rows-cong d k.at k.stride _ _ k.down (λ y l. source_row_lem s fr b p h k.across y)
    ∙ ap₂ (λ (q : Cell) (n : ℕ). store_rows d q.at q.stride (λ y. samples_of n (λ x. (tile_pic b (decode s fr)).at p x y) q.across) q.down) (e ∙ ap (λ (t : Form). cell_of c t column row p) (sym form)) bytes
    ∙ sym (pick_true _ _ _ (ap (λ (t : Form). has_part t.format p) form ∙ tile-parts b fr.form colour p ∙ h))
  where
    form : (tile_pic b (decode s fr)).form ≡ tile_form b fr.form
    form = tile_pic-form b (decode s fr) ∙ ap (tile_form b) (decode-form s fr)

    bytes : bytes_of fr.form.format ≡ bytes_of (tile_pic b (decode s fr)).form.format
    bytes = sym (ap (λ (t : Form). bytes_of t.format) form ∙ tile-bytes b fr.form)

-- nothing of it shows
pub part-hidden : (s : List ℕ) (fr : Frame) (c : Form) (b : Bool) (p : Part) (d : List ℕ) (column row : ℕ) (k : Cell) → k ≡ cell_of c (tile_form b fr.form) column row p → k.down ≡ 0 → d ≡ store_part c (tile_pic b (decode s fr)) column row p d
unfolding store_part store_cell
part-hidden s fr c b p d column row k e z =
    pick-both (λ (q : List ℕ). d ≡ q) _ _ _
    (sym (rows_none d _ _ _ _ (ap (λ (t : Form). (cell_of c t column row p).down) (tile_pic-form b (decode s fr) ∙ ap (tile_form b) (decode-form s fr)) ∙ ap (λ (q : Cell). q.down) (sym e) ∙ z)))
    refl

-- the tile has no such part
pub part-lacks : (s : List ℕ) (fr : Frame) (c : Form) (b : Bool) (p : Part) (d : List ℕ) (column row : ℕ) → (b ≡ true → is_mono fr.form.format ≡ false) → has_part fr.form.format p ≡ false → d ≡ store_part c (tile_pic b (decode s fr)) column row p d
unfolding store_part
part-lacks s fr c b p d column row colour h =
    sym (pick-false _ _ _ (ap (λ (t : Form). has_part t.format p) (tile_pic-form b (decode s fr) ∙ ap (tile_form b) (decode-form s fr)) ∙ tile-parts b fr.form colour p ∙ h))
