-- Laws of an input's rows: where they are read, and that stored they are what the input leaves.
use mathlib.Core.Bool.{Bool, ◌&&◌, ◌||◌, false, not, true, true≢false}
use mathlib.Core.List.{List, []}
use mathlib.Core.Path.{◌∙◌, ◌≡◌, ap, ap₂, refl, sym}
use Prim.Native.Nat.{◌*◌, ◌+◌, ◌-◌, ◌<◌, ◌^◌, ◌≤◌, min, suc, zero, ℕ}
use native.Mathlib.Nat.{not-suc-le-zero, pow-le-pow_right, pow-suc}
use native.Mathlib.Omega.{arith}
use lib.Dec.{eqb, leb, lit<}
use lib.ListN.{length}
use borrow.Author.Tests.{eqb-true, ne_eqb, not-false}
use Rattle.laws.proofs.Order.{by_equal, by-test, or_left, or_right, pick-false, pick_true, true-and}
use Rattle.laws.proofs.Span.{span-end}
use Rattle.laws.proofs.Writing.{writing-none}
use Rattle.laws.specs.Pick.{pick}
use Rattle.laws.specs.Puts.{Bytes}
use Rattle.image.proofs.FormLaws.{bytes-few, cover-in, height-le, width-le}
use Rattle.records.proofs.RecordLaws.{sample-inside}
use Rattle.image.specs.Format.{bytes_of, columns_of, cover, half_x, half_y, halved, halves_x, halves_y, has_alpha, has_part, middle_of, rows_of, top_of}
use Rattle.records.specs.Record.{data_of, plane_of}
use Rattle.image.specs.declared.format.Form.{Form}
use Rattle.image.specs.declared.format.Part.{Part}
use Rattle.image.specs.declared.format.Part.TheVariants.{Alpha, Cb, Cr, Luma}
use Rattle.image.specs.declared.format.PixelFormat.{PixelFormat}
use Rattle.records.specs.declared.record.Frame.{Frame}
use Rattle.records.specs.inner.Placed.{Sound}
use Rattle.planes.proofs.ByteLaws.{sample-small, samples-same}
use Rattle.planes.specs.Bytes.{decode, sample_in, samples_of}
use Rattle.planes.specs.Picture.{Pic, full, pixel}
use Rattle.paste.proofs.RowLaws.{rows-cong, rows_none}
use Rattle.paste.specs.Stored.{store_rows}
use Rattle.paste.specs.declared.rows.Source.{Source}
use Rattle.paste.specs.inner.Source.{RowsFit, capped_row, source_at, source_row}
use Rattle.derived.specs.declared.overlay.Placement.{Placement}
use Rattle.opaque.proofs.WindowLaws.{cover-le, spot-cover, step-some}
use Rattle.opaque.specs.declared.lay.Place.{Place}
use Rattle.opaque.specs.inner.Laid.{PlaceFits, absent_of, laid_at, laid_row, lay_part, lay_rows, place_of, source_of, unfit}
use Rattle.opaque.specs.inner.Window.{spot_of}

-- ---- samples and top

-- a sample of 8 or of 16 bits is not above top
uncapped : (f : PixelFormat) (v : ℕ) → (not (eqb f.depth 8) && not (eqb f.depth 16)) ≡ false → v < 256 ^ bytes_of f → min v (top_of f) ≡ v
unfolding bytes_of top_of pick
uncapped f v e l =
    by_equal f.depth 8
    (λ q. let k : v < 256 ^ 1 = rw q at l in rw q (omega arith))
    (λ q.
    by_equal f.depth 16
    (λ r. let k : v < 256 ^ 2 = rw r at l in rw r (omega arith))
    (λ r. absurd (true≢false (sym (true-and _ _ (ap not (ne_eqb _ _ q)) (ap not (ne_eqb _ _ r))) ∙ e))))

middle-low : (d : ℕ) → 1 ≤ d → 2 ^ (d - 1) ≤ 2 ^ d - 1
middle-low zero l = absurd (not-suc-le-zero l)
middle-low (suc d) l =
    let e : suc d - 1 ≡ d = omega arith in
    let z : 0 ≤ d = omega arith in
    let k : 1 ≤ 2 ^ d = pow-le-pow_right {n = 2} (lit< tt) z in
    rw (e, pow-suc) (omega (arith, k))

-- rows of samples of as many bytes
pub samples-as : (b b' : ℕ) (f g : ℕ → ℕ) (n : ℕ) → b ≡ b' → ((j : ℕ) → j < n → f j ≡ g j) → samples_of b f n ≡ samples_of b' g n
samples-as b b' f g n e h = ap (λ (k : ℕ). samples_of k f n) e ∙ samples-same b' f g n h

-- ---- what a record that is not unfit is

halved-too : (a b : Bool) → (a && not b) ≡ false → (p : Part) → halved a p ≡ true → halved b p ≡ true
unfolding halved
halved-too a b f Luma e = e
halved-too a b f Cb e = by-test b (λ q. q) (λ q. absurd (true≢false (sym (true-and _ _ e (ap not q)) ∙ f)))
halved-too a b f Cr e = by-test b (λ q. q) (λ q. absurd (true≢false (sym (true-and _ _ e (ap not q)) ∙ f)))
halved-too a b f Alpha e = e

module _ (c : Form) (fr : Frame) (fit : unfit c fr ≡ false) where
  pub fit-opaque : has_alpha fr.form.format ≡ false
  unfolding unfit
  fit-opaque = or_left (has_alpha fr.form.format) _ fit

  rest : (not (eqb fr.form.format.depth c.format.depth) || (halves_x c.format && not (halves_x fr.form.format) || halves_y c.format && not (halves_y fr.form.format))) ≡ false
  unfolding unfit
  rest = or_right (has_alpha fr.form.format) _ fit

  pub fit-depth : fr.form.format.depth ≡ c.format.depth
  fit-depth = eqb-true _ _ (not-false _ (or_left (not (eqb fr.form.format.depth c.format.depth)) _ rest))

  pub fit-bytes : bytes_of fr.form.format ≡ bytes_of c.format
  unfolding bytes_of
  fit-bytes = ap (λ (d : ℕ). pick (leb d 8) 1 2) fit-depth

  halves : (halves_x c.format && not (halves_x fr.form.format) || halves_y c.format && not (halves_y fr.form.format)) ≡ false
  halves = or_right (not (eqb fr.form.format.depth c.format.depth)) _ rest

  fit-across : (p : Part) → half_x c.format p ≡ true → half_x fr.form.format p ≡ true
  fit-across p = halved-too _ _ (or_left (halves_x c.format && not (halves_x fr.form.format)) _ halves) p

  fit-down : (p : Part) → half_y c.format p ≡ true → half_y fr.form.format p ≡ true
  fit-down p = halved-too _ _ (or_right (halves_x c.format && not (halves_x fr.form.format)) _ halves) p

-- ---- a plane that it has

laid-colour : (f : PixelFormat) (top : ℕ) (T : Pic) (p : Part) (u v : ℕ) → has_alpha f ≡ false → has_part f p ≡ true → laid_at top T p u v ≡ min (full T p u v) top
unfolding laid_at has_part
laid-colour f top T Luma u v o h = refl
laid-colour f top T Cb u v o h = refl
laid-colour f top T Cr u v o h = refl
laid-colour f top T Alpha u v o h = absurd (true≢false (sym h ∙ o))

module _ (tray : List ℕ) (fr : Frame) (c : Form) (fit : unfit c fr ≡ false) (p : Part) (has : has_part fr.form.format p ≡ true) (q : Place) where
  abbrev source : Source
  source = source_of fr c.format p q

  abbrev bytes-in : List ℕ
  bytes-in = data_of tray (plane_of fr p)

  column-is : (i : ℕ) → cover source.half_across (source.x + i) ≡ cover (half_x fr.form.format p) (spot_of (half_x c.format p) q.across i)
  unfolding source_of
  column-is i = spot-cover (half_x c.format p) (half_x fr.form.format p) q.across.spot i (fit-across c fr fit p)

  row_is : (k : ℕ) → cover source.half_down (source.y + k) ≡ cover (half_y fr.form.format p) (spot_of (half_y c.format p) q.down k)
  unfolding source_of
  row_is k = spot-cover (half_y c.format p) (half_y fr.form.format p) q.down.spot k (fit-down c fr fit p)

  full_is : (u v : ℕ) → full (decode tray fr) p u v ≡ sample_in bytes-in (bytes_of fr.form.format) (plane_of fr p).stride (cover (half_x fr.form.format p) u) (cover (half_y fr.form.format p) v)
  unfolding full pixel decode
  full_is u v = pick_true _ _ _ has

  sample-is : (i k : ℕ) → source_at bytes-in source i k ≡ full (decode tray fr) p (spot_of (half_x c.format p) q.across i) (spot_of (half_y c.format p) q.down k)
  unfolding source_of source_at
  sample-is i k = ap₂ (λ (a b : ℕ). sample_in bytes-in (bytes_of fr.form.format) (plane_of fr p).stride a b) (column-is i) (row_is k) ∙ sym (full_is _ _)

  capped_is : (i k : ℕ) → min (source_at bytes-in source i k) (top_of c.format) ≡ laid_at (top_of c.format) (decode tray fr) p (spot_of (half_x c.format p) q.across i) (spot_of (half_y c.format p) q.down k)
  capped_is i k = ap (λ (v : ℕ). min v (top_of c.format)) (sample-is i k) ∙ sym (laid-colour fr.form.format _ _ p _ _ (fit-opaque c fr fit) has)

  -- its rows, held to top
  capped-laid : (k : ℕ) → capped_row bytes-in source (top_of c.format) q.across.count k ≡ laid_row c (decode tray fr) p q k
  unfolding source_of capped_row laid_row
  capped-laid k = samples-as _ _ _ _ q.across.count (fit-bytes c fr fit) (λ i l. capped_is i k)

  -- or as they are
  sample-low : Bytes bytes-in → (not (eqb c.format.depth 8) && not (eqb c.format.depth 16)) ≡ false → (i k : ℕ) → source_at bytes-in source i k ≡ min (source_at bytes-in source i k) (top_of c.format)
  unfolding source_of source_at sample_in
  sample-low small e i k =
      let few = bytes-few fr.form.format in
      sym (uncapped c.format _ e (rw (← fit-bytes c fr fit) (sample-small bytes-in (bytes_of fr.form.format) _ small few.0 few.1)))

  plain-laid : Bytes bytes-in → (not (eqb c.format.depth 8) && not (eqb c.format.depth 16)) ≡ false → (k : ℕ) → source_row bytes-in source q.across.count k ≡ laid_row c (decode tray fr) p q k
  unfolding source_of source_row laid_row
  plain-laid small e k = samples-as _ _ _ _ q.across.count (fit-bytes c fr fit) (λ i l. sample-low small e i k ∙ capped_is i k)

  -- stored, they are laid
  pub rows-capped : (d : List ℕ) → store_rows d q.at q.stride (capped_row bytes-in source (top_of c.format) q.across.count) q.down.count ≡ lay_rows c (decode tray fr) p q d
  unfolding lay_rows
  rows-capped d = rows-cong d q.at q.stride _ _ q.down.count (λ k l. capped-laid k)

  pub rows-plain : Bytes bytes-in → (not (eqb c.format.depth 8) && not (eqb c.format.depth 16)) ≡ false → (d : List ℕ)
      → store_rows d q.at q.stride (source_row bytes-in source q.across.count) q.down.count ≡ lay_rows c (decode tray fr) p q d
  unfolding lay_rows
  rows-plain small e d = rows-cong d q.at q.stride _ _ q.down.count (λ k l. plain-laid small e k)

  column-in : (i : ℕ) → spot_of (half_x c.format p) q.across i < fr.form.width → cover (half_x fr.form.format p) (spot_of (half_x c.format p) q.across i) < columns_of fr.form p
  unfolding columns_of
  column-in i l = cover-in (half_x fr.form.format p) _ fr.form.width l

  row_in : (k : ℕ) → spot_of (half_y c.format p) q.down k < fr.form.height → cover (half_y fr.form.format p) (spot_of (half_y c.format p) q.down k) < rows_of fr.form p
  unfolding rows_of
  row_in k l = cover-in (half_y fr.form.format p) _ fr.form.height l

  -- they are read and written inside
  pub rows_fit : (n : ℕ) → Sound tray fr → PlaceFits c fr.form p q n → RowsFit n (length bytes-in) q.at q.stride q.across.count q.down.count source
  unfolding source_of
  rows_fit n ok fits =
      let few = bytes-few fr.form.format in
      record {
        positive = few.0;
        bounded = few.1;
        any = fits.across;
        wide =
            let w = fits.wide (q.across.count - 1) (omega (arith, fits.across)) in
            omega (arith, width-le fr.form ok.form, cover-le (half_x c.format p) q.across.spot, step-some (half_x c.format p) (q.across.count - 1), fits.across);
        tall =
            let w = fits.tall (q.down.count - 1) (omega (arith, fits.down)) in
            omega (arith, height-le fr.form ok.form, cover-le (half_y c.format p) q.down.spot, step-some (half_y c.format p) (q.down.count - 1), fits.down);
        reads = λ i k l m. rw (column-is i, row_is k) (sample-inside tray fr.form p (plane_of fr p) (ok.planes p has) _ _ (column-in i (fits.wide i l)) (row_in k (fits.tall k m)));
        writes = λ k l. rw (fit-bytes c fr fit) (fits.writes k l);
      }

-- ---- a plane that it has not, and nothing of one

rows_empty : (d : List ℕ) (at stride : ℕ) (f : ℕ → List ℕ) (k : ℕ) → ((y : ℕ) → f y ≡ []) → store_rows d at stride f k ≡ d
unfolding store_rows
rows_empty d at stride f zero e = refl
rows_empty d at stride f (suc k) e = sym (writing-none (store_rows d at stride f k) (at + k * stride) (f k) (e k)).1 ∙ rows_empty d at stride f k e

module _ (c : Form) (T : Pic) (depth : T.form.format.depth ≡ c.format.depth) (some : 1 ≤ c.format.depth) where
  middle-is : (p : Part) (u v : ℕ) → has_part T.form.format p ≡ false → middle_of c.format ≡ min (full T p u v) (top_of c.format)
  unfolding full middle_of top_of
  middle-is p u v h =
      let e : full T p u v ≡ 2 ^ (c.format.depth - 1) = pick-false _ _ _ h ∙ ap (λ (d : ℕ). 2 ^ (d - 1)) depth in
      rw e (omega (arith, middle-low c.format.depth some))

  pub absent-is : (p : Part) (u v : ℕ) → has_part T.form.format p ≡ false → absent_of c.format p ≡ laid_at (top_of c.format) T p u v
  unfolding absent_of laid_at
  absent-is Luma u v h = middle-is Luma u v h
  absent-is Cb u v h = middle-is Cb u v h
  absent-is Cr u v h = middle-is Cr u v h
  absent-is Alpha u v h = refl

-- one sample in its place
pub rows-absent : (tray : List ℕ) (fr : Frame) (c : Form) (p : Part) (q : Place) (d : List ℕ) → unfit c fr ≡ false → 1 ≤ c.format.depth → has_part fr.form.format p ≡ false
    → store_rows d q.at q.stride (λ k. samples_of (bytes_of c.format) (λ i. absent_of c.format p) q.across.count) q.down.count ≡ lay_rows c (decode tray fr) p q d
unfolding lay_rows laid_row decode
rows-absent tray fr c p q d fit some h =
    rows-cong d q.at q.stride _ _ q.down.count (λ k l. samples-same _ _ _ q.across.count (λ i m. absent-is c (decode tray fr) (fit-depth c fr fit) some p _ _ h))

-- nothing of it
pub rows-narrow : (c : Form) (T : Pic) (p : Part) (q : Place) (d : List ℕ) → q.across.count ≡ 0 → d ≡ lay_rows c T p q d
unfolding lay_rows laid_row samples_of
rows-narrow c T p q d e = sym (rows_empty d q.at q.stride _ q.down.count (λ k. rw e (span-end _ 0 0 (omega arith))))

pub rows-low : (c : Form) (T : Pic) (p : Part) (q : Place) (d : List ℕ) → q.down.count ≡ 0 → d ≡ lay_rows c T p q d
unfolding lay_rows
rows-low c T p q d e = sym (rows_none d q.at q.stride _ q.down.count e)

-- a plane that the canvas has, by its rectangle
pub part-laid : (c : Form) (T : Pic) (o : Placement) (p : Part) (q : Place) (d e : List ℕ) → has_part c.format p ≡ true → q ≡ place_of c T.form o p → e ≡ lay_rows c T p q d → e ≡ lay_part c T o p d
unfolding lay_part
part-laid c T o p q d e h k f = f ∙ ap (λ (r : Place). lay_rows c T p r d) k ∙ sym (pick_true _ _ _ h)
