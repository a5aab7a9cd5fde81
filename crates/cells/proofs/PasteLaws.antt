-- Laws of tiles stored in a canvas's record: its picture with the tiles pasted in.
use mathlib.Core.Bool.{Bool, ◌&&◌, true}
use mathlib.Core.List.{List, ◌++◌}
use mathlib.Core.Path.{◌∙◌, ◌≡◌, ap, ap₂, refl, sym}
use Prim.Native.Nat.{◌*◌, ◌+◌, ◌-◌, ℕ}
use native.Mathlib.Nat.{mul_assoc}
use native.Mathlib.Omega.{arith}
use lib.Dec.{T}
use lib.ListN.{length}
use Rattle.laws.proofs.Order.{and_no, by_equal, by-test, pick-both, pick-false, pick_true, within, within-no}
use Rattle.laws.specs.Pick.{pick}
use Rattle.image.specs.Format.{bytes_of, columns_of, has_part, row_size, rows_of}
use Rattle.records.specs.Record.{plane_of}
use Rattle.image.specs.Sound.{FormSound}
use Rattle.image.specs.declared.format.Form.{Form}
use Rattle.image.specs.declared.format.Part.{Part}
use Rattle.image.specs.declared.format.Part.TheVariants.{Alpha, Cb, Cr, Luma}
use Rattle.planes.specs.Bytes.{head_bytes, samples_of, tight_at}
use Rattle.planes.specs.Picture.{Pic}
use Rattle.paste.proofs.HeadedLaws.{after_part, before_part, headed-split, on_part, on_part-split}
use Rattle.paste.proofs.RectLaws.{no-and, rect-pasted, rect_at, rows_same}
use Rattle.paste.proofs.RowLaws.{rows_none}
use Rattle.paste.specs.Stored.{headed, store_rows}
use Rattle.cells.proofs.CellFits.{cell-is, cell-low, cell-narrow}
use Rattle.cells.proofs.CellLaws.{visible-within}
use Rattle.cells.specs.Cell.{cell_of, no_cell, store_cell, store_part, store_tile, visible_of}
use Rattle.cells.specs.declared.cell.Cell.{Cell}

-- ---- one part of one tile

-- whether a place of a plane is one that a tile's cell shows
unfoldable pub shows : Form → Form → ℕ → ℕ → Part → ℕ → ℕ → Bool
shows c t column row p x y =
    within (row * rows_of t p) (visible_of (rows_of c p) (rows_of t p) row) y
    && within (column * columns_of t p) (visible_of (columns_of c p) (columns_of t p) column) x

unfoldable pub paste_at : Pic → ℕ → ℕ → Part → Pic → ℕ → ℕ → ℕ
paste_at T column row p P x y =
    pick (shows P.form T.form column row p x y) (T.at p (x - column * columns_of T.form p) (y - row * rows_of T.form p)) (P.at p x y)

unfoldable pub paste_part : Pic → ℕ → ℕ → Part → Pic → Pic
paste_part T column row p P = pick (has_part T.form.format p) (on_part P p (paste_at T column row p P)) P

pub paste-form : (T : Pic) (column row : ℕ) (p : Part) (P : Pic) → (paste_part T column row p P).form ≡ P.form
unfolding paste_part on_part
paste-form T column row p P = pick-both (λ (Q : Pic). Q.form ≡ P.form) _ _ _ refl refl

module _ (T P : Pic) (column row : ℕ) (p : Part) (ok : FormSound P.form) (has : has_part P.form.format p ≡ true) (same : bytes_of T.form.format ≡ bytes_of P.form.format) where
  abbrev c : Form
  c = P.form

  abbrev t : Form
  t = T.form

  abbrev bytes : ℕ
  bytes = bytes_of P.form.format

  abbrev vis_x : ℕ
  vis_x = visible_of (columns_of c p) (columns_of t p) column

  abbrev vis_y : ℕ
  vis_y = visible_of (rows_of c p) (rows_of t p) row

  -- nothing shows
  hidden : ((x y : ℕ) → paste_at T column row p P x y ≡ P.at p x y) → cell_of c t column row p ≡ no_cell
      → (h rest : List ℕ) → store_cell (cell_of c t column row p) T p (headed h P ++ rest) ≡ headed h (on_part P p (paste_at T column row p P)) ++ rest
  unfolding store_cell no_cell
  hidden e k h rest =
      ap (λ (k : Cell). store_rows (headed h P ++ rest) k.at k.stride (λ y. samples_of (bytes_of t.format) (λ x. T.at p x y) k.across) k.down) k
      ∙ rows_none _ _ _ _ 0 refl ∙ headed-split h P p rest has
      ∙ ap (λ (r : List ℕ). before_part h P p ++ (r ++ (after_part P p ++ rest))) (sym (rows_same P p _ e))
      ∙ sym (on_part-split h P p _ rest has)

  narrow_at : vis_x ≡ 0 → (x y : ℕ) → paste_at T column row p P x y ≡ P.at p x y
  unfolding paste_at shows
  narrow_at e x y = pick-false _ _ _ (and_no (within (row * rows_of t p) vis_y y) (within-no (column * columns_of t p) vis_x x (λ a b. omega arith)))

  low-at : vis_y ≡ 0 → (x y : ℕ) → paste_at T column row p P x y ≡ P.at p x y
  unfolding paste_at shows
  low-at e x y = pick-false _ _ _ (no-and (within (column * columns_of t p) vis_x x) (within-no (row * rows_of t p) vis_y y (λ a b. omega arith)))

  -- the columns before it
  row-place : column * row_size t p ≡ column * columns_of t p * bytes
  unfolding row_size
  row-place = ap (λ (k : ℕ). column * (columns_of t p * k)) same ∙ sym (mul_assoc column (columns_of t p) bytes)

  -- it shows
  shown : (vis_x ≡ 0 → ⊥) → (vis_y ≡ 0 → ⊥) → (h rest : List ℕ) → length h ≡ length (head_bytes c)
      → store_cell (cell_of c t column row p) T p (headed h P ++ rest) ≡ headed h (on_part P p (paste_at T column row p P)) ++ rest
  unfolding store_cell paste_at shows rect_at
  shown nx ny h rest e =
      ap (λ (k : Cell). store_rows (headed h P ++ rest) k.at k.stride (λ y. samples_of (bytes_of t.format) (λ x. T.at p x y) k.across) k.down) (cell-is c t ok p has same column row nx ny)
      ∙ ap₂ (λ (i b : ℕ). store_rows (headed h P ++ rest) ((plane_of (tight_at c 0) p).start + (row * rows_of t p * row_size c p + i)) (row_size c p) (λ y. samples_of b (λ x. T.at p x y) vis_x) vis_y) row-place same
      ∙ rect-pasted P p has (column * columns_of t p) vis_x (row * rows_of t p) vis_y (T.at p) (visible-within (columns_of c p) (columns_of t p) column nx) (visible-within (rows_of c p) (rows_of t p) row ny) h rest e

-- STORED IN ITS CELL, A PART IS PASTED IN
pub part-pasted : (T P : Pic) (column row : ℕ) (p : Part) (h rest : List ℕ) → FormSound P.form → (has_part T.form.format p ≡ true → has_part P.form.format p ≡ true) → bytes_of T.form.format ≡ bytes_of P.form.format
    → length h ≡ length (head_bytes P.form) → store_part P.form T column row p (headed h P ++ rest) ≡ headed h (paste_part T column row p P) ++ rest
unfolding store_part paste_part
part-pasted T P column row p h rest ok has same e =
    by-test (has_part T.form.format p)
    (λ q.
    pick_true _ _ _ q
    ∙ by_equal (visible_of (columns_of P.form p) (columns_of T.form p) column) 0
    (λ z. hidden T P column row p ok (has q) same (narrow_at T P column row p ok (has q) same z) (cell-narrow P.form T.form column row p z) h rest)
    (λ nx.
    by_equal (visible_of (rows_of P.form p) (rows_of T.form p) row) 0
    (λ z. hidden T P column row p ok (has q) same (low-at T P column row p ok (has q) same z) (cell-low P.form T.form column row p z) h rest)
    (λ ny. shown T P column row p ok (has q) same nx ny h rest e))
    ∙ ap (λ (Q : Pic). headed h Q ++ rest) (sym (pick_true _ _ _ q)))
    (λ q. pick-false _ _ _ q ∙ ap (λ (Q : Pic). headed h Q ++ rest) (sym (pick-false _ _ _ q)))

-- ---- a tile

unfoldable pub paste_tile : Pic → ℕ → ℕ → Pic → Pic
paste_tile T column row P = paste_part T column row Alpha (paste_part T column row Cr (paste_part T column row Cb (paste_part T column row Luma P)))

-- what a tile asks of the canvas's form
pub record Meets (t c : Form) : Type 0 where
  pub sound : FormSound c
  pub parts : (p : Part) → has_part t.format p ≡ true → has_part c.format p ≡ true
  pub bytes : bytes_of t.format ≡ bytes_of c.format

part_step : (T P : Pic) (c : Form) (column row : ℕ) (p : Part) (h rest : List ℕ) → P.form ≡ c → Meets T.form c → length h ≡ length (head_bytes c)
    → (store_part c T column row p (headed h P ++ rest) ≡ headed h (paste_part T column row p P) ++ rest) × ((paste_part T column row p P).form ≡ c)
part_step T P c column row p h rest e m l =
    let k : Meets T.form P.form = rw e m in
    (ap (λ (q : Form). store_part q T column row p (headed h P ++ rest)) (sym e) ∙ part-pasted T P column row p h rest k.sound (k.parts p) k.bytes (rw e l), paste-form T column row p P ∙ e)

pub tile-pasted : (T P : Pic) (c : Form) (column row : ℕ) (h rest : List ℕ) → P.form ≡ c → Meets T.form c → length h ≡ length (head_bytes c)
    → (store_tile c T column row (headed h P ++ rest) ≡ headed h (paste_tile T column row P) ++ rest) × ((paste_tile T column row P).form ≡ c)
unfolding store_tile paste_tile
tile-pasted T P c column row h rest e m l =
    let s1 = part_step T P c column row Luma h rest e m l in
    let s2 = part_step T (paste_part T column row Luma P) c column row Cb h rest s1.1 m l in
    let s3 = part_step T (paste_part T column row Cb (paste_part T column row Luma P)) c column row Cr h rest s2.1 m l in
    let s4 = part_step T (paste_part T column row Cr (paste_part T column row Cb (paste_part T column row Luma P))) c column row Alpha h rest s3.1 m l in (
      ap (λ (d : List ℕ). store_part c T column row Alpha (store_part c T column row Cr (store_part c T column row Cb d))) s1.0
          ∙ ap (λ (d : List ℕ). store_part c T column row Alpha (store_part c T column row Cr d)) s2.0
          ∙ ap (store_part c T column row Alpha) s3.0 ∙ s4.0,
      s4.1,
    )
