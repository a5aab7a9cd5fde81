-- Laws of a cell in the canvas's record: it lies inside, and its numbers are small.
use mathlib.Core.Bool.{Bool, ◌||◌, false, true}
use mathlib.Core.Path.{◌∙◌, ◌≡◌, ap, refl, sym}
use Prim.Native.Nat.{◌*◌, ◌+◌, ◌<◌, ◌^◌, ◌≤◌, ℕ}
use native.Mathlib.Nat.{add-mul, mul_assoc, mul-le-mul_right}
use native.Mathlib.Omega.{arith}
use lib.Dec.{eqb}
use borrow.Author.Tests.{eq-eqb, ne_eqb}
use Rattle.laws.proofs.Order.{by_equal, item-within, pick-false, pick_true, positive}
use Rattle.image.proofs.FormLaws.{row-le, size-le}
use Rattle.image.specs.Format.{bytes_of, columns_of, has_part, row_size, rows_of}
use Rattle.records.specs.Record.{plane_of}
use Rattle.image.specs.Sound.{FormSound}
use Rattle.image.specs.declared.format.Form.{Form}
use Rattle.image.specs.declared.format.Part.{Part}
use Rattle.planes.specs.Bytes.{size_of, tight_at}
use Rattle.paste.proofs.HeadedLaws.{part_end}
use Rattle.cells.proofs.CellLaws.{visible-within}
use Rattle.cells.specs.Cell.{cell_of, no_cell, visible_of}
use Rattle.cells.specs.declared.cell.Cell.{Cell}

module _ (c t : Form) (okc : FormSound c) (p : Part) (has : has_part c.format p ≡ true) (same : bytes_of t.format ≡ bytes_of c.format) (column row : ℕ) where
  module _ (shows_x : visible_of (columns_of c p) (columns_of t p) column ≡ 0 → ⊥) (shows_y : visible_of (rows_of c p) (rows_of t p) row ≡ 0 → ⊥) where
    -- the rows above, and the columns before
    pub above-le : (y : ℕ) → y < visible_of (rows_of c p) (rows_of t p) row → row * rows_of t p * row_size c p + y * row_size c p + row_size c p ≤ rows_of c p * row_size c p
    above-le y l =
        let w = visible-within (rows_of c p) (rows_of t p) row shows_y in
        omega (arith, add-mul (row * rows_of t p) y (row_size c p), item-within (row * rows_of t p + y) (rows_of c p) (row_size c p) (omega arith))

    pub before-le : column * row_size t p + visible_of (columns_of c p) (columns_of t p) column * bytes_of c.format ≤ row_size c p
    unfolding row_size
    before-le =
        let w = visible-within (columns_of c p) (columns_of t p) column shows_x in
        let a : column * (columns_of t p * bytes_of t.format) ≡ column * columns_of t p * bytes_of c.format = ap (λ (k : ℕ). column * (columns_of t p * k)) same ∙ sym (mul_assoc column (columns_of t p) (bytes_of c.format)) in
        let b = mul-le-mul_right (bytes_of c.format) w in
        omega (arith, add-mul (column * columns_of t p) (visible_of (columns_of c p) (columns_of t p) column) (bytes_of c.format))

    -- what a 64-bit number holds
    pub above-small : row * rows_of t p * row_size c p ≤ 2 ^ 31
    above-small = let p₀ = positive (visible_of (rows_of c p) (rows_of t p) row) shows_y in omega (arith, above-le 0 (omega arith), size-le c okc p)

    pub before_small : column * row_size t p ≤ 2 ^ 31
    before_small = omega (arith, before-le, row-le c okc p)

    pub start_small : (plane_of (tight_at c 0) p).start + row * rows_of t p * row_size c p + column * row_size t p ≤ size_of c
    start_small = let p₀ = positive (visible_of (rows_of c p) (rows_of t p) row) shows_y in omega (arith, above-le 0 (omega arith), before-le, part_end c p has)

    -- the cell
    pub cell-is : cell_of c t column row p
        ≡ record { at = (plane_of (tight_at c 0) p).start + (row * rows_of t p * row_size c p + column * row_size t p); stride = row_size c p; across = visible_of (columns_of c p) (columns_of t p) column; down = visible_of (rows_of c p) (rows_of t p) row }
    unfolding cell_of
    cell-is = pick-false _ _ _ (rw (ne_eqb _ 0 shows_x, ne_eqb _ 0 shows_y))

    pub writes-le : (y : ℕ) → y < visible_of (rows_of c p) (rows_of t p) row
        → (plane_of (tight_at c 0) p).start + (row * rows_of t p * row_size c p + column * row_size t p) + y * row_size c p + visible_of (columns_of c p) (columns_of t p) column * bytes_of c.format ≤ size_of c
    writes-le y l = omega (arith, above-le y l, before-le, part_end c p has)

-- the numbers as they are worked out
module _ (c t : Form) (okc : FormSound c) (p : Part) (has : has_part c.format p ≡ true) (same : bytes_of t.format ≡ bytes_of c.format) (column row start stride wide high bytes across down : ℕ)
    (e1 : start ≡ (plane_of (tight_at c 0) p).start) (e2 : stride ≡ row_size c p) (e3 : wide ≡ columns_of t p) (e4 : high ≡ rows_of t p) (e5 : bytes ≡ bytes_of t.format)
    (e6 : across ≡ visible_of (columns_of c p) (columns_of t p) column) (e7 : down ≡ visible_of (rows_of c p) (rows_of t p) row) (n1 : across ≡ 0 → ⊥) (n2 : down ≡ 0 → ⊥) where
  shown_x : visible_of (columns_of c p) (columns_of t p) column ≡ 0 → ⊥
  shown_x e = n1 (e6 ∙ e)

  shown_y : visible_of (rows_of c p) (rows_of t p) row ≡ 0 → ⊥
  shown_y e = n2 (e7 ∙ e)

  pub worked-above : row * high * stride ≤ 2 ^ 31
  worked-above = rw (e4, e2) (above-small c t okc p has same column row shown_x shown_y)

  pub worked-before : column * (wide * bytes) ≤ 2 ^ 31
  unfolding row_size
  worked-before = rw (e3, e5) (before_small c t okc p has same column row shown_x shown_y)

  pub worked-at : start + (row * high * stride + column * (wide * bytes)) ≤ size_of c
  unfolding row_size
  worked-at = rw (e1, e2, e3, e4, e5) (omega (arith, start_small c t okc p has same column row shown_x shown_y))

  pub worked-cell : record { at = start + (row * high * stride + column * (wide * bytes)); stride = stride; across = across; down = down } ≡ cell_of c t column row p
  unfolding row_size
  worked-cell = rw (e1, e2, e3, e4, e5, e6, e7) (sym (cell-is c t okc p has same column row shown_x shown_y))

pub cell-narrow : (c t : Form) (column row : ℕ) (p : Part) → visible_of (columns_of c p) (columns_of t p) column ≡ 0 → cell_of c t column row p ≡ no_cell
unfolding cell_of
cell-narrow c t column row p e = pick_true _ _ _ (rw (eq-eqb _ 0 e))

pub cell-low : (c t : Form) (column row : ℕ) (p : Part) → visible_of (rows_of c p) (rows_of t p) row ≡ 0 → cell_of c t column row p ≡ no_cell
unfolding cell_of
cell-low c t column row p e = pick_true _ _ _ (or_yes (eqb (visible_of (columns_of c p) (columns_of t p) column) 0) (eq-eqb (visible_of (rows_of c p) (rows_of t p) row) 0 e))
  where
    or_yes : (a : Bool) {b : Bool} → b ≡ true → (a || b) ≡ true
    or_yes true e = refl
    or_yes false e = e

-- a cell that has something, or none
pub cell-cases {ℓ} : (c t : Form) (column row : ℕ) (p : Part) (X : Cell → Type ℓ) → X no_cell
    → ((visible_of (columns_of c p) (columns_of t p) column ≡ 0 → ⊥) → (visible_of (rows_of c p) (rows_of t p) row ≡ 0 → ⊥) → X (cell_of c t column row p)) → X (cell_of c t column row p)
cell-cases c t column row p X none some =
    by_equal (visible_of (columns_of c p) (columns_of t p) column) 0 (λ e. rw (cell-narrow c t column row p e) none)
    (λ d. by_equal (visible_of (rows_of c p) (rows_of t p) row) 0 (λ e. rw (cell-low c t column row p e) none) (λ f. some d f))

pub tile-row-le : (t : Form) → FormSound t → (p : Part) → columns_of t p * bytes_of t.format ≤ 2 ^ 31
unfolding row_size
tile-row-le t ok p = row-le t ok p
