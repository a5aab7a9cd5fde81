use mathlib.Core.Path.{◌∙◌, ◌≡◌, ap, ap₂, refl, sym}
use Prim.Native.Nat.{◌*◌, ◌<◌, ◌^◌, ◌≤◌, ℕ}
use native.Mathlib.Omega.{arith}
use Rattle.laws.proofs.Order.{mul-below}
use Rattle.image.proofs.FormLaws.{columns-le, height-le, rows-le, width-le}
use Rattle.image.specs.Format.{bytes_of, columns_of, rows_of}
use Rattle.records.specs.Record.{plane_of}
use Rattle.records.specs.declared.record.Frame.{Frame}
use Rattle.records.specs.declared.record.Plane.{Plane}
use Rattle.planes.specs.Bytes.{tight_at}
use Rattle.paste.proofs.HeadedLaws.{part-stride}
use Rattle.cells.proofs.CellFits.{cell-low, cell-narrow, tile-row-le, worked-above, worked-at, worked-before, worked-cell}
use Rattle.cells.specs.Cell.{no_cell, visible_of}
use Rattle.cells.proofs.cell.cell_of.Goals as goal
use Rattle.cells.proofs.cell.cell_of.Goals.{After-plane-plane, Else-down-eq0, Start, then-across-eq0-via-then-across-eq0, then-across-eq0-via-else-across-eq0+then-down-eq0}

-- the numbers that were worked out
module _ (c : Else-down-eq0) where
  wide : c.columns-wide.result ≡ columns_of c.args.tile c.args.part
  unfolding columns_of
  wide = c.columns-wide.ensures

  high : c.rows-high.result ≡ rows_of c.args.tile c.args.part
  unfolding rows_of
  high = c.rows-high.ensures

  across : c.visible-across.result
      ≡ visible_of (columns_of c.args.to.form c.args.part) (columns_of c.args.tile c.args.part) c.args.column
  unfolding columns_of
  across =
      c.visible-across.ensures ∙ ap₂ (λ (a b : ℕ). visible_of a b c.args.column) c.columns.ensures c.columns-wide.ensures

  down : c.visible-down.result
      ≡ visible_of (rows_of c.args.to.form c.args.part) (rows_of c.args.tile c.args.part) c.args.row
  unfolding rows_of
  down =
      c.visible-down.ensures
      ∙ ap₂ (λ (a b : ℕ). visible_of a b c.args.row) c.rows.ensures c.rows-high.ensures

  few : c.rows-high.result ≤ 2 ^ 30
  few =
      omega (arith, high, rows-le c.args.tile c.requires.2 c.args.part, height-le c.args.tile c.requires.2)

to : (c : After-plane-plane)
    → c.plane-plane.result ≡ plane_of (tight_at c.args.to.form 0) c.args.part
to c =
    c.plane-plane.ensures ∙ ap (λ (f : Frame). plane_of f c.args.part) c.requires.0

small : (c : Start) → c.args.row < 2 ^ 32
small c = omega arith

pub visible-across-requires : goal.visible-across-requires
unfolding columns_of
visible-across-requires c =
    let b = columns-le c.args.tile c.requires.2 c.args.part in
    let w = width-le c.args.tile c.requires.2 in
    omega (arith, c.columns-wide.ensures)

pub visible-down-requires : goal.visible-down-requires
unfolding rows_of
visible-down-requires c =
    let b = rows-le c.args.tile c.requires.2 c.args.part in
    let w = height-le c.args.tile c.requires.2 in
    omega (arith, c.rows-high.ensures)

pub returns-then-across-eq0 : goal.returns-then-across-eq0
unfolding columns_of rows_of no_cell
returns-then-across-eq0 c =
    elim c.then-across-eq0.branch [
      | then-across-eq0-via-then-across-eq0 w ↦
          sym (cell-narrow _ _ _ _ _
          (sym (c.visible-across.ensures ∙ ap₂ (λ (a b : ℕ). visible_of a b c.args.column) c.columns.ensures c.columns-wide.ensures)
          ∙ w.if-across-eq0.true))
      | then-across-eq0-via-else-across-eq0+then-down-eq0 w ↦
          sym (cell-low _ _ _ _ _
          (sym (c.visible-down.ensures
          ∙ ap₂ (λ (a b : ℕ). visible_of a b c.args.row) c.rows.ensures c.rows-high.ensures)
          ∙ w.if-down-eq0.true))
    ]

pub overflow_mul-above : goal.overflow_mul-above
overflow_mul-above c =
    omega (arith, mul-below (2 ^ 32) (2 ^ 30) c.args.row c.rows-high.result (omega (arith, small (goal.at.overflow_mul-above c).Start)) (few (goal.at.overflow_mul-above c).Else-down-eq0))

pub overflow_mul-above-2 : goal.overflow_mul-above-2
overflow_mul-above-2 c =
    omega (
      arith,
      worked-above c.args.to.form c.args.tile c.requires.1 c.args.part c.requires.3 c.requires.4 c.args.column
          c.args.row c.plane-plane.result.start c.plane-plane.result.stride c.columns-wide.result c.rows-high.result
          (bytes_of c.args.tile.format) c.visible-across.result c.visible-down.result (ap (λ (q : Plane). q.start) (to c))
          (ap (λ (q : Plane). q.stride) (to c) ∙ part-stride _ _ c.requires.3) (wide (goal.at.overflow_mul-above-2 c).Else-down-eq0)
          (high (goal.at.overflow_mul-above-2 c).Else-down-eq0) refl (across (goal.at.overflow_mul-above-2 c).Else-down-eq0) (down (goal.at.overflow_mul-above-2 c).Else-down-eq0) c.if-across-eq0.false c.if-down-eq0.false,
    )

pub overflow_mul-before : goal.overflow_mul-before
overflow_mul-before c =
    let e = ap₂ (λ (a b : ℕ). a * b) (wide (goal.at.overflow_mul-before c).Else-down-eq0) c.bytes_per_sample.ensures in
    omega (arith, e, tile-row-le c.args.tile c.requires.2 c.args.part)

pub overflow_mul-before-2 : goal.overflow_mul-before-2
overflow_mul-before-2 c =
    omega (
      arith,
      worked-before c.args.to.form c.args.tile c.requires.1 c.args.part c.requires.3 c.requires.4
          c.args.column c.args.row c.plane-plane.result.start c.plane-plane.result.stride c.columns-wide.result
          c.rows-high.result c.bytes_per_sample.result c.visible-across.result c.visible-down.result (ap (λ (q : Plane). q.start) (to (goal.at.overflow_mul-before-2 c).After-plane-plane))
          (ap (λ (q : Plane). q.stride) (to (goal.at.overflow_mul-before-2 c).After-plane-plane) ∙ part-stride _ _ c.requires.3)
          (wide (goal.at.overflow_mul-before-2 c).Else-down-eq0) (high (goal.at.overflow_mul-before-2 c).Else-down-eq0) c.bytes_per_sample.ensures (across (goal.at.overflow_mul-before-2 c).Else-down-eq0) (down (goal.at.overflow_mul-before-2 c).Else-down-eq0) c.if-across-eq0.false c.if-down-eq0.false,
    )

pub overflow_add-result : goal.overflow_add-result
overflow_add-result c =
    omega (
      arith,
      worked-above c.args.to.form c.args.tile c.requires.1 c.args.part c.requires.3 c.requires.4 c.args.column
          c.args.row c.plane-plane.result.start c.plane-plane.result.stride c.columns-wide.result c.rows-high.result
          c.bytes_per_sample.result c.visible-across.result c.visible-down.result (ap (λ (q : Plane). q.start) (to (goal.at.overflow_add-result c).After-plane-plane))
          (ap (λ (q : Plane). q.stride) (to (goal.at.overflow_add-result c).After-plane-plane) ∙ part-stride _ _ c.requires.3)
          (wide (goal.at.overflow_add-result c).Else-down-eq0) (high (goal.at.overflow_add-result c).Else-down-eq0) c.bytes_per_sample.ensures (across (goal.at.overflow_add-result c).Else-down-eq0) (down (goal.at.overflow_add-result c).Else-down-eq0) c.if-across-eq0.false c.if-down-eq0.false,
      worked-before c.args.to.form c.args.tile c.requires.1 c.args.part c.requires.3 c.requires.4
          c.args.column c.args.row c.plane-plane.result.start c.plane-plane.result.stride c.columns-wide.result
          c.rows-high.result c.bytes_per_sample.result c.visible-across.result c.visible-down.result (ap (λ (q : Plane). q.start) (to (goal.at.overflow_add-result c).After-plane-plane))
          (ap (λ (q : Plane). q.stride) (to (goal.at.overflow_add-result c).After-plane-plane) ∙ part-stride _ _ c.requires.3)
          (wide (goal.at.overflow_add-result c).Else-down-eq0) (high (goal.at.overflow_add-result c).Else-down-eq0) c.bytes_per_sample.ensures (across (goal.at.overflow_add-result c).Else-down-eq0) (down (goal.at.overflow_add-result c).Else-down-eq0) c.if-across-eq0.false c.if-down-eq0.false,
    )

pub overflow_add-result-2 : goal.overflow_add-result-2
overflow_add-result-2 c =
    omega (
      arith,
      worked-at c.args.to.form c.args.tile c.requires.1 c.args.part c.requires.3 c.requires.4 c.args.column
          c.args.row c.plane-plane.result.start c.plane-plane.result.stride c.columns-wide.result c.rows-high.result c.bytes_per_sample.result
          c.visible-across.result c.visible-down.result (ap (λ (q : Plane). q.start) (to (goal.at.overflow_add-result-2 c).After-plane-plane))
          (ap (λ (q : Plane). q.stride) (to (goal.at.overflow_add-result-2 c).After-plane-plane) ∙ part-stride _ _ c.requires.3)
          (wide (goal.at.overflow_add-result-2 c).Else-down-eq0) (high (goal.at.overflow_add-result-2 c).Else-down-eq0) c.bytes_per_sample.ensures (across (goal.at.overflow_add-result-2 c).Else-down-eq0) (down (goal.at.overflow_add-result-2 c).Else-down-eq0) c.if-across-eq0.false c.if-down-eq0.false,
      c.requires.5,
    )

pub returns : goal.returns
returns c =
    worked-cell c.args.to.form c.args.tile c.requires.1 c.args.part c.requires.3 c.requires.4 c.args.column
    c.args.row c.plane-plane.result.start c.plane-plane.result.stride c.columns-wide.result c.rows-high.result c.bytes_per_sample.result
    c.visible-across.result c.visible-down.result (ap (λ (q : Plane). q.start) (to (goal.at.returns c).After-plane-plane))
    (ap (λ (q : Plane). q.stride) (to (goal.at.returns c).After-plane-plane) ∙ part-stride _ _ c.requires.3)
    (wide (goal.at.returns c).Else-down-eq0) (high (goal.at.returns c).Else-down-eq0) c.bytes_per_sample.ensures (across (goal.at.returns c).Else-down-eq0) (down (goal.at.returns c).Else-down-eq0) c.if-across-eq0.false c.if-down-eq0.false
