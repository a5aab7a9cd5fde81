use mathlib.Core.Bool.{◌&&◌, true}
use mathlib.Core.Path.{◌∙◌, ◌≡◌, ap, sym}
use native.Mathlib.Omega.{arith}
use Rattle.image.specs.Format.{half_x, half_y, has_part}
use Rattle.image.specs.declared.format.Form.{Form}
use Rattle.cells.proofs.Suited.{part-hidden, part-lacks, part-stored, suits-bytes, suits-canvas, suits-rows, tile-sound}
use Rattle.cells.specs.Cell.{cell_of, tile_form}
use Rattle.cells.proofs.cell.draw_part.Goals as goal
use Rattle.cells.proofs.cell.draw_part.Goals.{After-cell_of-cell, After-plane_data-data, Then-has, then-promoted, else-promoted, then-promoted-2, else-promoted-2}

there : (c : Then-has) → has_part c.args.fr.form.format c.args.part ≡ true
there c = sym c.has.ensures ∙ c.if-has.true

cell : (c : After-cell_of-cell)
    → c.cell_of-cell.result
    ≡ cell_of c.args.to.form (tile_form c.args.promoted c.args.fr.form) c.args.column c.args.row
    c.args.part
cell c =
    c.cell_of-cell.ensures
    ∙ ap (λ (t : Form). cell_of c.args.to.form t c.args.column c.args.row c.args.part) c.tile_form.ensures

across : (c : After-plane_data-data) → c.if-promoted.half_across ≡ (c.args.promoted && half_x c.args.fr.form.format c.args.part)
across c =
    elim c.if-promoted.branch [
      | then-promoted w ↦ rw (w.half_across-is, w.if-promoted.true) w.half_width-half_across.ensures
      | else-promoted w ↦ rw (w.half_across-is, w.if-promoted.false)
    ]

down : (c : After-plane_data-data) → c.if-promoted-2.half_down ≡ (c.args.promoted && half_y c.args.fr.form.format c.args.part)
down c =
    elim c.if-promoted-2.branch [
      | then-promoted-2 w ↦ rw (w.half_down-is, w.if-promoted-2.true) w.half_height-half_down.ensures
      | else-promoted-2 w ↦ rw (w.half_down-is, w.if-promoted-2.false)
    ]

pub cell_of-cell-requires : goal.cell_of-cell-requires
cell_of-cell-requires c =
    let t = tile-sound c.args.promoted c.args.fr.form c.requires.1.sound.form in (
      c.requires.0,
      c.requires.1.canvas,
      rw c.tile_form.ensures t,
      suits-canvas _ _ _ _ _ c.requires.1 c.args.part (there (goal.at.cell_of-cell-requires c).Then-has),
      rw c.tile_form.ensures (suits-bytes _ _ _ _ _ c.requires.1 c.args.part),
      omega (arith, c.requires.1.room),
    )

pub returns-then-down-eq0 : goal.returns-then-down-eq0
returns-then-down-eq0 c = part-hidden _ _ _ _ _ _ _ _ _ (cell (goal.at.returns-then-down-eq0 c).After-cell_of-cell) c.if-down-eq0.true

pub plane_data-data-requires : goal.plane_data-data-requires
plane_data-data-requires c =
    rw c.plane-from.ensures (c.requires.1.sound.planes c.args.part (there (goal.at.plane_data-data-requires c).Then-has)).inside

pub store_rows-requires : goal.store_rows-requires
store_rows-requires c =
    rw (
      c.plane_data-data.ensures,
      c.plane-from.ensures,
      c.bytes_per_sample.ensures,
      across (goal.at.store_rows-requires c).After-plane_data-data,
      down (goal.at.store_rows-requires c).After-plane_data-data,
    )
    (suits-rows _ _ _ _ _ c.requires.1 c.args.part (there (goal.at.store_rows-requires c).Then-has) c.args.column c.args.row _ (cell (goal.at.store_rows-requires c).After-cell_of-cell) c.if-down-eq0.false)

pub returns-after-promoted-2 : goal.returns-after-promoted-2
returns-after-promoted-2 c =
    c.store_rows.ensures
    ∙ rw (
      c.plane_data-data.ensures,
      c.plane-from.ensures,
      c.bytes_per_sample.ensures,
      across (goal.at.returns-after-promoted-2 c).After-plane_data-data,
      down (goal.at.returns-after-promoted-2 c).After-plane_data-data,
    ) (part-stored _ _ _ _ _ _ c.args.column c.args.row _ c.requires.1.colour (there (goal.at.returns-after-promoted-2 c).Then-has) (cell (goal.at.returns-after-promoted-2 c).After-cell_of-cell))

pub returns-else-has : goal.returns-else-has
returns-else-has c = part-lacks _ _ _ _ _ _ _ _ c.requires.1.colour (sym c.has.ensures ∙ c.if-has.false)
