use mathlib.Core.Bool.{true}
use mathlib.Core.Path.{◌∙◌, ◌≡◌, ap, sym}
use native.Mathlib.Omega.{arith}
use Rattle.image.proofs.FormLaws.{bytes-few}
use Rattle.image.specs.Format.{has_part}
use Rattle.image.specs.declared.format.Form.{Form}
use Rattle.cells.proofs.Suited.{tile-sound}
use Rattle.cells.specs.Cell.{cell_of, tile_form}
use Rattle.session.proofs.BlankLaws.{blank-bytes, blank-colour, blank-has, blank-lacks, blank-stored, blank-tile, blank-writes}
use Rattle.session.proofs.draw.blank_part.Goals as goal
use Rattle.session.proofs.draw.blank_part.Goals.{After-cell_of-cell, Then-has}

there : (c : Then-has) → has_part c.args.tile.format c.args.part ≡ true
there c = sym c.has.ensures ∙ c.if-has.true

cell : (c : After-cell_of-cell)
    → c.cell_of-cell.result
    ≡ cell_of c.args.to.form (tile_form c.args.promoted c.args.tile) c.args.column c.args.row c.args.part
cell c =
    c.cell_of-cell.ensures
    ∙ ap (λ (t : Form). cell_of c.args.to.form t c.args.column c.args.row c.args.part) c.tile_form.ensures

pub cell_of-cell-requires : goal.cell_of-cell-requires
cell_of-cell-requires c = (
  c.requires.0,
  c.requires.1.canvas,
  rw c.tile_form.ensures (tile-sound c.args.promoted c.args.tile (blank-tile _ _ _ _ c.requires.1 c.args.part)),
  blank-has _ _ _ _ c.requires.1 c.args.part (there (goal.at.cell_of-cell-requires c).Then-has),
  rw c.tile_form.ensures (blank-bytes _ _ _ _ c.requires.1 c.args.part),
  omega (arith, c.requires.1.room),
)

pub blank_sample-requires : goal.blank_sample-requires
blank_sample-requires c = let k = blank-tile _ _ _ _ c.requires.1 c.args.part in (omega (arith, k.low), k.high)

pub store_even-requires : goal.store_even-requires
store_even-requires c =
    let k = bytes-few c.args.tile.format in (
      rw c.bytes_per_sample.ensures k.0,
      rw c.bytes_per_sample.ensures k.1,
      λ y l. rw c.bytes_per_sample.ensures (blank-writes _ _ _ _ c.requires.1 c.args.part (there (goal.at.store_even-requires c).Then-has) _ _ _ (cell (goal.at.store_even-requires c).After-cell_of-cell) y l),
    )

pub returns-then-has : goal.returns-then-has
returns-then-has c =
    c.store_even.ensures
    ∙ rw c.bytes_per_sample.ensures
    (blank-stored _ _ _ _ _ _ _ _ _ (blank-colour _ _ _ _ c.requires.1 c.args.part) (there (goal.at.returns-then-has c).Then-has) (cell (goal.at.returns-then-has c).After-cell_of-cell)
    c.blank_sample.ensures)

pub returns-else-has : goal.returns-else-has
returns-else-has c = blank-lacks _ _ _ _ _ _ _ (blank-colour _ _ _ _ c.requires.1 c.args.part) (sym c.has.ensures ∙ c.if-has.false)
