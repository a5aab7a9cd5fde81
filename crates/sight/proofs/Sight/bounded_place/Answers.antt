use native.Mathlib.Omega.{arith}
use Rattle.sight.proofs.Steps.{column-in, place-across, place_down, place_found, unturned-below}
use Rattle.sight.proofs.Sight.bounded_place.Goals as goal
use Rattle.sight.proofs.Sight.bounded_place.Goals.{then-width-column-via-then-width-column, then-width-column-via-else-width-column+then-height-row}

pub returns-then-width-column : goal.returns-then-width-column
returns-then-width-column c = elim c.then-width-column.branch [
  | then-width-column-via-then-width-column w ↦ place-across c.args.self _ _ _ c.width.ensures w.if-width-column.true
  | then-width-column-via-else-width-column+then-height-row w ↦ place_down c.args.self _ _ _ _ c.width.ensures w.if-width-column.false w.height.ensures w.if-height-row.true
]

pub unexchanged_column-x-requires : goal.unexchanged_column-x-requires
unexchanged_column-x-requires c =
    (unturned-below c.args.self c.args.column c.args.row _ c.unturned_place-l.ensures
    (omega (arith, c.width.ensures, c.if-width-column.false)) (omega (arith, c.height.ensures, c.if-height-row.false))).0

pub overflow_add-result : goal.overflow_add-result
overflow_add-result c =
    omega (
      arith,
      c.requires.across,
      column-in c.args.self.exchanged c.args.self.area.width c.unturned_place-l.result.x
          c.unexchanged_column-x.result
          (unturned-below c.args.self c.args.column c.args.row _ c.unturned_place-l.ensures
          (omega (arith, c.width.ensures, c.if-width-column.false)) (omega (arith, c.height.ensures, c.if-height-row.false))).0
          c.unexchanged_column-x.ensures,
    )

pub overflow_add-result-2 : goal.overflow_add-result-2
overflow_add-result-2 c =
    omega (
      arith,
      c.requires.down,
      (unturned-below c.args.self c.args.column c.args.row _ c.unturned_place-l.ensures
          (omega (arith, c.width.ensures, c.if-width-column.false)) (omega (arith, c.height.ensures, c.if-height-row.false))).1,
    )

pub returns : goal.returns
returns c =
    place_found c.args.self c.args.column c.args.row c.unexchanged_column-x.result c.unturned_place-l.result
    (omega (arith, c.width.ensures, c.if-width-column.false)) (omega (arith, c.height.ensures, c.if-height-row.false)) c.unturned_place-l.ensures
    c.unexchanged_column-x.ensures
