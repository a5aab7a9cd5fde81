use Rattle.std.specs.Prelude.{Ok}
use Rattle.std.proofs.lemmas.Result.{err_from_is_err_and}
use mathlib.Core.Path.{◌∙◌, ◌≡◌, ap, sym}
use native.Mathlib.Omega.{arith}
use Rattle.laws.proofs.Out.{done-answers, refused-answers, then-refused}
use Rattle.laws.specs.Puts.{Bytes}
use Rattle.planes.specs.Bytes.{size_of}
use Rattle.grid.proofs.Composed.{grid-fits, grid-short, length-grid_on}
use Rattle.grid.proofs.GridLaws.{tiles-taken}
use Rattle.grid.specs.inner.Ready.{TilesTaken}
use Rattle.grid.specs.Run.{grid_run}
use Rattle.tiles.specs.Tiles.{tiles_of}
use Rattle.grid.proofs.compose.composite_grid.Goals as goal
use Rattle.grid.proofs.compose.composite_grid.Goals.{In_ok-t}

taken : (c : In_ok-t) → tiles_of c.args.body.now c.args.tray.now ≡ Ok c.in_ok-t.t
taken c = sym c.read_tiles.ensures ∙ c.in_ok-t.was

ready : (c : In_ok-t) → TilesTaken c.args.tray.now c.in_ok-t.t
unfolding Bytes
ready c = tiles-taken c.args.body.now c.args.tray.now c.in_ok-t.t (λ i. omega (arith, c.type_inv.body i)) (taken c)

pub record_size-size-requires : goal.record_size-size-requires
record_size-size-requires c = rw c.canvas_form.ensures (ready (goal.at.record_size-size-requires c).In_ok-t).canvas

pub returns-then-out-size : goal.returns-then-out-size
returns-then-out-size c = refused-answers _ _ _ (grid-short _ _ _ _ (taken (goal.at.returns-then-out-size c).In_ok-t) (rw (c.record_size-size.ensures, c.canvas_form.ensures) at c.if-out-size.true))

pub draw_grid-requires : goal.draw_grid-requires
draw_grid-requires c = (ready (goal.at.draw_grid-requires c).In_ok-t, rw (c.record_size-size.ensures, c.canvas_form.ensures) at c.if-out-size.false)

pub returns-in_err-t : goal.returns-in_err-t
unfolding grid_run
returns-in_err-t c =
    let p = err_from_is_err_and c.from_residual.result c.from_residual.ensures.1 in
    rw (p.1, p.2) (refused-answers _ _ _ (then-refused _ (sym c.read_tiles.ensures ∙ c.in_err-t.was)))

pub returns : goal.returns
returns c =
    done-answers _ _ _ _ _ (grid-fits _ _ _ _ (taken (goal.at.returns c).In_ok-t) (rw (c.record_size-size.ensures, c.canvas_form.ensures) at c.if-out-size.false))
    (rw (length-grid_on c.args.tray.now c.in_ok-t.t) (rw (c.record_size-size.ensures, c.canvas_form.ensures) at c.if-out-size.false))
    (c.record_size-size.ensures ∙ ap size_of c.canvas_form.ensures ∙ sym (length-grid_on c.args.tray.now c.in_ok-t.t))
    c.draw_grid.ensures
