use Rattle.std.specs.Prelude.{Ok, Err}
use mathlib.Core.Bool.{◌&&◌, false, not}
use mathlib.Core.Path.{◌∙◌, ◌≡◌, ap, sym}
use Prim.Native.Nat.{◌≤◌}
use native.Mathlib.Omega.{arith}
use lib.ListN.{length}
use borrow.Author.Rules.{rules}
use Rattle.laws.proofs.Out.{done-answers, refuse-done, refuse-no, refused-answers, then-done, then-refused}
use Rattle.bodies.proofs.FormLaws.{field-length}
use Rattle.bodies.proofs.RunLaws.{grid-done, grid-judged, grid-refused, grid-short, refused-then}
use Rattle.bodies.specs.Form.{flags_of, narrow_canvas}
use Rattle.bodies.specs.Grid.{grid_body_in, grid_body_run, grid_judged, is_tile_count}
use Rattle.bodies.proofs.grid.write_grid.Goals as goal
use Rattle.bodies.proofs.grid.write_grid.Goals.{After-flags_of-flags, Else-out-field_bytes, In_ok-judge, In_ok-judge_tiles}

tiles : (c : In_ok-judge_tiles) → not (is_tile_count c.args.grid.rows && is_tile_count c.args.grid.columns) ≡ false
tiles c = (refuse-done _ 19 _ tt (sym c.judge_tiles.ensures ∙ c.in_ok-judge_tiles.was)).0

taken : (c : In_ok-judge) → grid_judged c.args.grid ≡ Ok tt
unfolding grid_judged
taken c = refuse-no 19 _ (tiles (goal.at.In_ok-judge c).In_ok-judge_tiles) ∙ then-done _ (sym c.judge.ensures ∙ c.in_ok-judge.was)

picked : (c : After-flags_of-flags) → c.flags_of-flags.result ≡ flags_of (narrow_canvas c.args.grid.output_width c.args.grid.output_height)
picked c = c.flags_of-flags.ensures ∙ ap flags_of c.narrow_canvas.ensures

fits : (c : Else-out-field_bytes) → (length (grid_body_in c.flags_of-flags.result c.args.grid) ≤ length c.args.out.now) × (grid_body_run c.args.grid (length c.args.out.now) ≡ Ok (grid_body_in c.flags_of-flags.result c.args.grid))
fits c =
    grid-done c.args.grid (length c.args.out.now) tt (taken (goal.at.Else-out-field_bytes c).In_ok-judge) _ (picked (goal.at.Else-out-field_bytes c).After-flags_of-flags) (rw c.field_bytes.ensures at c.if-out-field_bytes.false)

pub overflow_mul-field_bytes : goal.overflow_mul-field_bytes
overflow_mul-field_bytes c = omega (arith, c.field_bytes.ensures, field-length c.flags_of-flags.result)

pub overflow_add-field_bytes : goal.overflow_add-field_bytes
overflow_add-field_bytes c = omega (arith, c.field_bytes.ensures, field-length c.flags_of-flags.result)

pub returns-then-out-field_bytes : goal.returns-then-out-field_bytes
returns-then-out-field_bytes c =
    refused-answers _ _ _ (grid-short _ _ tt (taken (goal.at.returns-then-out-field_bytes c).In_ok-judge) _ (picked (goal.at.returns-then-out-field_bytes c).After-flags_of-flags) (rw c.field_bytes.ensures at c.if-out-field_bytes.true))

pub put_grid-requires : goal.put_grid-requires
put_grid-requires c =
    let t = grid-judged _ tt (taken (goal.at.put_grid-requires c).In_ok-judge) in (t.0, t.1, (fits (goal.at.put_grid-requires c).Else-out-field_bytes).0)

pub returns-in_err-judge_tiles : goal.returns-in_err-judge_tiles
unfolding grid_judged
returns-in_err-judge_tiles c =
    let e : c.from_residual.result ≡ Err c.in_err-judge_tiles.field-0.0 = search rules in
    rw e (refused-answers _ _ _ (grid-refused _ _ _ (sym (refused-then _ 19 tt _) ∙ then-refused _ (sym c.judge_tiles.ensures ∙ c.in_err-judge_tiles.was))))

pub returns-in_err-judge : goal.returns-in_err-judge
unfolding grid_judged
returns-in_err-judge c =
    let e : c.from_residual-in_err-judge.result ≡ Err c.in_err-judge.field-0.0 = search rules in
    rw e (refused-answers _ _ _ (grid-refused _ _ _ (refuse-no 19 _ (tiles (goal.at.returns-in_err-judge c).In_ok-judge_tiles) ∙ then-refused _ (sym c.judge.ensures ∙ c.in_err-judge.was))))

pub returns : goal.returns
returns c =
    let o = fits (goal.at.returns c).Else-out-field_bytes in done-answers _ _ _ _ _ o.1 o.0 c.put_grid.ensures.0 c.put_grid.ensures.1
