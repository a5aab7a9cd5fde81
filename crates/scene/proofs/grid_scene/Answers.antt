use Rattle.std.proofs.lemmas.Result.{err_from_is_err_and}
use Rattle.std.specs.Prelude.{Ok}
use mathlib.Core.Path.{◌∙◌, ◌≡◌, sym}
use native.Mathlib.Omega.{arith}
use lib.ListN.{length}
use Rattle.laws.proofs.Out.{then-done}
use Rattle.laws.specs.Puts.{Bytes}
use Rattle.grid.specs.Run.{grid_on}
use Rattle.scene_room.proofs.SceneLaws.{GridKnown, first-output, first-spare, grid-chain, grid-form, grid-malformed, grid-read, grid-size, grid-tiles, held-refused, ready-output, ready-spare, scene-output, scene-refused, scene-spare}
use Rattle.plans.specs.inner.ChainPlan.{current_of}
use Rattle.scene.proofs.grid_scene.Goals as goal
use Rattle.scene.proofs.grid_scene.Goals.{After-canvas_form-form, In_ok-held, In_ok-t, then-held, else-held}

ready : (c : In_ok-t)
    → GridKnown c.args.body.now c.args.tray.now c.args.chain.now c.args.essential_only c.in_ok-c.c
    c.in_ok-t.t
unfolding Bytes
ready c =
    grid-read _ _ _ _ _ _ (sym c.read_number.ensures ∙ c.in_ok-read_number.was) _ (sym c.check_chain.ensures ∙ c.in_ok-c.was)
    (λ i. omega (arith, c.type_inv.body i)) (λ i. omega (arith, c.type_inv.tray i)) _
    (sym c.read_tiles.ensures ∙ c.in_ok-t.was)

formed : (c : After-canvas_form-form)
    → c.canvas_form-form.result ≡ (grid_on c.args.tray.now c.in_ok-t.t).form
formed c = grid-form _ _ _ c.canvas_form-form.ensures

led : (c : In_ok-held)
    → current_of (ready (goal.at.In_ok-held c).In_ok-t).judged.entries c.args.essential_only c.canvas_form-form.result
    (length c.args.output.now) (length c.args.spare.now)
    ≡ Ok c.in_ok-held.held
led c = sym (then-done _ (ready (goal.at.In_ok-held c).In_ok-t).judged.read) ∙ sym c.plan_scene.ensures ∙ c.in_ok-held.was

pub returns-in_err-read_number : goal.returns-in_err-read_number
returns-in_err-read_number c =
    let p = err_from_is_err_and c.from_residual.result c.from_residual.ensures.1 in
    rw (p.1, p.2) (scene-refused _ _ _ _ (grid-malformed _ _ _ _ _ (sym c.read_number.ensures ∙ c.in_err-read_number.was) _ _))

pub plan_scene-requires : goal.plan_scene-requires
plan_scene-requires c = ((ready (goal.at.plan_scene-requires c).In_ok-t).judged, rw c.canvas_form-form.ensures (ready (goal.at.plan_scene-requires c).In_ok-t).taken.canvas)

pub draw_grid-requires : goal.draw_grid-requires
draw_grid-requires c = (
  (ready (goal.at.draw_grid-requires c).In_ok-t).taken,
  rw (grid-size c.args.tray.now _)
      (first-output _ _ (ready (goal.at.draw_grid-requires c).In_ok-t).judged _ _ (ready (goal.at.draw_grid-requires c).In_ok-t).in_range _ (formed (goal.at.draw_grid-requires c).After-canvas_form-form) c.args.output.now
      c.args.spare.now _ (led (goal.at.draw_grid-requires c).In_ok-held)),
)

pub finish_scene-requires : goal.finish_scene-requires
finish_scene-requires c =
    let k = ready (goal.at.finish_scene-requires c).In_ok-t in
    let f = formed (goal.at.finish_scene-requires c).After-canvas_form-form in
    let l = led (goal.at.finish_scene-requires c).In_ok-held in
    elim c.if-held.branch [
      | then-held w ↦ rw (w.output-is, w.spare-is) (ready-output _ _ k.judged _ _ k.in_range _ f _ _ _ l _ w.if-held.true w.draw_grid.ensures)
      | else-held w ↦ rw (w.output-is, w.spare-is) (ready-spare _ _ k.judged _ _ k.in_range _ f _ _ _ l _ w.if-held.false w.draw_grid-else-held.ensures)
    ]

pub draw_grid-requires-else-held : goal.draw_grid-requires-else-held
draw_grid-requires-else-held c = (
  (ready (goal.at.draw_grid-requires-else-held c).In_ok-t).taken,
  rw (grid-size c.args.tray.now _)
      (first-spare _ _ (ready (goal.at.draw_grid-requires-else-held c).In_ok-t).judged _ _ (ready (goal.at.draw_grid-requires-else-held c).In_ok-t).in_range _ (formed (goal.at.draw_grid-requires-else-held c).After-canvas_form-form) c.args.output.now
      c.args.spare.now _ (led (goal.at.draw_grid-requires-else-held c).In_ok-held)),
)

pub returns-in_err-c : goal.returns-in_err-c
returns-in_err-c c =
    let p = err_from_is_err_and c.from_residual-in_err-c.result c.from_residual-in_err-c.ensures.1 in
    rw (p.1, p.2) (scene-refused _ _ _ _ (grid-chain _ _ _ _ _ _ (sym c.read_number.ensures ∙ c.in_ok-read_number.was) _ (sym c.check_chain.ensures ∙ c.in_err-c.was) _ _))

pub returns-in_err-t : goal.returns-in_err-t
returns-in_err-t c =
    let p = err_from_is_err_and c.from_residual-in_err-t.result c.from_residual-in_err-t.ensures.1 in
    rw (p.1, p.2) (scene-refused _ _ _ _
    (grid-tiles _ _ _ _ _ _ (sym c.read_number.ensures ∙ c.in_ok-read_number.was) _ (sym c.check_chain.ensures ∙ c.in_ok-c.was) _
    (sym c.read_tiles.ensures ∙ c.in_err-t.was) _ _))

pub returns-in_err-held : goal.returns-in_err-held
returns-in_err-held c =
    let p = err_from_is_err_and c.from_residual-in_err-held.result c.from_residual-in_err-held.ensures.1 in
    rw (p.1, p.2) (scene-refused _ _ _ _
    ((ready (goal.at.returns-in_err-held c).In_ok-t).is _ _
    ∙ held-refused _ _ _ (ready (goal.at.returns-in_err-held c).In_ok-t).in_range _ (formed (goal.at.returns-in_err-held c).After-canvas_form-form) _ _ _
    (sym (then-done _ (ready (goal.at.returns-in_err-held c).In_ok-t).judged.read) ∙ sym c.plan_scene.ensures ∙ c.in_err-held.was)))

pub returns : goal.returns
returns c =
    let k = ready (goal.at.returns c).In_ok-t in
    let f = formed (goal.at.returns c).After-canvas_form-form in
    let l = led (goal.at.returns c).In_ok-held in
    elim c.if-held.branch [
      | then-held w ↦ scene-output _ _ k.judged _ _ k.in_range _ f _ _ _ l _ _ (k.is _ _) _ _ _ w.if-held.true w.draw_grid.ensures (rw (w.output-is, w.spare-is) at c.finish_scene.ensures)
      | else-held w ↦ scene-spare _ _ k.judged _ _ k.in_range _ f _ _ _ l _ _ (k.is _ _) _ _ _ w.if-held.false w.draw_grid-else-held.ensures (rw (w.output-is, w.spare-is) at c.finish_scene.ensures)
    ]
