use Rattle.std.proofs.lemmas.Result.{err_from_is_err_and}
use Rattle.std.specs.Prelude.{Ok}
use mathlib.Core.Path.{◌∙◌, ◌≡◌, sym}
use native.Mathlib.Omega.{arith}
use lib.ListN.{length}
use Rattle.laws.proofs.Out.{then-done}
use Rattle.laws.specs.Puts.{Bytes}
use Rattle.overlay.proofs.RunLaws.{alpha-refused, alpha-within, plan_pic}
use Rattle.scene_room.proofs.SceneLaws.{OverlayKnown, first-output, first-spare, held-refused, overlay-chain, overlay-inputs, overlay-malformed, overlay_read, plan-form, ready-output, ready-spare, scene-output, scene-refused, scene-spare}
use Rattle.plans.specs.inner.ChainPlan.{current_of}
use Rattle.scene.proofs.overlay_scene.Goals as goal
use Rattle.scene.proofs.overlay_scene.Goals.{In_ok-held, In_ok-plan, then-held, else-held}

ready : (c : In_ok-plan)
    → OverlayKnown c.args.body.now c.args.tray.now c.args.chain.now c.args.essential_only
    c.args.premultiplied.now c.args.colour c.in_ok-count.count c.in_ok-count.first c.in_ok-c.c c.in_ok-plan.plan
unfolding Bytes
ready c =
    overlay_read _ _ _ _ _ _ _ _ (sym c.read_number.ensures ∙ c.in_ok-count.was) _ (sym c.check_chain.ensures ∙ c.in_ok-c.was)
    (λ i. omega (arith, c.type_inv.body i)) _ (sym c.read_inputs.ensures ∙ c.in_ok-plan.was)

formed : (c : In_ok-plan)
    → c.in_ok-plan.plan.form
    ≡ (plan_pic c.args.body.now c.args.tray.now c.args.premultiplied.now c.args.colour
    c.in_ok-plan.plan).form
formed c =
    plan-form c.args.body.now c.args.tray.now c.args.premultiplied.now c.args.colour c.in_ok-plan.plan

led : (c : In_ok-held)
    → current_of (ready (goal.at.In_ok-held c).In_ok-plan).judged.entries c.args.essential_only c.in_ok-plan.plan.form (length c.args.output.now)
    (length c.args.spare.now)
    ≡ Ok c.in_ok-held.held
led c =
    sym (then-done _ (ready (goal.at.In_ok-held c).In_ok-plan).judged.read) ∙ sym c.plan_scene.ensures ∙ c.in_ok-held.was

pub returns-in_err-count : goal.returns-in_err-count
returns-in_err-count c =
    let p = err_from_is_err_and c.from_residual.result c.from_residual.ensures.1 in
    rw (p.1, p.2) (scene-refused _ _ _ _ (overlay-malformed _ _ _ _ _ _ _ (sym c.read_number.ensures ∙ c.in_err-count.was) _ _))

pub top-requires : goal.top-requires
top-requires c =
    (ready (goal.at.top-requires c).In_ok-plan).sound.form.high

pub returns-in_err-check_alpha : goal.returns-in_err-check_alpha
returns-in_err-check_alpha c =
    let p = err_from_is_err_and c.from_residual-in_err-check_alpha.result c.from_residual-in_err-check_alpha.ensures.1 in
    rw (p.1, p.2) (scene-refused _ _ _ _ ((ready (goal.at.returns-in_err-check_alpha c).In_ok-plan).is _ _ ∙ alpha-refused _ _ _ _ _ _ c.top.ensures c.check_alpha.ensures _ _ c.in_err-check_alpha.was))

pub plan_scene-requires : goal.plan_scene-requires
plan_scene-requires c =
    ((ready (goal.at.plan_scene-requires c).In_ok-plan).judged, (ready (goal.at.plan_scene-requires c).In_ok-plan).sound.form)

pub draw_overlay-requires : goal.draw_overlay-requires
draw_overlay-requires c = (
  (ready (goal.at.draw_overlay-requires c).In_ok-plan).sound,
  first-output _ _ (ready (goal.at.draw_overlay-requires c).In_ok-plan).judged _ _ (ready (goal.at.draw_overlay-requires c).In_ok-plan).in_range _ (formed (goal.at.draw_overlay-requires c).In_ok-plan) c.args.output.now
      c.args.spare.now _ (led (goal.at.draw_overlay-requires c).In_ok-held),
)

pub finish_scene-requires : goal.finish_scene-requires
finish_scene-requires c =
    let k = ready (goal.at.finish_scene-requires c).In_ok-plan in
    let f = formed (goal.at.finish_scene-requires c).In_ok-plan in
    let l = led (goal.at.finish_scene-requires c).In_ok-held in
    elim c.if-held.branch [
      | then-held w ↦ rw (w.output-is, w.spare-is) (ready-output _ _ k.judged _ _ k.in_range _ f _ _ _ l _ w.if-held.true w.draw_overlay.ensures.1)
      | else-held w ↦ rw (w.output-is, w.spare-is) (ready-spare _ _ k.judged _ _ k.in_range _ f _ _ _ l _ w.if-held.false w.draw_overlay-else-held.ensures.1)
    ]

pub draw_overlay-requires-else-held : goal.draw_overlay-requires-else-held
draw_overlay-requires-else-held c = (
  (ready (goal.at.draw_overlay-requires-else-held c).In_ok-plan).sound,
  first-spare _ _ (ready (goal.at.draw_overlay-requires-else-held c).In_ok-plan).judged _ _ (ready (goal.at.draw_overlay-requires-else-held c).In_ok-plan).in_range _ (formed (goal.at.draw_overlay-requires-else-held c).In_ok-plan) c.args.output.now
      c.args.spare.now _ (led (goal.at.draw_overlay-requires-else-held c).In_ok-held),
)

pub returns-in_err-c : goal.returns-in_err-c
returns-in_err-c c =
    let p = err_from_is_err_and c.from_residual-in_err-c.result c.from_residual-in_err-c.ensures.1 in
    rw (p.1, p.2) (scene-refused _ _ _ _ (overlay-chain _ _ _ _ _ _ _ _ (sym c.read_number.ensures ∙ c.in_ok-count.was) _ (sym c.check_chain.ensures ∙ c.in_err-c.was) _ _))

pub returns-in_err-plan : goal.returns-in_err-plan
returns-in_err-plan c =
    let p = err_from_is_err_and c.from_residual-in_err-plan.result c.from_residual-in_err-plan.ensures.1 in
    rw (p.1, p.2) (scene-refused _ _ _ _
    (overlay-inputs _ _ _ _ _ _ _ _ (sym c.read_number.ensures ∙ c.in_ok-count.was) _ (sym c.check_chain.ensures ∙ c.in_ok-c.was) _
    (sym c.read_inputs.ensures ∙ c.in_err-plan.was) _ _))

pub returns-in_err-held : goal.returns-in_err-held
returns-in_err-held c =
    let p = err_from_is_err_and c.from_residual-in_err-held.result c.from_residual-in_err-held.ensures.1 in
    rw (p.1, p.2) (scene-refused _ _ _ _
    ((ready (goal.at.returns-in_err-held c).In_ok-plan).is _ _
    ∙ alpha-within _ _ _ _ _ _ c.top.ensures c.check_alpha.ensures _ c.in_ok-check_alpha.was
    ∙ held-refused _ _ _ (ready (goal.at.returns-in_err-held c).In_ok-plan).in_range _ (formed (goal.at.returns-in_err-held c).In_ok-plan) _ _ _
    (sym (then-done _ (ready (goal.at.returns-in_err-held c).In_ok-plan).judged.read)
    ∙ sym c.plan_scene.ensures
    ∙ c.in_err-held.was)))

pub returns : goal.returns
returns c =
    let k = ready (goal.at.returns c).In_ok-plan in
    let f = formed (goal.at.returns c).In_ok-plan in
    let l = led (goal.at.returns c).In_ok-held in
    elim c.if-held.branch [
      | then-held w ↦ scene-output _ _ k.judged _ _ k.in_range _ f _ _ _ l _ _ (k.is _ _ ∙ alpha-within _ _ _ _ _ _ c.top.ensures c.check_alpha.ensures _ c.in_ok-check_alpha.was) _ _ _ w.if-held.true w.draw_overlay.ensures.1 (rw (w.output-is, w.spare-is) at c.finish_scene.ensures)
      | else-held w ↦ scene-spare _ _ k.judged _ _ k.in_range _ f _ _ _ l _ _ (k.is _ _ ∙ alpha-within _ _ _ _ _ _ c.top.ensures c.check_alpha.ensures _ c.in_ok-check_alpha.was) _ _ _ w.if-held.false w.draw_overlay-else-held.ensures.1 (rw (w.output-is, w.spare-is) at c.finish_scene.ensures)
    ]
