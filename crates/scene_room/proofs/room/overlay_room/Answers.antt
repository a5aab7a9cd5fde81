use Rattle.std.proofs.lemmas.Result.{err_from_is_err_and}
use Rattle.std.specs.Prelude.{Option, None}
use mathlib.Core.Path.{◌∙◌, ap, sym}
use native.Mathlib.Omega.{arith}
use Rattle.laws.proofs.Out.{then-done}
use Rattle.laws.specs.Puts.{Bytes}
use Rattle.fill.specs.declared.Nclx.{Nclx}
use Rattle.overlay.proofs.RunLaws.{alpha-refused, alpha-within}
use Rattle.scene_room.proofs.SceneLaws.{OverlayKnown, overlay-drawn-chain, overlay-drawn-inputs, overlay-drawn-malformed, overlay_read, plan-form, room-on, room-refused-as}
use Rattle.scene_room.specs.Room.{longest_of}
use Rattle.scene_room.proofs.room.overlay_room.Goals as goal
use Rattle.scene_room.proofs.room.overlay_room.Goals.{In_ok-plan}

ready : (c : In_ok-plan) (colour : Option Nclx)
    → OverlayKnown c.args.body.now c.args.tray.now c.args.chain.now c.args.essential_only
    c.args.premultiplied.now colour c.in_ok-count.count c.in_ok-count.first c.in_ok-c.c c.in_ok-plan.plan
unfolding Bytes
ready c colour =
    overlay_read _ _ _ _ _ _ _ _ (sym c.read_number.ensures ∙ c.in_ok-count.was) _ (sym c.check_chain.ensures ∙ c.in_ok-c.was)
    (λ i. omega (arith, c.type_inv.body i)) _ (sym c.read_inputs.ensures ∙ c.in_ok-plan.was)

pub returns-in_err-count : goal.returns-in_err-count
returns-in_err-count c =
    let p = err_from_is_err_and c.from_residual.result c.from_residual.ensures.1 in
    λ colour. rw (p.1, p.2) (room-refused-as _ _ (overlay-drawn-malformed _ _ _ _ _ colour _ (sym c.read_number.ensures ∙ c.in_err-count.was)))

pub top-requires : goal.top-requires
top-requires c =
    omega (arith, (ready (goal.at.top-requires c).In_ok-plan None).sound.form.high)

pub returns-in_err-check_alpha : goal.returns-in_err-check_alpha
returns-in_err-check_alpha c =
    let p = err_from_is_err_and c.from_residual-in_err-check_alpha.result c.from_residual-in_err-check_alpha.ensures.1 in
    λ colour. rw (p.1, p.2) (room-refused-as _ _ ((ready (goal.at.returns-in_err-check_alpha c).In_ok-plan colour).drawn ∙ alpha-refused _ _ _ _ _ _ c.top.ensures c.check_alpha.ensures _ _ c.in_err-check_alpha.was))

pub chain_room-requires : goal.chain_room-requires
chain_room-requires c =
    ((ready (goal.at.chain_room-requires c).In_ok-plan None).judged, (ready (goal.at.chain_room-requires c).In_ok-plan None).sound.form)

pub returns-in_err-c : goal.returns-in_err-c
returns-in_err-c c =
    let p = err_from_is_err_and c.from_residual-in_err-c.result c.from_residual-in_err-c.ensures.1 in
    λ colour. rw (p.1, p.2) (room-refused-as _ _
    (overlay-drawn-chain _ _ _ _ _ colour _ _ (sym c.read_number.ensures ∙ c.in_ok-count.was) _
    (sym c.check_chain.ensures ∙ c.in_err-c.was)))

pub returns-in_err-plan : goal.returns-in_err-plan
returns-in_err-plan c =
    let p = err_from_is_err_and c.from_residual-in_err-plan.result c.from_residual-in_err-plan.ensures.1 in
    λ colour. rw (p.1, p.2) (room-refused-as _ _
    (overlay-drawn-inputs _ _ _ _ _ colour _ _ (sym c.read_number.ensures ∙ c.in_ok-count.was) _
    (sym c.check_chain.ensures ∙ c.in_ok-c.was) _
    (sym c.read_inputs.ensures ∙ c.in_err-plan.was)))

pub returns : goal.returns
returns c =
    λ colour. c.chain_room.ensures
    ∙ then-done _ (ready (goal.at.returns c).In_ok-plan colour).judged.read
    ∙ room-on _ _ _ (ready (goal.at.returns c).In_ok-plan colour).in_range _
    (plan-form c.args.body.now c.args.tray.now c.args.premultiplied.now colour c.in_ok-plan.plan)
    ∙ ap longest_of
    (sym ((ready (goal.at.returns c).In_ok-plan colour).drawn
    ∙ alpha-within _ _ _ _ _ _ c.top.ensures c.check_alpha.ensures _ c.in_ok-check_alpha.was))
