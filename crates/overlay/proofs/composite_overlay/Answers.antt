use Rattle.std.specs.Prelude.{Err}
use mathlib.Core.Path.{◌∙◌, ◌≡◌, sym}
use borrow.Author.Rules.{rules}
use lib.ListN.{length}
use Rattle.laws.proofs.Out.{done-answers, fitted-room, fitted_short, refused-answers}
use Rattle.overlay.proofs.RunLaws.{Taken, alpha-refused, alpha-within, plan-taken, room-enough, room-short, run-malformed, run-refused}
use Rattle.overlay.proofs.composite_overlay.Goals as goal
use Rattle.overlay.proofs.composite_overlay.Goals.{In_ok-plan}

-- what was read, once the inputs are planned
taken : (c : In_ok-plan)
    → Taken c.args.body.now c.args.tray.now c.args.premultiplied.now c.args.colour (length c.args.out.now)
    c.in_ok-count.count c.in_ok-count.first c.in_ok-plan.plan
taken c =
    plan-taken _ _ _ _ _ _ _ (sym c.read_number.ensures ∙ c.in_ok-count.was) _
    (sym c.read_inputs.ensures ∙ c.in_ok-plan.was)

pub returns-in_err-count : goal.returns-in_err-count
returns-in_err-count c =
    let e : c.from_residual.result ≡ Err c.in_err-count.field-0.0 = search rules in
    rw e (refused-answers _ _ _ (run-malformed _ _ _ _ _ _ (sym c.read_number.ensures ∙ c.in_err-count.was)))

pub top-requires : goal.top-requires
top-requires c =
    (taken (goal.at.top-requires c).In_ok-plan).sound.form.high

pub returns-in_err-check_alpha : goal.returns-in_err-check_alpha
returns-in_err-check_alpha c =
    let e : c.from_residual-in_err-check_alpha.result ≡ Err c.in_err-check_alpha.field-0.0 = search rules in
    rw e (refused-answers _ _ _ ((taken (goal.at.returns-in_err-check_alpha c).In_ok-plan).left ∙ alpha-refused _ _ _ _ _ _ c.top.ensures c.check_alpha.ensures _ _ c.in_err-check_alpha.was))

pub record_size-requires : goal.record_size-requires
record_size-requires c =
    (taken (goal.at.record_size-requires c).In_ok-plan).sound.form

pub returns-then-out-record_size : goal.returns-then-out-record_size
returns-then-out-record_size c =
    refused-answers _ _ _
    ((taken (goal.at.returns-then-out-record_size c).In_ok-plan).left
    ∙ alpha-within _ _ _ _ _ _ c.top.ensures c.check_alpha.ensures _ c.in_ok-check_alpha.was
    ∙ fitted_short _ _ (room-short (taken (goal.at.returns-then-out-record_size c).In_ok-plan) _ c.record_size.ensures c.if-out-record_size.true))

pub draw_overlay-requires : goal.draw_overlay-requires
draw_overlay-requires c =
    ((taken (goal.at.draw_overlay-requires c).In_ok-plan).sound, room-enough (taken (goal.at.draw_overlay-requires c).In_ok-plan) _ c.record_size.ensures c.if-out-record_size.false)

pub returns-in_err-plan : goal.returns-in_err-plan
returns-in_err-plan c =
    let e : c.from_residual-in_err-plan.result ≡ Err c.in_err-plan.field-0.0 = search rules in
    rw e (refused-answers _ _ _ (run-refused _ _ _ _ _ _ _ (sym c.read_number.ensures ∙ c.in_ok-count.was) _ (sym c.read_inputs.ensures ∙ c.in_err-plan.was)))

pub returns : goal.returns
returns c =
    let h = room-enough (taken (goal.at.returns c).In_ok-plan) _ c.record_size.ensures c.if-out-record_size.false in
    done-answers _ _ _ _ _
    ((taken (goal.at.returns c).In_ok-plan).left ∙ alpha-within _ _ _ _ _ _ c.top.ensures c.check_alpha.ensures _ c.in_ok-check_alpha.was ∙ fitted-room _ _ h) h
    c.draw_overlay.ensures.0 c.draw_overlay.ensures.1
