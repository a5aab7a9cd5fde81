use Rattle.std.specs.Prelude.{Err}
use mathlib.Core.Path.{◌∙◌, ap, refl, sym}
use native.Mathlib.Omega.{arith}
use Rattle.inputs.proofs.SummaryLaws.{plan-depth, plan-done, plan-refused, preceded-end, preceded-left, preceded-refused, seen_more, seen_none}
use Rattle.inputs.specs.inner.Summary.{empty_summary}
use Rattle.inputs.specs.Inputs.{other_depth_of}
use Rattle.inputs.specs.inner.Sought.{is_sought}
use Rattle.inputs.proofs.read.read_frames.Goals as goal

pub loop-i-init : goal.loop-i-init
unfolding empty_summary
loop-i-init c = seen_none _ _ _ _ _ _ (rw (c.is_odd.ensures, c.is_odd-2.ensures) refl)

pub returns-in-Err : goal.returns-in-Err
returns-in-Err c =
    ap (λ r. Err r) c.about.ensures
    ∙ sym (plan-refused _ _ _ _ _ _
    (c.loop-i.invariant.left
    ∙ preceded-refused c.loop-i.invariant.seen _ _ _ _ _ (omega (arith, c.loop-i-test.true))
    (sym c.read_record.ensures ∙ c.in-Err.is)))

pub offset-requires : goal.offset-requires
offset-requires c =
    (c.requires.0, c.loop-i-test.true)

pub loop-i-preserved : goal.loop-i-preserved
loop-i-preserved c =
    seen_more _ _ _ _ _ _ _ _ _ _ _ c.loop-i-test.true (sym c.read_record.ensures ∙ c.in-Ok.is)
    c.summarise-so_far.ensures c.offset.ensures c.loop-i.invariant

pub returns-then-at-tray : goal.returns-then-at-tray
returns-then-at-tray c =
    sym (plan-refused _ _ _ _ _ _
    (c.loop-i.invariant.left
    ∙ preceded-left c.loop-i.invariant.seen _ _ _ _ (omega (arith, c.loop-i-test.false)) c.if-at-tray.true))

pub returns-then-so_far : goal.returns-then-so_far
unfolding other_depth_of is_sought
returns-then-so_far c =
    ap (λ r. Err r) c.about-then-so_far.ensures
    ∙ sym (plan-depth _ _ _ _ _ c.loop-i.invariant.seen _
    (c.loop-i.invariant.left ∙ preceded-end c.loop-i.invariant.seen _ _ _ _ (omega (arith, c.loop-i-test.false)) c.if-at-tray.false)
    c.loop-i.invariant.notes _ c.if-so_far.true c.first_sought-other.ensures)

pub compose_form-requires : goal.compose_form-requires
compose_form-requires c =
    c.requires.1

pub returns : goal.returns
returns c =
    sym (plan-done _ _ _ _ _ c.loop-i.invariant.seen _
    (c.loop-i.invariant.left
    ∙ preceded-end c.loop-i.invariant.seen _ _ _ _ (omega (arith, c.loop-i-test.false)) c.if-at-tray.false)
    c.loop-i.invariant.notes _ c.if-so_far.false c.compose_form.ensures)
