use Rattle.std.specs.Prelude.{Err}
use mathlib.Core.Path.{◌∙◌, ap, sym}
use native.Mathlib.Omega.{arith}
use Rattle.laws.proofs.Out.{done-after}
use Rattle.records.proofs.TrayLaws.{counted-done, counted_next, counted-refused, counted_start, frames-end, frames-left-on, frames-refused-on}
use Rattle.records.proofs.record.check_records.Goals as goal

pub loop-i-init : goal.loop-i-init
loop-i-init c = counted_start _ _ _

pub returns-in-Err : goal.returns-in-Err
returns-in-Err c =
    ap (λ r. Err r) c.about.ensures
    ∙ sym (c.loop-i.invariant
    ∙ counted-refused _ _ _
    (frames-refused-on _ _ _ _ _ (omega (arith, c.loop-i-test.true)) (sym c.read_record.ensures ∙ c.in-Err.is)))

pub loop-i-preserved : goal.loop-i-preserved
loop-i-preserved c =
    c.loop-i.invariant ∙ counted_next _ _ _ _ _ c.loop-i-test.true (sym c.read_record.ensures ∙ c.in-Ok.is)

pub returns-then-next-s : goal.returns-then-next-s
returns-then-next-s c = sym (c.loop-i.invariant ∙ counted-refused _ _ _ (frames-left-on _ _ _ _ (omega (arith, c.loop-i-test.false)) c.if-next-s.true))

pub returns : goal.returns
returns c = sym (c.loop-i.invariant ∙ counted-done _ _ _ (done-after _ _ _ (frames-end _ _ _ (omega (arith, c.loop-i-test.false)) c.if-next-s.false)))
