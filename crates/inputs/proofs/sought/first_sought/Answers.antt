use mathlib.Core.Path.{◌∙◌, refl, sym}
use native.Mathlib.Nat.{sub-zero}
use native.Mathlib.Omega.{arith}
use Rattle.inputs.proofs.FrameLaws.{some-none, sought-here, sought-next, sought-refused}
use Rattle.inputs.proofs.sought.first_sought.Goals as goal

pub loop-i-init : goal.loop-i-init
loop-i-init c = rw (sub-zero c.args.count) refl

pub returns-in-Err : goal.returns-in-Err
returns-in-Err c =
    sym (c.loop-i.invariant ∙ sought-refused _ _ _ _ _ _ (sym c.read_record.ensures ∙ c.in-Err.is))

pub returns-then-is_sought : goal.returns-then-is_sought
returns-then-is_sought c =
    sym (c.loop-i.invariant ∙ sought-here _ _ _ _ _ _ c.loop-i-test.true (sym c.read_record.ensures ∙ c.in-Ok.is) (sym c.is_sought.ensures ∙ c.if-is_sought.true))

pub loop-i-preserved : goal.loop-i-preserved
loop-i-preserved c =
    c.loop-i.invariant
    ∙ sought-next _ _ _ _ _ _ c.loop-i-test.true (sym c.read_record.ensures ∙ c.in-Ok.is)
    (sym c.is_sought.ensures ∙ c.if-is_sought.false)

pub returns : goal.returns
returns c = sym (c.loop-i.invariant ∙ some-none _ _ _ _ _ _ (omega (arith, c.loop-i-test.false)))
