use mathlib.Core.Path.{◌∙◌, refl, sym}
use native.Mathlib.Nat.{sub-zero}
use native.Mathlib.Omega.{arith}
use Rattle.point.proofs.PointLaws.{top-next, top-none, top-refused}
use Rattle.point.proofs.names.name_topmost.Goals as goal

pub loop-i-init : goal.loop-i-init
loop-i-init c = rw (sub-zero c.args.d.count) refl

pub returns-in_default : goal.returns-in_default
returns-in_default c = sym (c.loop-i.invariant ∙ top-refused _ _ _ _ _ _ _ _ (sym c.read_record.ensures ∙ c.in_default.is))

pub offset-requires : goal.offset-requires
offset-requires c = (c.requires, c.loop-i-test.true)

pub loop-i-preserved : goal.loop-i-preserved
loop-i-preserved c =
    c.loop-i.invariant
    ∙ top-next _ _ _ _ _ _ _ _ _ _ c.loop-i-test.true (sym c.read_record.ensures ∙ c.in-Ok.is)
    c.offset.ensures c.name_input-found.ensures

pub returns : goal.returns
returns c = sym (c.loop-i.invariant ∙ top-none _ _ _ _ _ _ _ (omega (arith, c.loop-i-test.false)))
