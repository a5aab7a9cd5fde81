use Rattle.std.specs.Prelude.{Err}
use mathlib.Core.Path.{◌∙◌, ap, sym}
use Rattle.laws.proofs.Out.{then-done}
use Rattle.props.proofs.ChainLaws.{along-begins, along-ends, along-next, along-refused, along-stands}
use Rattle.plans.proofs.ChainPlanLaws.{entry-sound, plan-start, start-sound}
use Rattle.plans.proofs.chain_plan.plan_chain.Goals as goal

pub new-reached-requires : goal.new-reached-requires
new-reached-requires c = c.requires.1

pub loop-i-init : goal.loop-i-init
loop-i-init c = (
  along-begins _ _ _ _ _ _ _ _ c.requires.0.read (then-done _ c.requires.0.read),
  rw c.new-reached.ensures (start-sound _ c.requires.1),
)

pub returns-in_err-entry : goal.returns-in_err-entry
returns-in_err-entry c = along-stands _ _ _ _ _ _ _ _ c.loop-i.invariant.0 c.loop-i-test.true _ (sym c.read_entry.ensures ∙ c.in_err-entry.was)

pub after_entry-requires : goal.after_entry-requires
after_entry-requires c = c.loop-i.invariant.1

pub returns-in-Err : goal.returns-in-Err
returns-in-Err c =
    ap (λ r. Err r) c.about.ensures
    ∙ sym (plan-start _ _ _ _ _ _ c.new-reached.ensures
    ∙ along-refused _ _ _ _ _ _ _ _ c.loop-i.invariant.0 c.loop-i-test.true _ _ (sym c.read_entry.ensures ∙ c.in_ok-entry.was)
    (sym c.after_entry.ensures ∙ c.in-Err.is))

pub loop-i-preserved : goal.loop-i-preserved
loop-i-preserved c =
    let q = sym c.after_entry.ensures ∙ c.in-Ok.is in (
      along-next _ _ _ _ _ _ _ _ c.loop-i.invariant.0 c.loop-i-test.true _ _ (sym c.read_entry.ensures ∙ c.in_ok-entry.was) q,
      entry-sound _ _ _ _ c.loop-i.invariant.1 q,
    )

pub returns : goal.returns
returns c = sym (plan-start _ _ _ _ _ _ c.new-reached.ensures ∙ along-ends _ _ _ _ _ _ _ _ c.loop-i.invariant.0 c.loop-i-test.false)
