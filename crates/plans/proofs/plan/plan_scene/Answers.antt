use mathlib.Core.Path.{◌∙◌, ap, sym}
use Rattle.laws.proofs.Out.{then-done}
use Rattle.laws.specs.Out.{Out, and_then}
use Rattle.plans.specs.declared.chain_plan.ChainPlan.{ChainPlan}
use Rattle.plans.specs.inner.ChainPlan.{current_for, current_of}
use Rattle.plans.proofs.plan.plan_scene.Goals as goal

pub returns : goal.returns
unfolding current_of
returns c =
    c.place_first.ensures
    ∙ ap (λ (o : Out ChainPlan). and_then o (current_for c.args.output c.args.spare c.args.m)) (c.plan_chain.ensures ∙ then-done _ c.requires.0.read)
    ∙ sym (then-done (λ es. current_of es c.args.essential_only c.args.m c.args.output c.args.spare) c.requires.0.read)
