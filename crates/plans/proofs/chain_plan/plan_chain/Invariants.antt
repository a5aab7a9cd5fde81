use Rattle.laws.specs.Out.{and_then}
use Rattle.image.specs.Sound.{FormSound}
use Rattle.props.proofs.ChainLaws.{Along}
use Rattle.props.specs.Chain.{entries_at, fold_chain}
use Rattle.plans.specs.inner.ChainPlan.{chain_plan_after}
use Rattle.plans.proofs.chain_plan.plan_chain.Given as goal

abbrev pub invariant-loop-i : goal.invariant-loop-i
invariant-loop-i l =
    Along chain_plan_after l.essential_only l.count l.s (and_then (entries_at l.count l.s l.initial.next) (λ es. fold_chain chain_plan_after l.essential_only es l.initial.reached)) l.i l.next
    l.reached
    × FormSound l.reached.form
