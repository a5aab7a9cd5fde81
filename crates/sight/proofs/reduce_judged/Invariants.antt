use Rattle.laws.specs.Out.{and_then}
use Rattle.props.proofs.ChainLaws.{Along}
use Rattle.props.specs.Chain.{entries_at}
use Rattle.sight.specs.Sight.{sight_after, sight_of}
use Rattle.sight.specs.inner.Bounded.{Bounded}
use Rattle.sight.proofs.reduce_judged.Given as goal

abbrev pub invariant-loop-i : goal.invariant-loop-i
invariant-loop-i l =
    Along sight_after l.essential_only l.count l.s (and_then (entries_at l.count l.s l.initial.next) (λ es. sight_of es l.essential_only l.width l.height)) l.i l.next l.reached
    × Bounded l.reached.area
