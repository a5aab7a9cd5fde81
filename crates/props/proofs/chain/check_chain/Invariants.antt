use mathlib.Core.Path.{◌≡◌}
use Prim.Native.Nat.{◌-◌}
use Rattle.laws.specs.Out.{after}
use Rattle.props.proofs.ChainLaws.{kept}
use Rattle.props.specs.Chain.{entries_at}
use Rattle.props.specs.inner.Judged.{judged_at}
use Rattle.props.proofs.chain.check_chain.Given as goal

abbrev pub invariant-loop-i : goal.invariant-loop-i
invariant-loop-i l = judged_at l.s l.at ≡ kept (record { count = l.count; first = l.first }) (after l.i (entries_at (l.count - l.i) l.s l.next))
