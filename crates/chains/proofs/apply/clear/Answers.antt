use native.Mathlib.Omega.{arith}
use Rattle.chains.proofs.ApplyLaws.{cleared, cleared-none}
use Rattle.chains.proofs.apply.clear.Goals as goal

pub returns-then-from-out : goal.returns-then-from-out
returns-then-from-out c = cleared _ _ _ (omega (arith, c.if-from-out.true)) (c.fill.ensures.after (λ y e. e))

pub returns-else-from-out : goal.returns-else-from-out
returns-else-from-out c = cleared-none _ _ c.if-from-out.false
