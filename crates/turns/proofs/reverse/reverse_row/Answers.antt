use mathlib.Core.Path.{sym}
use native.Mathlib.Omega.{arith}
use Rattle.turns.proofs.SteppedLaws.{stepped-none}
use Rattle.turns.proofs.reverse.reverse_row.Goals as goal
use Rattle.turns.proofs.reverse.reverse_row.Goals.{Else-bytes-eq2}

pub returns-then-n-eq0 : goal.returns-then-n-eq0
returns-then-n-eq0 c = (rw c.if-n-eq0.true (omega arith), sym (stepped-none _ _ _ _ _ _ _ _ c.if-n-eq0.true))
