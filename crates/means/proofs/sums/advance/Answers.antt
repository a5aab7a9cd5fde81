use native.Mathlib.Omega.{arith}
use Rattle.means.proofs.ColumnLaws.{stand-over, stand-under}
use Rattle.means.proofs.sums.advance.Goals as goal

pub returns-then-by-rest : goal.returns-then-by-rest
returns-then-by-rest c =
    stand-over _ _ _ c.if-by-rest.true (omega (arith, c.requires.0, c.requires.1))

pub returns-else-by-rest : goal.returns-else-by-rest
returns-else-by-rest c = stand-under _ _ _ c.if-by-rest.false
