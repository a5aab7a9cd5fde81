use mathlib.Core.Path.{sym}
use Rattle.numbers.proofs.Number.{read_one}
use Rattle.numbers.proofs.read_number.Goals as goal

pub returns-then-s-at-lt128 : goal.returns-then-s-at-lt128
returns-then-s-at-lt128 c = sym (read_one _ _ c.if-at-s.true c.if-s-at-lt128.true)
