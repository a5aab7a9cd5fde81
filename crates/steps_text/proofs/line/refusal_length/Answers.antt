use mathlib.Core.Path.{ap}
use lib.ListN.{length}
use native.Mathlib.Omega.{arith}
use Rattle.steps_text.proofs.TextLaws.{length-refusal}
use Rattle.numbers.specs.Decimal.{decimal}
use Rattle.steps_text.proofs.line.refusal_length.Goals as goal

pub returns : goal.returns
returns c = omega (arith, length-refusal c.args.e, c.decimal_length.ensures.0, ap (λ n. length (decimal n)) c.number.ensures)
