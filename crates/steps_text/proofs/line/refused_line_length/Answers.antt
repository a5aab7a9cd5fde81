use native.Mathlib.Omega.{arith}
use Rattle.numbers.proofs.Decimal.{decimal-short}
use Rattle.steps_text.proofs.TextLaws.{length-refusal, length-refused}
use Rattle.laws.specs.Reason.{number_of}
use Rattle.steps_text.proofs.line.refused_line_length.Goals as goal

pub overflow_add-result-3 : goal.overflow_add-result-3
overflow_add-result-3 c = omega (arith, length-refusal c.args.e, decimal-short (number_of c.args.e.reason), c.refusal_length.ensures, c.decimal_length.ensures.1, c.decimal_length-2.ensures.1)

pub returns : goal.returns
returns c = omega (arith, length-refused c.args.index c.args.kind c.args.e, c.decimal_length.ensures.0, c.decimal_length-2.ensures.0, c.refusal_length.ensures)
