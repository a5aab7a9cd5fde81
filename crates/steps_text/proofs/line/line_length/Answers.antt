use native.Mathlib.Omega.{arith}
use Rattle.steps_text.proofs.TextLaws.{length-line}
use Rattle.steps_text.proofs.line.line_length.Goals as goal

pub returns : goal.returns
returns c =
    omega (
      arith,
      length-line c.args.index c.args.kind c.args.size,
      c.decimal_length.ensures.0,
      c.decimal_length-2.ensures.0,
      c.decimal_length-3.ensures.0,
      c.decimal_length-4.ensures.0,
    )
