use Rattle.numbers.proofs.Decimal.{decimal-few, decimal-short, onto-last, onto-more, length_digits}
use native.Mathlib.Omega.{arith}
use lib.ListN.{length}
use mathlib.Core.Path.{ap, ◌∙◌}
use Rattle.numbers.proofs.decimal_length.Goals as goal

pub overflow_add-count : goal.overflow_add-count
overflow_add-count c = omega (arith, length_digits 19 c.loop-rest.rest c.loop-rest.invariant.0, ap length c.loop-rest.invariant.2, decimal-short c.args.n)

pub loop-rest-preserved : goal.loop-rest-preserved
loop-rest-preserved c = (_, omega arith, c.loop-rest.invariant.2 ∙ onto-more c.loop-rest.rest c.loop-rest.invariant.0 c.loop-rest-test.true c.loop-rest.invariant.1, omega arith)

pub returns : goal.returns
returns c =
    let e = ap length (c.loop-rest.invariant.2 ∙ onto-last c.loop-rest.rest c.loop-rest.invariant.0 c.loop-rest-test.false) in
    (omega (arith, decimal-short c.args.n), omega (arith, decimal-short c.args.n), λ h. omega (arith, decimal-few 9 c.args.n (omega arith)))
