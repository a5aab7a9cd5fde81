use mathlib.Core.Path.{ap}
use lib.ListN.{length}
use Rattle.numbers.proofs.Number.{bytes-last, bytes-more, bytes-short}
use native.Mathlib.Omega.{arith}
use Rattle.numbers.proofs.number_length.Goals as goal

pub overflow_add-count : goal.overflow_add-count
overflow_add-count c = omega (arith, bytes-short c.args.n)

pub loop-rest-preserved : goal.loop-rest-preserved
loop-rest-preserved c = omega (arith, ap length (bytes-more c.loop-rest.rest c.loop-rest-test.true c.loop-rest.invariant.0))

pub returns : goal.returns
returns c = omega (arith, ap length (bytes-last c.loop-rest.rest c.loop-rest-test.false), bytes-short c.args.n)
