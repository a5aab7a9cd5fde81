use mathlib.Core.Path.{ap}
use Prim.Native.Nat.{◌<◌}
use lib.ListN.{length}
use Rattle.laws.proofs.Writing.{writing-put, writing-done}
use Rattle.numbers.proofs.Number.{bytes-last, bytes-more}
use native.Mathlib.Omega.{arith}
use Rattle.numbers.proofs.write_number.Goals as goal

pub bounds-out-i : goal.bounds-out-i
bounds-out-i c = let h : c.loop-rest.i < length c.loop-rest.out = omega (arith, ap length (bytes-more c.loop-rest.rest c.loop-rest-test.true c.loop-rest.invariant.0)) in h

pub loop-rest-preserved : goal.loop-rest-preserved
loop-rest-preserved c = (omega arith, writing-put (rw (bytes-more c.loop-rest.rest c.loop-rest-test.true c.loop-rest.invariant.0) at c.loop-rest.invariant.1))

pub bounds-out-i-2 : goal.bounds-out-i-2
bounds-out-i-2 c = let h : c.loop-rest.i < length c.loop-rest.out = omega (arith, ap length (bytes-last c.loop-rest.rest c.loop-rest-test.false)) in h

pub returns : goal.returns
returns c = writing-done (writing-put (rw (bytes-last c.loop-rest.rest c.loop-rest-test.false) at c.loop-rest.invariant.1))
