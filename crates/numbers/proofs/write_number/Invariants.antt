use Prim.Native.Nat.{◌^◌, ◌<◌}
use Rattle.laws.proofs.Writing.{Writing}
use Rattle.numbers.specs.Number.{number_bytes}
use Rattle.numbers.proofs.write_number.Given as goal

abbrev pub invariant-loop-rest : goal.invariant-loop-rest
invariant-loop-rest l = (l.rest < 2 ^ 32) × Writing l.initial.out l.at (number_bytes l.n) l.out l.i (number_bytes l.rest)

abbrev pub decreases-loop-rest : goal.decreases-loop-rest
decreases-loop-rest l = l.rest
