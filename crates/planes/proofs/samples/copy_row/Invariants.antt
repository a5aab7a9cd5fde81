use Prim.Native.Nat.{◌+◌}
use lib.ListN.{drop}
use Rattle.laws.proofs.Writing.{Writing}
use Rattle.planes.proofs.samples.copy_row.Given as goal

abbrev pub invariant-loop-i : goal.invariant-loop-i
invariant-loop-i l = Writing l.initial.out l.at l.row l.out (l.at + l.i) (drop l.i l.row)
