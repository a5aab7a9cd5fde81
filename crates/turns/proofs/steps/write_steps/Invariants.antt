use mathlib.Core.Path.{◌≡◌}
use Prim.Native.Nat.{◌≤◌}
use lib.ListN.{length}
use Rattle.laws.specs.Puts.{puts}
use Rattle.turns.specs.inner.Stepped.{stepped}
use Rattle.turns.proofs.steps.write_steps.Given as goal

abbrev pub invariant-loop-k : goal.invariant-loop-k
invariant-loop-k g l = (l.k ≤ l.n) × (length l.out ≡ length l.initial.out) × (l.out ≡ puts l.initial.out l.at (stepped l.plane g.row.BYTES l.from l.forth l.back l.k))
