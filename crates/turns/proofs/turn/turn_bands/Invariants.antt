use mathlib.Core.Path.{◌≡◌}
use Prim.Native.Nat.{◌*◌, ◌+◌, ◌-◌, ◌≤◌}
use lib.ListN.{length}
use Rattle.laws.specs.Puts.{puts}
use Rattle.laws.specs.Span.{span}
use Rattle.turns.specs.inner.Course.{course_row}
use Rattle.turns.proofs.turn.turn_bands.Given as goal

abbrev pub invariant-loop-y : goal.invariant-loop-y
invariant-loop-y g l = (l.y ≤ l.rows) × (l.i ≡ l.at + l.y * (l.columns * g.row.BYTES)) × (length l.out ≡ length l.initial.out) × (l.out ≡ puts l.initial.out l.at (span (course_row l.plane g.row.BYTES l.c l.columns) 0 l.y))

abbrev pub decreases-loop-y : goal.decreases-loop-y
decreases-loop-y g l = l.rows - l.y
