use mathlib.Core.Path.{◌≡◌}
use Prim.Native.Nat.{◌-◌, ◌≤◌}
use lib.ListN.{length}
use Rattle.paste.specs.Stored.{store_rows}
use Rattle.turns.specs.inner.Course.{course_row}
use Rattle.turns.proofs.turn.turn_band.Given as goal

abbrev pub invariant-loop-k : goal.invariant-loop-k
invariant-loop-k g l = (l.k ≤ l.columns) × (length l.out ≡ length l.initial.out) × (l.out ≡ store_rows l.initial.out l.at l.pitch (course_row l.plane g.row.BYTES l.c l.k) l.rows)

abbrev pub decreases-loop-k : goal.decreases-loop-k
decreases-loop-k g l = l.columns - l.k
