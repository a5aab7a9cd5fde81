use mathlib.Core.Path.{◌≡◌}
use Prim.Native.Nat.{◌≤◌}
use lib.ListN.{length}
use Rattle.paste.specs.Stored.{store_rows}
use Rattle.turns.specs.inner.Course.{course_row}
use Rattle.turns.proofs.turn.turn_block.Given as goal

abbrev pub invariant-loop-y : goal.invariant-loop-y
invariant-loop-y g l =
    (l.y ≤ l.rows) × (length l.out ≡ length l.initial.out)
    × (l.out ≡ store_rows l.initial.out l.at l.pitch (course_row l.plane g.row.BYTES l.c l.n) l.y)
