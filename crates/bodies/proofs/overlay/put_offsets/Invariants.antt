use Prim.Native.Nat.{◌/◌}
use lib.ListN.{length}
use Rattle.laws.proofs.Writing.{Writing}
use Rattle.laws.specs.Span.{span}
use Rattle.bodies.specs.inner.Words.{word_bytes}
use Rattle.bodies.proofs.overlay.put_offsets.Given as goal

abbrev pub invariant-loop-i : goal.invariant-loop-i
invariant-loop-i l = Writing l.initial.out l.at (span (word_bytes l.bytes l.offsets) 0 (length l.offsets / 2)) l.out l.place (span (word_bytes l.bytes l.offsets) l.i (length l.offsets / 2))
