use mathlib.Core.Path.{◌≡◌}
use Prim.Native.Nat.{◌*◌, ◌+◌, min}
use lib.ListN.{length}
use Rattle.planes.specs.Bytes.{sample_in}
use Rattle.blend.specs.inner.Row.{RowLaid}
use Rattle.blend.proofs.row.opaque_row.Given as goal

abbrev pub invariant-loop-i : goal.invariant-loop-i
invariant-loop-i g l = (length l.acc ≡ length l.initial.acc) × RowLaid l.initial.acc l.acc l.k l.i (λ i v. min (sample_in l.plane g.row.BYTES l.stride (l.x + i) l.y * l.top) (l.top * l.top))
