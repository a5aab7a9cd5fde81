use mathlib.Core.Path.{◌≡◌}
use Prim.Native.Nat.{◌+◌}
use lib.ListN.{length}
use Rattle.planes.specs.Bytes.{sample_in}
use Rattle.blend.specs.Overlay.{over_alpha}
use Rattle.blend.specs.inner.Row.{RowLaid}
use Rattle.blend.proofs.row.opacity_row.Given as goal

abbrev pub invariant-loop-i : goal.invariant-loop-i
invariant-loop-i g l = (length l.acc ≡ length l.initial.acc) × RowLaid l.initial.acc l.acc l.k l.i (λ i v. over_alpha l.top (sample_in l.alpha g.row.BYTES l.stride (l.x + i) l.y) v)
