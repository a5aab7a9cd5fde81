use mathlib.Core.Path.{◌≡◌}
use Prim.Native.Nat.{◌*◌, ◌+◌}
use lib.ListN.{get_or}
use Rattle.laws.proofs.Writing.{Writing}
use Rattle.laws.specs.Span.{span}
use Rattle.planes.specs.Bytes.{sample_bytes, samples_of}
use Rattle.blend.specs.Overlay.{unpremultiply}
use Rattle.blend.proofs.finish.solid_samples.Given as goal

abbrev pub invariant-loop-k : goal.invariant-loop-k
invariant-loop-k g l = (l.i ≡ l.at + l.k * g.row.BYTES)
    × Writing l.initial.out l.at (samples_of g.row.BYTES (λ j. unpremultiply l.top 0 (get_or l.colour j 0) l.top) l.n) l.out l.i
    (span (λ j. sample_bytes g.row.BYTES (unpremultiply l.top 0 (get_or l.colour j 0) l.top)) l.k l.n)
