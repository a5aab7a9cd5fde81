use mathlib.Core.Path.{◌≡◌}
use Prim.Native.Nat.{◌*◌, ◌+◌}
use lib.ListN.{get_or}
use Rattle.laws.proofs.Writing.{Writing}
use Rattle.laws.specs.Span.{span}
use Rattle.planes.specs.Bytes.{sample_bytes, samples_of}
use Rattle.blend.specs.Overlay.{final_sample}
use Rattle.blend.proofs.finish.write_run.Given as goal

abbrev pub invariant-loop-k : goal.invariant-loop-k
invariant-loop-k l = (l.i ≡ l.at + l.k * l.bytes)
    × Writing l.initial.out l.at (samples_of l.bytes (λ j. final_sample l.top l.part l.fill (get_or l.colour j 0) (get_or l.opacity j 0)) l.n) l.out l.i
    (span (λ j. sample_bytes l.bytes (final_sample l.top l.part l.fill (get_or l.colour j 0) (get_or l.opacity j 0))) l.k l.n)
