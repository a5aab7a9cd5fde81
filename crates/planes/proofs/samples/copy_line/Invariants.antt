use mathlib.Core.Path.{◌≡◌}
use Prim.Native.Nat.{◌*◌, ◌+◌}
use Rattle.laws.proofs.Writing.{Writing}
use Rattle.laws.specs.Span.{span}
use Rattle.planes.specs.Bytes.{sample_at, sample_bytes}
use Rattle.planes.specs.inner.Line.{line_bytes, place_on}
use Rattle.planes.proofs.samples.copy_line.Given as goal

abbrev pub invariant-loop-k : goal.invariant-loop-k
invariant-loop-k l =
    (l.i ≡ l.at + l.k * l.bytes)
    × Writing l.initial.out l.at (line_bytes l.plane l.bytes (record { origin = l.origin; step = l.step; from = l.from; forth = l.forth; back = l.back; half = l.half }) l.n) l.out l.i
    (span (λ x. sample_bytes l.bytes
    (sample_at l.plane l.bytes (place_on (record { origin = l.origin; step = l.step; from = l.from; forth = l.forth; back = l.back; half = l.half }) x)))
    l.k l.n)
