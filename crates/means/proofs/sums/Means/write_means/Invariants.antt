use mathlib.Core.Path.{◌≡◌}
use Prim.Native.Nat.{◌^◌, ◌≤◌}
use lib.ListN.{length}
use Rattle.laws.proofs.Writing.{Writing}
use Rattle.laws.specs.Span.{span}
use Rattle.planes.specs.Bytes.{sample_bytes}
use Rattle.sampling.specs.declared.raster.RowRule.{RowRule}
use Rattle.means.specs.inner.Columns.{SumsHeld, pace_of, place_of, stand_of}
use Rattle.sampling.specs.inner.Redraw.{raster_at, raster_row}
use Rattle.means.proofs.sums.Means.write_means.Given as goal

abbrev pub invariant-loop-x : goal.invariant-loop-x
invariant-loop-x l =
    (l.p.by ≡ (pace_of l.self.source.raster.across).by) × (l.step ≡ stand_of (pace_of l.self.source.raster.across).step (pace_of l.self.source.raster.across).by) × (length l.sums ≡ length l.initial.sums)
    × (l.s ≡ place_of (pace_of l.self.source.raster.across) l._x) × SumsHeld l.sums l.self.source.plane.now l.self.source.raster l.self.down l.held × (l.held.first ≤ 2 ^ 30) × (l.held.past ≤ 2 ^ 30)
    × Writing l.initial.out l.at (raster_row l.self.source.plane.now l.self.source.raster (RowRule.Area l.self.down)) l.out l.i (span (λ u. sample_bytes l.self.source.raster.to_bytes (raster_at l.self.source.plane.now l.self.source.raster (RowRule.Area l.self.down) u)) l._x l.self.source.raster.across.to)
