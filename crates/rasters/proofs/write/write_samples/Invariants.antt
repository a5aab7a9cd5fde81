use Rattle.laws.proofs.Writing.{Writing}
use Rattle.laws.specs.Span.{span}
use Rattle.planes.specs.Bytes.{sample_bytes}
use Rattle.sampling.specs.inner.Redraw.{raster_at, raster_row}
use Rattle.rasters.proofs.write.write_samples.Given as goal

abbrev pub invariant-loop-x : goal.invariant-loop-x
invariant-loop-x l = Writing l.initial.out l.at (raster_row l.s.plane.now l.s.raster l.row) l.out l.i (span (λ u. sample_bytes l.s.raster.to_bytes (raster_at l.s.plane.now l.s.raster l.row u)) l.x l.s.raster.across.to)
