use Rattle.laws.proofs.Writing.{Writing}
use Rattle.laws.specs.Span.{span}
use Rattle.sampling.specs.inner.Redraw.{raster_bytes, raster_row, row_of}
use Rattle.ten_to_eight.proofs.write_by.Given as goal

abbrev pub invariant-loop-y : goal.invariant-loop-y
invariant-loop-y l = Writing l.initial.out l.at (raster_bytes l.s.plane.now l.s.raster) l.out l.i (span (λ v. raster_row l.s.plane.now l.s.raster (row_of l.s.raster.rule l.s.raster.down v)) l.y l.s.raster.down.to)
