use lib.ListN.{length}
use Rattle.laws.proofs.Writing.{Writing}
use Rattle.laws.specs.Span.{span}
use Rattle.rasters.proofs.LevelLaws.{looked_item}
use Rattle.rasters.proofs.levels.write_looked.Given as goal

abbrev pub invariant-loop-x : goal.invariant-loop-x
invariant-loop-x l = Writing l.initial.out l.at (span (looked_item l.s.plane.now l.s.raster.bytes l.s.raster.stride l.s.raster.to_bytes l.table (length l.table) l.top l.y) 0 l.s.raster.across.to) l.out l.i (span (looked_item l.s.plane.now l.s.raster.bytes l.s.raster.stride l.s.raster.to_bytes l.table (length l.table) l.top l.y) l.x l.s.raster.across.to)
