use mathlib.Core.Path.{◌∙◌, ap, sym}
use Prim.Native.Nat.{◌+◌, ℕ}
use native.Mathlib.Nat.{le_trans}
use native.Mathlib.Omega.{arith}
use Rattle.laws.proofs.Span.{span-end}
use Rattle.laws.proofs.Writing.{writing-as, writing-done, writing_start}
use Rattle.sampling.proofs.RowLaws.{raster-more, raster-room}
use Rattle.rasters.proofs.LevelLaws.{looked-row, table-small}
use Rattle.sampling.proofs.RedrawLaws.{length-raster_bytes}
use Rattle.sampling.specs.inner.Redraw.{raster_bytes, raster_row, row_of}
use Rattle.rasters.proofs.levels.write_by.Goals as goal

pub fill_table-requires : goal.fill_table-requires
fill_table-requires c =
    rw c.requires.2 (le_trans (table-small c.args.depths c.requires.1.few) (omega arith))

pub loop-y-init : goal.loop-y-init
unfolding raster_bytes
loop-y-init c =
    (writing_start _ _ _ (rw (length-raster_bytes c.args.s.plane.now c.args.s.raster c.args.s.fits) c.requires.3))

pub write_looked-i-requires : goal.write_looked-i-requires
write_looked-i-requires c =
    (c.requires.1.across, rw c.requires.1.down c.loop-y-test.true, raster-room _ c.args.s.raster c.args.s.fits c.loop-y.invariant c.loop-y-test.true)

pub loop-y-preserved : goal.loop-y-preserved
loop-y-preserved c =
    let row = looked-row _ c.args.s.raster c.args.depths _ _ _ _ c.args.s.fits c.requires.1 c.fill_table.ensures.0 (c.fill_table.ensures.1 ∙ c.requires.2) c.top_at-top.ensures in
    let rule = ap (λ u. raster_row c.args.s.plane.now c.args.s.raster (row_of u c.args.s.raster.down c.loop-y.y)) (sym c.requires.0) in
    raster-more _ c.args.s.raster c.args.s.fits c.loop-y.invariant c.loop-y-test.true _ _ _ c.write_looked-i.ensures.0 c.write_looked-i.ensures.1 (row ∙ rule)

pub returns : goal.returns
returns c =
    let w = writing-done (writing-as c.loop-y.invariant (span-end _ _ _ c.loop-y-test.false)) in (w.0 ∙ ap (λ (k : ℕ). c.args.at + k) (length-raster_bytes c.args.s.plane.now c.args.s.raster c.args.s.fits), w.1)
