use lib.ListN.{length}
use mathlib.Core.Path.{◌∙◌, ap}
use Prim.Native.Nat.{◌+◌, ℕ}
use Rattle.laws.proofs.Span.{span-end}
use Rattle.laws.proofs.Writing.{writing-as, writing-done, writing_start}
use Rattle.planes.specs.Bytes.{sample_in, samples_of}
use Rattle.sampling.proofs.RowLaws.{samples-more, samples-room}
use Rattle.rasters.proofs.LevelLaws.{length-looked_row, looked-inside}
use Rattle.rasters.specs.inner.Levels.{look_of, looked_row}
use Rattle.rasters.proofs.levels.write_looked.Goals as goal

pub loop-x-init : goal.loop-x-init
unfolding looked_row samples_of
loop-x-init c =
    writing_start _ _ _ (rw (length-looked_row c.args.s.plane.now c.args.s.raster c.args.table.now (length c.args.table.now) c.args.top c.args.y c.args.s.fits) c.requires.2)

pub sample-requires : goal.sample-requires
sample-requires c =
    looked-inside _ c.args.s.raster _ _ c.args.s.fits c.requires.0 c.requires.1 c.loop-x-test.true

pub put_sample-i-requires : goal.put_sample-i-requires
put_sample-i-requires c =
    (c.args.s.fits.to_positive, c.args.s.fits.to_bounded, samples-room _ (λ u. look_of c.args.table.now (length c.args.table.now) c.args.top (sample_in c.args.s.plane.now c.args.s.raster.bytes c.args.s.raster.stride u c.args.y)) _ c.args.s.fits.to_positive c.args.s.fits.to_bounded c.loop-x.invariant c.loop-x-test.true)

pub loop-x-preserved : goal.loop-x-preserved
loop-x-preserved c =
    let look = look_of c.args.table.now (length c.args.table.now) c.args.top in
    samples-more _ (λ u. look (sample_in c.args.s.plane.now c.args.s.raster.bytes c.args.s.raster.stride u c.args.y)) _ c.args.s.fits.to_positive c.args.s.fits.to_bounded c.loop-x.invariant c.loop-x-test.true _ _ _ c.put_sample-i.ensures.0 c.put_sample-i.ensures.1 (c.look_up-v.ensures ∙ ap look c.sample.ensures)

pub returns : goal.returns
unfolding looked_row samples_of
returns c =
    let w = writing-done (writing-as c.loop-x.invariant (span-end _ _ _ c.loop-x-test.false)) in (w.0 ∙ ap (λ (k : ℕ). c.args.at + k) (length-looked_row c.args.s.plane.now c.args.s.raster c.args.table.now (length c.args.table.now) c.args.top c.args.y c.args.s.fits), w.1)
