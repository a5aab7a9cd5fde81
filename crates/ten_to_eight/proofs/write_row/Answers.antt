use mathlib.Core.Path.{◌∙◌, ap}
use Prim.Native.Nat.{◌+◌, ℕ}
use Rattle.laws.proofs.Span.{span-end}
use Rattle.laws.proofs.Writing.{writing-as, writing-done, writing_start}
use Rattle.planes.specs.Bytes.{sample_in, samples_of}
use Rattle.sampling.proofs.PlaceLaws.{near-in}
use Rattle.sampling.proofs.RedrawLaws.{length-raster_row}
use Rattle.sampling.proofs.RowLaws.{samples-more, samples-room}
use Rattle.sampling.specs.Depth.{level_of}
use Rattle.sampling.specs.inner.Redraw.{raster_at, raster_row, row_at}
use Rattle.ten_to_eight.specs.inner.Table.{eight_row}
use Rattle.ten_to_eight.proofs.write_row.Goals as goal

pub loop-x-init : goal.loop-x-init
unfolding raster_row samples_of
loop-x-init c =
    writing_start _ _ _ (rw (length-raster_row c.args.s.plane.now c.args.s.raster (eight_row c.args.y) c.args.s.fits) c.requires.2)

pub nearest_place-u-requires : goal.nearest_place-u-requires
nearest_place-u-requires c =
    (c.args.s.fits.across.made, c.loop-x-test.true, c.args.s.fits.across.new, c.args.s.fits.across.old)

pub sample-requires : goal.sample-requires
sample-requires c =
    (c.args.s.fits.positive, c.args.s.fits.bounded, c.args.s.fits.inside _ _ (rw c.nearest_place-u.ensures (near-in _ _ _ c.args.s.fits.across.positive c.loop-x-test.true)) c.requires.0)

pub look_up-v-requires : goal.look_up-v-requires
look_up-v-requires c =
    c.requires.1

pub put_sample-i-requires : goal.put_sample-i-requires
put_sample-i-requires c =
    (c.args.s.fits.to_positive, c.args.s.fits.to_bounded, samples-room _ (raster_at c.args.s.plane.now c.args.s.raster (eight_row c.args.y)) _ c.args.s.fits.to_positive c.args.s.fits.to_bounded c.loop-x.invariant c.loop-x-test.true)

pub loop-x-preserved : goal.loop-x-preserved
unfolding raster_at row_at
loop-x-preserved c =
    let near = ap (λ (u : ℕ). sample_in c.args.s.plane.now c.args.s.raster.bytes c.args.s.raster.stride u c.args.y) c.nearest_place-u.ensures in
    samples-more _ (raster_at c.args.s.plane.now c.args.s.raster (eight_row c.args.y)) _ c.args.s.fits.to_positive c.args.s.fits.to_bounded c.loop-x.invariant c.loop-x-test.true _ _ _ c.put_sample-i.ensures.0 c.put_sample-i.ensures.1 (c.look_up-v.ensures ∙ ap (level_of 10 8) (c.sample.ensures ∙ near))

pub returns : goal.returns
returns c =
    let w = writing-done (writing-as c.loop-x.invariant (span-end _ _ _ c.loop-x-test.false)) in
    (w.0 ∙ ap (λ (k : ℕ). c.args.at + k) (length-raster_row c.args.s.plane.now c.args.s.raster (eight_row c.args.y) c.args.s.fits), w.1)
