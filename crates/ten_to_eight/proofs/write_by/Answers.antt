use mathlib.Core.Path.{◌∙◌, ap}
use Prim.Native.Nat.{◌+◌, ℕ}
use Rattle.laws.proofs.Span.{span-end}
use Rattle.laws.proofs.Writing.{writing-as, writing-done, writing_start}
use Rattle.sampling.proofs.PlaceLaws.{near-in}
use Rattle.sampling.proofs.RedrawLaws.{length-raster_bytes}
use Rattle.sampling.proofs.RowLaws.{raster-more, raster-room}
use Rattle.sampling.specs.inner.Redraw.{raster_bytes, raster_row}
use Rattle.ten_to_eight.proofs.TableLaws.{eight-row}
use Rattle.ten_to_eight.proofs.write_by.Goals as goal

pub loop-y-init : goal.loop-y-init
unfolding raster_bytes
loop-y-init c =
    writing_start _ _ _ (rw (length-raster_bytes c.args.s.plane.now c.args.s.raster c.args.s.fits) c.requires.2)

pub nearest_place-requires : goal.nearest_place-requires
nearest_place-requires c =
    (c.args.s.fits.down.made, c.loop-y-test.true, c.args.s.fits.down.new, c.args.s.fits.down.old)

pub write_row-i-requires : goal.write_row-i-requires
write_row-i-requires c =
    (rw c.nearest_place.ensures (near-in _ _ _ c.args.s.fits.down.positive c.loop-y-test.true), c.requires.1, raster-room _ c.args.s.raster c.args.s.fits c.loop-y.invariant c.loop-y-test.true)

pub loop-y-preserved : goal.loop-y-preserved
loop-y-preserved c =
    raster-more _ c.args.s.raster c.args.s.fits c.loop-y.invariant c.loop-y-test.true _ _ _ c.write_row-i.ensures.0 c.write_row-i.ensures.1
    (ap (raster_row c.args.s.plane.now c.args.s.raster) (eight-row c.args.s.raster.rule c.args.s.raster.down c.loop-y.y _ c.requires.0 c.nearest_place.ensures))

pub returns : goal.returns
returns c =
    let w = writing-done (writing-as c.loop-y.invariant (span-end _ _ _ c.loop-y-test.false)) in
    (w.0 ∙ ap (λ (k : ℕ). c.args.at + k) (length-raster_bytes c.args.s.plane.now c.args.s.raster c.args.s.fits), w.1)
