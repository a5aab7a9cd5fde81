use mathlib.Core.List.{List, ◌++◌}
use mathlib.Core.Path.{◌∙◌, ◌≡◌, ap, sym}
use Prim.Native.Nat.{◌+◌, ◌<◌, ◌≤◌, ℕ}
use lib.ListN.{length}
use Rattle.laws.proofs.Span.{span-end, span-step}
use Rattle.laws.proofs.Writing.{writing-as, writing-done, writing-fits, writing-run, writing_start}
use Rattle.laws.specs.Puts.{puts}
use Rattle.laws.specs.Span.{span}
use Rattle.planes.proofs.ByteLaws.{length-sample_bytes}
use Rattle.planes.specs.Bytes.{sample_bytes, samples_of}
use Rattle.sampling.proofs.RedrawLaws.{length-raster_row}
use Rattle.sampling.specs.inner.Redraw.{raster_at, raster_row}
use Rattle.rasters.proofs.write.write_samples.Goals as goal
use Rattle.rasters.proofs.write.write_samples.Goals.{In-loop-x}

-- sample x of the row
module _ (c : In-loop-x) where
  abbrev item : ℕ → List ℕ
  item u = sample_bytes c.args.s.raster.to_bytes (raster_at c.args.s.plane.now c.args.s.raster c.args.row u)

  left : c.loop-x.x < c.args.s.raster.across.to
  left = c.loop-x-test.true

  step : span item c.loop-x.x c.args.s.raster.across.to ≡ item c.loop-x.x ++ span item (c.loop-x.x + 1) c.args.s.raster.across.to
  step = span-step item c.loop-x.x c.args.s.raster.across.to left

  long : length (item c.loop-x.x) ≡ c.args.s.raster.to_bytes
  long = length-sample_bytes c.args.s.raster.to_bytes _ c.args.s.fits.to_positive c.args.s.fits.to_bounded

  room : c.loop-x.i + c.args.s.raster.to_bytes ≤ length c.loop-x.out
  room = rw (← long) (writing-fits (item c.loop-x.x) _ (writing-as c.loop-x.invariant step))

pub loop-x-init : goal.loop-x-init
unfolding raster_row samples_of
loop-x-init c = (writing_start _ _ _ (rw (length-raster_row c.args.s.plane.now c.args.s.raster c.args.row c.args.s.fits) c.requires.1))

pub row_sample-requires : goal.row_sample-requires
row_sample-requires c = (c.requires.0, left (goal.at.row_sample-requires c).In-loop-x)

pub put_sample-i-requires : goal.put_sample-i-requires
put_sample-i-requires c = (c.args.s.fits.to_positive, c.args.s.fits.to_bounded, room (goal.at.put_sample-i-requires c).In-loop-x)

pub loop-x-preserved : goal.loop-x-preserved
loop-x-preserved c =
    writing-run (item (goal.at.loop-x-preserved c).In-loop-x c.loop-x.x) (writing-as c.loop-x.invariant (step (goal.at.loop-x-preserved c).In-loop-x))
    (c.put_sample-i.ensures.0 ∙ ap (λ (k : ℕ). c.loop-x.i + k) (sym (long (goal.at.loop-x-preserved c).In-loop-x)))
    (c.put_sample-i.ensures.1
    ∙ ap (λ (v : ℕ). puts c.loop-x.out c.loop-x.i (sample_bytes c.args.s.raster.to_bytes v)) c.row_sample.ensures)

pub returns : goal.returns
returns c =
    let w = writing-done (writing-as c.loop-x.invariant (span-end _ _ _ c.loop-x-test.false)) in (
      w.0 ∙ ap (λ (k : ℕ). c.args.at + k) (length-raster_row c.args.s.plane.now c.args.s.raster c.args.row c.args.s.fits),
      w.1,
    )
