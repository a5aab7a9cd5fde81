use mathlib.Core.List.{List, ◌++◌}
use mathlib.Core.Path.{◌∙◌, ◌≡◌, ap, sym}
use Prim.Native.Nat.{◌*◌, ◌+◌, ◌<◌, ◌≤◌, ℕ}
use lib.ListN.{length}
use Rattle.laws.proofs.Span.{span-end, span-step}
use Rattle.laws.proofs.Writing.{writing-as, writing-done, writing-fits, writing-run, writing_start}
use Rattle.laws.specs.Puts.{puts}
use Rattle.laws.specs.Span.{span}
use Rattle.sampling.proofs.RedrawLaws.{length-raster_bytes, length-raster_row, row_fits}
use Rattle.sampling.specs.inner.Redraw.{raster_bytes, raster_row, row_of}
use Rattle.sampling.specs.declared.raster.RowRule.{RowRule}
use Rattle.rasters.proofs.write.write_each.Goals as goal
use Rattle.rasters.proofs.write.write_each.Goals.{In-loop-y}

-- the row y
module _ (c : In-loop-y) where
  abbrev item : ℕ → List ℕ
  item v = raster_row c.args.s.plane.now c.args.s.raster (row_of c.args.s.raster.rule c.args.s.raster.down v)

  left : c.loop-y.y < c.args.s.raster.down.to
  left = c.loop-y-test.true

  step : span item c.loop-y.y c.args.s.raster.down.to ≡ item c.loop-y.y ++ span item (c.loop-y.y + 1) c.args.s.raster.down.to
  step = span-step item c.loop-y.y c.args.s.raster.down.to left

  long : length (item c.loop-y.y) ≡ c.args.s.raster.across.to * c.args.s.raster.to_bytes
  long = length-raster_row c.args.s.plane.now c.args.s.raster _ c.args.s.fits

  room : c.loop-y.i + c.args.s.raster.across.to * c.args.s.raster.to_bytes ≤ length c.loop-y.out
  room = rw (← long) (writing-fits (item c.loop-y.y) _ (writing-as c.loop-y.invariant step))

pub loop-y-init : goal.loop-y-init
unfolding raster_bytes
loop-y-init c = (writing_start _ _ _ (rw (length-raster_bytes c.args.s.plane.now c.args.s.raster c.args.s.fits) c.requires.1))

pub row_rule-requires : goal.row_rule-requires
row_rule-requires c = (c.requires.0, left (goal.at.row_rule-requires c).In-loop-y)

pub write_row-i-requires : goal.write_row-i-requires
write_row-i-requires c = (
  rw c.row_rule.ensures (row_fits _ _ _ _ c.requires.0 c.args.s.fits.down (left (goal.at.write_row-i-requires c).In-loop-y)),
  room (goal.at.write_row-i-requires c).In-loop-y,
)

pub loop-y-preserved : goal.loop-y-preserved
loop-y-preserved c =
    writing-run (item (goal.at.loop-y-preserved c).In-loop-y c.loop-y.y) (writing-as c.loop-y.invariant (step (goal.at.loop-y-preserved c).In-loop-y))
    (c.write_row-i.ensures.0 ∙ ap (λ (k : ℕ). c.loop-y.i + k) (sym (long (goal.at.loop-y-preserved c).In-loop-y)))
    (c.write_row-i.ensures.1
    ∙ ap (λ (q : RowRule). puts c.loop-y.out c.loop-y.i (raster_row c.args.s.plane.now c.args.s.raster q))
    c.row_rule.ensures)

pub returns : goal.returns
returns c =
    let w = writing-done (writing-as c.loop-y.invariant (span-end _ _ _ c.loop-y-test.false)) in
    (w.0 ∙ ap (λ (k : ℕ). c.args.at + k) (length-raster_bytes c.args.s.plane.now c.args.s.raster c.args.s.fits), w.1)
