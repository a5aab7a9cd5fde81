use mathlib.Core.List.{List, ◌++◌}
use mathlib.Core.Path.{◌∙◌, ◌≡◌, ap, ap₂, refl, sym}
use Prim.Native.Nat.{◌+◌, ◌<◌, ℕ}
use native.Mathlib.Omega.{arith}
use lib.ListN.{length}
use Rattle.laws.proofs.Span.{span-end, span-step}
use Rattle.laws.proofs.Writing.{Writing, writing-as, writing-done, writing-fits, writing-run, writing_start}
use Rattle.laws.specs.Puts.{puts}
use Rattle.laws.specs.Span.{span}
use Rattle.planes.proofs.ByteLaws.{length-sample_bytes}
use Rattle.planes.specs.Bytes.{sample_bytes, sample_in, samples_of}
use Rattle.means.proofs.ColumnLaws.{advance-next, foot-carried, held_none, pace-by, place-first, place-fits}
use Rattle.sampling.proofs.FootLaws.{foot-in}
use Rattle.sampling.proofs.RedrawLaws.{length-raster_row}
use Rattle.sampling.specs.Area.{area_mean, foot_of}
use Rattle.sampling.specs.declared.area.Foot.{Foot}
use Rattle.means.specs.declared.sums.Pace.{Pace}
use Rattle.means.specs.declared.sums.Stand.{Stand}
use Rattle.sampling.specs.declared.raster.RowRule.{RowRule}
use Rattle.means.specs.inner.Columns.{foot_from, pace_of, place_of, stand_of}
use Rattle.sampling.specs.inner.Redraw.{AreaAxis, raster_at, raster_row, row_at}
use Rattle.sampling.specs.inner.Sums.{FootIn}
use Rattle.means.proofs.sums.Means.write_means.Goals as goal
use Rattle.means.proofs.sums.Means.write_means.Goals.{After-advance-t, After-foot_from-f, After-held_mean, In-loop-x, Start}

fits : (c : Start) → AreaAxis c.args.self.source.raster.across
fits c = c.args.self.fits.across

left : (c : In-loop-x) → c.loop-x._x < c.args.self.source.raster.across.to
left c = c.loop-x-test.true

next : (c : After-advance-t) → c.advance-t.result ≡ place_of (pace_of c.args.self.source.raster.across) (c.loop-x._x + 1)
next c =
    c.advance-t.ensures ∙ advance-next (pace_of c.args.self.source.raster.across) c.loop-x._x c.loop-x.s c.stand_at-step.result c.axis_pace-p.result.by c.loop-x.invariant.3 c.loop-x.invariant.1 c.loop-x.invariant.0

footed : (c : After-foot_from-f) →
    c.foot_from-f.result ≡ foot_of c.args.self.source.raster.across.from c.args.self.source.raster.across.to c.loop-x._x
footed c =
    c.foot_from-f.ensures ∙ ap₂ (λ (s t : Stand). foot_from c.args.self.source.raster.across s.at t.at) c.loop-x.invariant.3 (next (goal.at.After-foot_from-f c).After-advance-t) ∙ foot-carried c.args.self.source.raster.across c.loop-x._x

foot-inside : (c : After-foot_from-f) → FootIn c.foot_from-f.result c.args.self.source.raster.across.from
foot-inside c =
    rw (footed c) (foot-in c.args.self.source.raster.across.from c.args.self.source.raster.across.to c.loop-x._x c.args.self.source.fits.across.positive (left (goal.at.After-foot_from-f c).In-loop-x))

item : (c : In-loop-x) (u : ℕ) → List ℕ
item c u =
    sample_bytes c.args.self.source.raster.to_bytes (raster_at c.args.self.source.plane.now c.args.self.source.raster (RowRule.Area c.args.self.down) u)

long : (c : In-loop-x) → length (item c c.loop-x._x) ≡ c.args.self.source.raster.to_bytes
unfolding item
long c =
    length-sample_bytes c.args.self.source.raster.to_bytes _ c.args.self.source.fits.to_positive c.args.self.source.fits.to_bounded

going : (c : In-loop-x)
    → Writing c.args.out.now c.args.at (raster_row c.args.self.source.plane.now c.args.self.source.raster (RowRule.Area c.args.self.down))
    c.loop-x.out c.loop-x.i (item c c.loop-x._x ++ span (item c) (c.loop-x._x + 1) c.args.self.source.raster.across.to)
unfolding item
going c =
    writing-as c.loop-x.invariant.7 (span-step (item c) c.loop-x._x c.args.self.source.raster.across.to (left c))

value : (c : After-held_mean) →
    c.held_mean.result ≡ raster_at c.args.self.source.plane.now c.args.self.source.raster (RowRule.Area c.args.self.down) c.loop-x._x
unfolding raster_at row_at
value c =
    c.held_mean.ensures ∙ ap (λ (f : Foot). area_mean f c.args.self.down (λ x y. sample_in c.args.self.source.plane.now c.args.self.source.raster.bytes c.args.self.source.raster.stride x y)) (footed (goal.at.After-held_mean c).After-foot_from-f)

pub axis_pace-p-requires : goal.axis_pace-p-requires
axis_pace-p-requires c =
    ((fits (goal.at.axis_pace-p-requires c).Start).old, (fits (goal.at.axis_pace-p-requires c).Start).new)

pub stand_at-step-requires : goal.stand_at-step-requires
stand_at-step-requires c =
    rw c.axis_pace-p.ensures (pace-by c.args.self.source.raster.across c.args.self.source.fits.across.made (fits (goal.at.stand_at-step-requires c).Start).new).0

pub stand_at-s-requires : goal.stand_at-s-requires
stand_at-s-requires c =
    rw c.axis_pace-p.ensures (pace-by c.args.self.source.raster.across c.args.self.source.fits.across.made (fits (goal.at.stand_at-s-requires c).Start).new).0

pub loop-x-init : goal.loop-x-init
unfolding raster_row samples_of
loop-x-init c = (
  ap (λ (p : Pace). p.by) c.axis_pace-p.ensures,
  c.stand_at-step.ensures ∙ ap (λ (p : Pace). stand_of p.step p.by) c.axis_pace-p.ensures,
  refl,
  c.stand_at-s.ensures
      ∙ ap (λ (p : Pace). stand_of p.first p.by) c.axis_pace-p.ensures
      ∙ place-first (pace_of c.args.self.source.raster.across),
  held_none _ _ c.args.self.source.raster c.args.self.down,
  omega arith,
  omega arith,
  writing_start _ _ _
      (rw (length-raster_row c.args.self.source.plane.now c.args.self.source.raster (RowRule.Area c.args.self.down) c.args.self.source.fits)
      c.requires.1),
)

pub advance-t-requires : goal.advance-t-requires
advance-t-requires c =
    place-fits c.args.self.source.raster.across c.loop-x._x c.loop-x.s c.stand_at-step.result c.axis_pace-p.result.by c.loop-x.invariant.3 c.loop-x.invariant.1 c.loop-x.invariant.0 c.args.self.source.fits.across.made (fits (goal.at.advance-t-requires c).Start) (left c)

pub foot_from-f-requires : goal.foot_from-f-requires
foot_from-f-requires c =
    (c.args.self.source.fits.across.positive, (fits (goal.at.foot_from-f-requires c).Start).old)

pub hold-held-requires : goal.hold-held-requires
hold-held-requires c =
    (foot-inside (goal.at.hold-held-requires c).After-foot_from-f, c.loop-x.invariant.4, omega (arith, c.loop-x.invariant.2, c.requires.0), c.loop-x.invariant.5, c.loop-x.invariant.6)

pub held_mean-requires : goal.held_mean-requires
held_mean-requires c =
    (foot-inside (goal.at.held_mean-requires c).After-foot_from-f, c.hold-held.ensures.0, omega (arith, c.hold-held.auto.sums, c.loop-x.invariant.2, c.requires.0), c.hold-held.ensures.1, c.hold-held.ensures.2)

pub put_sample-i-requires : goal.put_sample-i-requires
put_sample-i-requires c =
    (c.args.self.source.fits.to_positive, c.args.self.source.fits.to_bounded, rw (← (long (goal.at.put_sample-i-requires c).In-loop-x)) (writing-fits (item (goal.at.put_sample-i-requires c).In-loop-x c.loop-x._x) _ (going (goal.at.put_sample-i-requires c).In-loop-x)))

pub loop-x-preserved : goal.loop-x-preserved
unfolding item
loop-x-preserved c = (
  c.loop-x.invariant.0,
  c.loop-x.invariant.1,
  c.hold-held.auto.sums ∙ c.loop-x.invariant.2,
  next (goal.at.loop-x-preserved c).After-advance-t,
  c.hold-held.ensures.0,
  c.hold-held.ensures.1,
  c.hold-held.ensures.2,
  writing-run (item (goal.at.loop-x-preserved c).In-loop-x c.loop-x._x) (going (goal.at.loop-x-preserved c).In-loop-x)
      (c.put_sample-i.ensures.0 ∙ ap (λ (k : ℕ). c.loop-x.i + k) (sym (long (goal.at.loop-x-preserved c).In-loop-x)))
      (c.put_sample-i.ensures.1
      ∙ ap (λ (v : ℕ). puts c.loop-x.out c.loop-x.i (sample_bytes c.args.self.source.raster.to_bytes v)) (value (goal.at.loop-x-preserved c).After-held_mean)),
)

pub returns : goal.returns
returns c =
    let w = writing-done (writing-as c.loop-x.invariant.7 (span-end _ _ _ c.loop-x-test.false)) in (
      w.0
          ∙ ap (λ (k : ℕ). c.args.at + k)
          (length-raster_row c.args.self.source.plane.now c.args.self.source.raster (RowRule.Area c.args.self.down) c.args.self.source.fits),
      w.1,
    )
