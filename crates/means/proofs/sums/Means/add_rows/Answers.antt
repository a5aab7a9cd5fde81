use mathlib.Core.Path.{◌∙◌, ap, refl}
use Prim.Native.Nat.{◌*◌, ◌+◌, ◌<◌, ◌≤◌, ℕ}
use native.Mathlib.Omega.{arith}
use lib.ListN.{get_or}
use Rattle.planes.specs.Bytes.{sample_in}
use Rattle.means.proofs.ColumnLaws.{sample-few, weighing-zero}
use Rattle.sampling.proofs.FootLaws.{first_past, past-in, weighing-done, weighing-fits, weighing-step}
use Rattle.sampling.specs.Area.{first_of, past_of}
use Rattle.means.specs.inner.Columns.{column_of}
use Rattle.sampling.specs.inner.Sums.{FootIn}
use Rattle.means.proofs.sums.Means.add_rows.Goals as goal
use Rattle.means.proofs.sums.Means.add_rows.Goals.{In-loop-y, Start}

tall : (c : Start) → FootIn c.args.self.down c.args.self.source.raster.down.from
tall c = c.args.self.fits.tall

left : (c : In-loop-y) → c.loop-y.y < past_of c.args.self.down
left c = rw c.loop-y.invariant.0 at c.loop-y-test.true

few : (c : In-loop-y) (x y : ℕ) → sample_in c.args.self.source.plane.now c.args.self.source.raster.bytes c.args.self.source.raster.stride x y ≤ 65535
few c x y = sample-few c.args.self.source.plane.now c.args.self.source.raster.bytes c.args.self.source.raster.stride x y c.args.self.source.bytes

pub overflow_add-past : goal.overflow_add-past
overflow_add-past c =
    omega (arith, (tall (goal.at.overflow_add-past c).Start).inside, c.args.self.source.fits.down.old)

pub loop-y-init : goal.loop-y-init
unfolding first_of past_of
loop-y-init c =
    (refl, refl, omega arith, first_past c.args.self.down (tall (goal.at.loop-y-init c).Start).positive, λ j h. weighing-zero c.args.self.down _ 65535 _ (tall (goal.at.loop-y-init c).Start).positive (c.requires.2 j h))

pub weight-w-requires : goal.weight-w-requires
weight-w-requires c =
    ((tall (goal.at.weight-w-requires c).Start).positive, omega (arith, (tall (goal.at.weight-w-requires c).Start).inside, c.args.self.source.fits.down.old), c.loop-y.invariant.2, left (goal.at.weight-w-requires c).In-loop-y)

pub add_row-requires : goal.add_row-requires
add_row-requires c =
    record {
      positive = c.args.self.source.fits.positive;
      bounded = c.args.self.source.fits.bounded;
      room = omega (arith, c.requires.1, c.loop-y.invariant.1);
      small = omega (arith, c.requires.0, c.args.self.source.fits.across.old);
      inside = λ x h. c.args.self.source.fits.inside x c.loop-y.y (omega (arith, h, c.requires.0))
          (past-in c.args.self.down _ c.loop-y.y (tall (goal.at.add_row-requires c).Start) (left (goal.at.add_row-requires c).In-loop-y));
      fits = λ j h. omega (
        arith,
        weighing-fits c.args.self.down
            (λ v. sample_in c.args.self.source.plane.now c.args.self.source.raster.bytes c.args.self.source.raster.stride (c.args.first + j) v) 65535
            (tall (goal.at.add_row-requires c).Start).positive c.loop-y.y (get_or c.loop-y.sums j 0) (c.loop-y.invariant.4 j h) (left (goal.at.add_row-requires c).In-loop-y)
            (few (goal.at.add_row-requires c).In-loop-y (c.args.first + j) c.loop-y.y),
        c.args.self.fits.short,
        ap (λ (w : ℕ). sample_in c.args.self.source.plane.now c.args.self.source.raster.bytes c.args.self.source.raster.stride (c.args.first + j) c.loop-y.y * w)
            c.weight-w.ensures.0,
      );
    }

pub loop-y-preserved : goal.loop-y-preserved
loop-y-preserved c = (
  c.loop-y.invariant.0,
  c.add_row.auto.sums ∙ c.loop-y.invariant.1,
  omega (arith, c.loop-y.invariant.2),
  omega (arith, left (goal.at.loop-y-preserved c).In-loop-y),
  λ j h. weighing-step c.args.self.down
      (λ v. sample_in c.args.self.source.plane.now c.args.self.source.raster.bytes c.args.self.source.raster.stride (c.args.first + j) v) 65535
      (tall (goal.at.loop-y-preserved c).Start).positive c.loop-y.y (get_or c.loop-y.sums j 0) (c.loop-y.invariant.4 j h) (left (goal.at.loop-y-preserved c).In-loop-y)
      (few (goal.at.loop-y-preserved c).In-loop-y (c.args.first + j) c.loop-y.y) _
      (c.add_row.ensures j h
      ∙ ap (λ (w : ℕ). get_or c.loop-y.sums j 0
      + sample_in c.args.self.source.plane.now c.args.self.source.raster.bytes c.args.self.source.raster.stride (c.args.first + j) c.loop-y.y * w)
      c.weight-w.ensures.0),
)

pub returns : goal.returns
unfolding column_of
returns c =
    λ j h. (weighing-done c.args.self.down _ 65535 (tall (goal.at.returns c).Start).positive c.loop-y.y _ (c.loop-y.invariant.4 j h) (rw c.loop-y.invariant.0 at c.loop-y-test.false)).0
