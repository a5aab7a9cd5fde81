use mathlib.Core.Path.{◌∙◌, ◌≡◌, ap, sym}
use Prim.Native.Nat.{◌*◌, ◌-◌, ◌^◌, ◌≤◌, ℕ}
use native.Mathlib.Omega.{arith}
use borrow.Author.Rules.{Fits-under}
use Rattle.means.proofs.ColumnLaws.{columns-few, columns-mean, covered-by, held-columns, mean-sample, means-area}
use Rattle.sampling.proofs.FootLaws.{whole-small}
use Rattle.sampling.specs.Area.{first_of, past_of, weighed}
use Rattle.sampling.specs.Rounded.{rounded}
use Rattle.means.specs.inner.Columns.{column_of}
use Rattle.means.proofs.sums.Means.held_mean.Goals as goal
use Rattle.means.proofs.sums.Means.held_mean.Goals.{After-sum_across-sum, Start, Then-covers}

inside : (c : Then-covers) → (c.args.held.first ≤ first_of c.args.f) × (past_of c.args.f ≤ c.args.held.past)
inside c =
    covered-by c.args.f c.args.held (sym c.covers.ensures ∙ c.if-covers.true)

whole : (c : Start) → (1 ≤ (c.args.f.end - c.args.f.start) * (c.args.self.down.end - c.args.self.down.start)) × ((c.args.f.end - c.args.f.start) * (c.args.self.down.end - c.args.self.down.start) ≤ 2 ^ 46)
whole c = whole-small c.args.f c.args.self.down _ _ c.requires.0 c.args.self.fits.tall c.args.self.fits.size

total : (c : After-sum_across-sum) → c.sum_across-sum.result ≡ weighed c.args.f (column_of c.args.self.source.plane.now c.args.self.source.raster c.args.self.down)
total c =
    c.sum_across-sum.ensures
    ∙ held-columns c.args.self.source.plane.now c.args.self.source.raster c.args.f c.args.self.down c.args.self.fits c.requires.0
    c.args.self.source.bytes c.args.sums.now c.args.held c.requires.1
    (inside (goal.at.After-sum_across-sum c).Then-covers).0 (inside (goal.at.After-sum_across-sum c).Then-covers).1

few : (c : After-sum_across-sum) → c.sum_across-sum.result ≤ 65535 * ((c.args.f.end - c.args.f.start) * (c.args.self.down.end - c.args.self.down.start))
few c =
    rw (total c) (columns-few c.args.self.source.plane.now c.args.self.source.raster c.args.f c.args.self.down c.args.self.fits c.requires.0 c.args.self.source.bytes)

pub sum_across-sum-requires : goal.sum_across-sum-requires
sum_across-sum-requires c =
    (c.requires.0.positive, omega (arith, c.requires.0.inside, c.args.self.source.fits.across.old), (inside c).0, omega (arith, (inside c).1, c.requires.1.room), c.requires.2)

pub overflow_sub-down : goal.overflow_sub-down
overflow_sub-down c =
    omega (arith, c.args.self.fits.tall.positive)

pub round-requires : goal.round-requires
round-requires c =
    ((whole (goal.at.round-requires c).Start).0, omega (arith, (whole (goal.at.round-requires c).Start).1, few (goal.at.round-requires c).After-sum_across-sum), omega (arith, (whole (goal.at.round-requires c).Start).1))

pub overflow_cast-result : goal.overflow_cast-result
overflow_cast-result c =
    Fits-under _ _ 65536 (rw (c.round.ensures, total (goal.at.overflow_cast-result c).After-sum_across-sum) (mean-sample c.args.self.source.plane.now c.args.self.source.raster c.args.f c.args.self.down c.args.self.fits c.requires.0 c.args.self.source.bytes)) tt

pub returns-then-covers : goal.returns-then-covers
returns-then-covers c =
    c.round.ensures
    ∙ ap (λ (n : ℕ). rounded n ((c.args.f.end - c.args.f.start) * (c.args.self.down.end - c.args.self.down.start)))
    (total (goal.at.returns-then-covers c).After-sum_across-sum)
    ∙ columns-mean c.args.self.source.plane.now c.args.self.source.raster c.args.f c.args.self.down c.args.self.fits c.requires.0
    c.args.self.source.bytes

pub area_sample-requires : goal.area_sample-requires
area_sample-requires c =
    means-area c.args.self.source.plane.now c.args.self.source.raster c.args.f c.args.self.down c.args.self.source.fits c.args.self.fits c.requires.0
