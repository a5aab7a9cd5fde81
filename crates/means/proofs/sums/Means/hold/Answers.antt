use Prim.Native.Nat.{◌-◌, ◌/◌, ◌≤◌}
use native.Mathlib.Omega.{arith}
use Rattle.means.proofs.ColumnLaws.{held-from}
use Rattle.sampling.proofs.FootLaws.{min-le}
use Rattle.means.proofs.sums.Means.hold.Goals as goal
use Rattle.means.proofs.sums.Means.hold.Goals.{After-min-many}

few : (c : After-min-many) → (c.min-many.result ≤ c.args.self.source.raster.across.from - c.args.f.start / 256) × (c.min-many.result ≤ 1024)
few c =
    rw c.min-many.ensures (min-le (c.args.self.source.raster.across.from - c.args.f.start / 256) 1024)

pub covers-requires : goal.covers-requires
covers-requires c = (c.requires.3, c.requires.4)

pub returns-then-covers : goal.returns-then-covers
returns-then-covers c =
    (c.requires.1, c.requires.3, c.requires.4)

pub overflow_sub-self : goal.overflow_sub-self
overflow_sub-self c =
    omega (arith, c.requires.0.positive, c.requires.0.inside)

pub clear-requires : goal.clear-requires
clear-requires c =
    omega (arith, (few (goal.at.clear-requires c).After-min-many).1, c.requires.2)

pub add_rows-requires : goal.add_rows-requires
add_rows-requires c =
    (omega (arith, (few (goal.at.add_rows-requires c).After-min-many).0, c.requires.0.positive, c.requires.0.inside), omega (arith, (few (goal.at.add_rows-requires c).After-min-many).1, c.requires.2, c.clear.auto.sums), c.clear.ensures)

pub overflow_add-result : goal.overflow_add-result
overflow_add-result c =
    omega (arith, (few (goal.at.overflow_add-result c).After-min-many).0, c.requires.0.positive, c.requires.0.inside, c.args.self.source.fits.across.old)

pub returns : goal.returns
returns c = (
  held-from _ _ c.args.self.source.raster c.args.self.down (c.args.f.start / 256) c.min-many.result
      (omega (arith, (few (goal.at.returns c).After-min-many).1, c.requires.2, c.clear.auto.sums, c.add_rows.auto.sums))
      c.add_rows.ensures,
  omega (arith, c.requires.0.positive, c.requires.0.inside, c.args.self.source.fits.across.old),
  omega (arith, (few (goal.at.returns c).After-min-many).0, c.requires.0.positive, c.requires.0.inside, c.args.self.source.fits.across.old),
)
