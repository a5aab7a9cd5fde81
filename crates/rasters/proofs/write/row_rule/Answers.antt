use mathlib.Core.Path.{sym}
use Rattle.sampling.specs.inner.Redraw.{RuleFits, row_of}
use Rattle.rasters.proofs.write.row_rule.Goals as goal

pub footprint-requires : goal.footprint-requires
unfolding RuleFits
footprint-requires c = let k = rw c.in-Area.is at c.requires.0 in (c.requires.1, c.args.s.fits.down.positive, k.1.new, k.1.old)

pub returns-in-Near : goal.returns-in-Near
unfolding row_of
returns-in-Near c =
    simp (
      c.in-Near.is,
      sym c.nearest_place.ensures,
    )

pub returns-in-Area : goal.returns-in-Area
unfolding row_of
returns-in-Area c =
    simp (
      c.in-Area.is,
      sym c.footprint.ensures,
    )
