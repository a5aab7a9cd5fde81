use mathlib.Core.Path.{◌∙◌, ap, sym}
use Prim.Native.Nat.{◌*◌, ◌<◌, ◌^◌, ◌≤◌, ℕ}
use Rattle.planes.specs.Bytes.{sample_in}
use Rattle.sampling.proofs.PlaceLaws.{near-in}
use Rattle.sampling.proofs.RedrawLaws.{area-fits}
use Rattle.sampling.specs.Area.{area_mean}
use Rattle.sampling.specs.inner.Sums.{FootIn}
use Rattle.sampling.specs.Depth.{level_of}
use Rattle.sampling.specs.inner.Redraw.{AreaAxis, RuleRowFits, raster_at, row_at}
use Rattle.sampling.specs.declared.area.Foot.{Foot}
use Rattle.sampling.specs.declared.raster.RowRule.{RowRule}
use Rattle.rasters.proofs.write.row_sample.Goals as goal
use Rattle.rasters.proofs.write.row_sample.Goals.{In-Area, In-Near}

near : (c : In-Near) → c.in-Near.k.y < c.args.s.raster.down.from
unfolding RuleRowFits
near c = rw c.in-Near.is at c.requires.0

far : (c : In-Area)
    → AreaAxis c.args.s.raster.across × FootIn c.in-Area.down c.args.s.raster.down.from
    × (c.args.s.raster.across.from * c.args.s.raster.down.from ≤ 2 ^ 30)
unfolding RuleRowFits
far c = rw c.in-Area.is at c.requires.0

pub sample-requires : goal.sample-requires
sample-requires c = (
  c.args.s.fits.positive,
  c.args.s.fits.bounded,
  c.args.s.fits.inside _ _ (rw c.nearest_place-u.ensures (near-in _ _ _ c.args.s.fits.across.positive c.requires.1))
      (near (goal.at.sample-requires c).In-Near),
)

pub footprint-foot-requires : goal.footprint-foot-requires
footprint-foot-requires c = let k = (far (goal.at.footprint-foot-requires c).In-Area).0 in (c.requires.1, c.args.s.fits.across.positive, k.new, k.old)

pub area_sample-requires : goal.area_sample-requires
area_sample-requires c = rw c.footprint-foot.ensures (area-fits _ _ _ _ c.args.s.fits (rw c.in-Area.is at c.requires.0) c.requires.1)

pub returns-in-Near : goal.returns-in-Near
unfolding raster_at row_at
returns-in-Near c =
    c.level.ensures
    ∙ ap (level_of c.in-Near.k.depths.old c.in-Near.k.depths.new)
    (c.sample.ensures
    ∙ ap (λ (u : ℕ). sample_in c.args.s.plane.now c.args.s.raster.bytes c.args.s.raster.stride u c.in-Near.k.y)
    c.nearest_place-u.ensures)
    ∙ sym (ap (λ (q : RowRule). raster_at c.args.s.plane.now c.args.s.raster q c.args.x) c.in-Near.is)

pub returns-in-Area : goal.returns-in-Area
unfolding raster_at row_at
returns-in-Area c =
    c.area_sample.ensures
    ∙ ap (λ (f : Foot). area_mean f c.in-Area.down
    (λ x y. sample_in c.args.s.plane.now c.args.s.raster.bytes c.args.s.raster.stride x y))
    c.footprint-foot.ensures
    ∙ sym (ap (λ (q : RowRule). raster_at c.args.s.plane.now c.args.s.raster q c.args.x) c.in-Area.is)
