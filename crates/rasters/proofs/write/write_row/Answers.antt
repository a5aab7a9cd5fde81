use mathlib.Core.Path.{◌∙◌, ap, sym}
use Prim.Native.Nat.{◌*◌, ◌+◌, ℕ}
use native.Mathlib.Omega.{arith}
use Rattle.laws.specs.Puts.{puts}
use Rattle.rasters.proofs.LevelLaws.{apart-small, apart-step, area-means, area-row, area-some, near-row, row_apart}
use Rattle.sampling.specs.inner.Redraw.{raster_row}
use Rattle.rasters.proofs.write.write_row.Goals as goal

pub overflow_mul-step : goal.overflow_mul-step
overflow_mul-step c =
    omega (arith, apart-step c.args.s.raster c.args.s.fits.across.old c.args.s.fits.bounded)

pub overflow_mul-from : goal.overflow_mul-from
overflow_mul-from c =
    omega (arith, apart-small _ _ _ (row_apart c.args.s.plane.now c.args.s.raster c.in-Near.k _ _ (omega arith) c.args.s.fits c.requires.0 c.in-Near.is c.has_steps.ensures c.if-has_steps.true) c.args.s.fits.across.made)

pub write_apart-requires : goal.write_apart-requires
write_apart-requires c =
    let a = row_apart c.args.s.plane.now c.args.s.raster c.in-Near.k _ _ (omega arith) c.args.s.fits c.requires.0 c.in-Near.is c.has_steps.ensures c.if-has_steps.true in (a.fits, rw a.bytes c.requires.1)

pub returns-then-has_steps : goal.returns-then-has_steps
returns-then-has_steps c =
    let a = row_apart c.args.s.plane.now c.args.s.raster c.in-Near.k _ _ (omega arith) c.args.s.fits c.requires.0 c.in-Near.is c.has_steps.ensures c.if-has_steps.true in
    (c.write_apart.ensures.0 ∙ ap (λ (b : ℕ). c.args.at + c.args.s.raster.across.to * b) a.bytes, c.write_apart.ensures.1 ∙ ap (puts c.args.out.now c.args.at) a.row ∙ ap (λ q. puts c.args.out.now c.args.at (raster_row c.args.s.plane.now c.args.s.raster q)) (sym c.in-Near.is))

pub write_samples-requires : goal.write_samples-requires
write_samples-requires c =
    (near-row _ _ _ _ c.in-Near.is c.requires.0, c.requires.1)

pub overflow_sub-down : goal.overflow_sub-down
overflow_sub-down c =
    omega (arith, area-some _ c.args.s.raster.across c.args.s.raster.down.from (area-row _ _ c.args.s.raster.across c.args.s.raster.down.from c.in-Area.is c.requires.0))

pub write_area_row-requires : goal.write_area_row-requires
write_area_row-requires c =
    (area-means _ _ _ c.in-Area.is c.requires.0 c.if-down-le65536.true, c.requires.1)

pub returns-then-down-le65536 : goal.returns-then-down-le65536
returns-then-down-le65536 c =
    (c.write_area_row.ensures.0, c.write_area_row.ensures.1 ∙ sym (ap (λ q. puts c.args.out.now c.args.at (raster_row c.args.s.plane.now c.args.s.raster q)) c.in-Area.is))

pub write_samples-requires-else-down-le65536 : goal.write_samples-requires-else-down-le65536
write_samples-requires-else-down-le65536 c =
    (area-row _ _ _ _ c.in-Area.is c.requires.0, c.requires.1)

pub returns-else-has_steps : goal.returns-else-has_steps
returns-else-has_steps c =
    (c.write_samples.ensures.0, c.write_samples.ensures.1 ∙ sym (ap (λ q. puts c.args.out.now c.args.at (raster_row c.args.s.plane.now c.args.s.raster q)) c.in-Near.is))

pub returns-else-down-le65536 : goal.returns-else-down-le65536
returns-else-down-le65536 c =
    (c.write_samples-else-down-le65536.ensures.0, c.write_samples-else-down-le65536.ensures.1 ∙ sym (ap (λ q. puts c.args.out.now c.args.at (raster_row c.args.s.plane.now c.args.s.raster q)) c.in-Area.is))
