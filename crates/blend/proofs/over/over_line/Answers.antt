use mathlib.Core.Path.{◌∙◌, ap}
use Prim.Native.Nat.{◌*◌, ◌+◌, ◌-◌, ◌<◌, ◌≤◌}
use native.Mathlib.Omega.{arith}
use Rattle.laws.proofs.Order.{within}
use Rattle.image.specs.declared.format.Part.TheVariants.{Alpha}
use Rattle.opaque.proofs.WindowLaws.{stretch-small}
use Rattle.opaque.specs.declared.axis.Stretch.{Stretch}
use Rattle.blend.proofs.ReachLaws.{base-small, row_small}
use Rattle.blend.proofs.StripeLaws.{call-bounds, call_fits, call_none, call-over}
use Rattle.blend.proofs.over.over_line.Goals as goal
use Rattle.blend.proofs.over.over_line.Goals.{Then-a-e}

bounds : (c : Then-a-e)
    → (c.args.r * c.args.run.columns ≤ c.max-a.result)
    × (c.max-a.result - c.args.r * c.args.run.columns < c.args.run.columns) × (c.args.run.start ≤ c.max-a.result)
    × (c.min-e.result ≤ c.args.run.start + c.args.run.count)
bounds c =
    call-bounds c.args.tray.now c.args.fr c.args.place c.args.premultiplied c.args.part c.args.top
    c.args.run c.requires.2 c.args.r c.requires.5 c.requires.4 c.reach-across.result c.min.result
    c.max-a.result c.min-e.result c.reach-across.ensures c.min.ensures c.max-a.ensures
    c.min-e.ensures c.if-a-e.true

pub overflow_mul-row : goal.overflow_mul-row
overflow_mul-row c = omega (arith, c.requires.2.ends, c.requires.4)

pub overflow_add-row : goal.overflow_add-row
overflow_add-row c =
    omega (
      arith,
      c.requires.2.ends,
      c.requires.4,
      ap (λ (q : Stretch). q.from) c.reach-across.ensures,
      stretch-small c.args.run.half_across c.args.place.horizontal c.args.fr.form.width,
      c.well_formed,
    )

pub overflow_add-row-2 : goal.overflow_add-row-2
overflow_add-row-2 c = omega (arith, c.requires.2.ends, c.requires.4, c.min.ensures, c.requires.2.narrow)

pub overflow_add-start : goal.overflow_add-start
overflow_add-start c = omega (arith, c.requires.2.ends)

pub plane_data-plane-requires : goal.plane_data-plane-requires
plane_data-plane-requires c =
    rw c.plane-q.ensures (c.requires.0.planes c.args.part)

pub plane_data-alpha-requires : goal.plane_data-alpha-requires
plane_data-alpha-requires c =
    rw c.plane-qa.ensures (c.requires.0.planes Alpha)

pub overflow_sub-a : goal.overflow_sub-a
overflow_sub-a c = omega (arith, bounds (goal.at.overflow_sub-a c).Then-a-e)

pub first_place-requires : goal.first_place-requires
first_place-requires c =
    omega (arith, bounds (goal.at.first_place-requires c).Then-a-e, c.requires.2.narrow)

pub spot-x-requires : goal.spot-x-requires
spot-x-requires c =
    omega (
      arith,
      bounds (goal.at.spot-x-requires c).Then-a-e,
      c.requires.2.narrow,
      c.first_place.ensures,
      base-small c.args.run.half_across (c.max-a.result - c.args.r * c.args.run.columns),
    )

pub first_place-requires-then-a-e : goal.first_place-requires-then-a-e
first_place-requires-then-a-e c =
    omega (arith, row_small c.args.r c.args.run.columns c.requires.2.wide, c.requires.4, c.requires.2.ends)

pub spot-y-requires : goal.spot-y-requires
spot-y-requires c =
    omega (
      arith,
      row_small c.args.r c.args.run.columns c.requires.2.wide,
      c.requires.4,
      c.requires.2.ends,
      c.first_place-then-a-e.ensures,
      base-small c.args.run.half_down c.args.r,
    )

pub overflow_sub-a-then-a-e : goal.overflow_sub-a-then-a-e
overflow_sub-a-then-a-e c =
    omega (arith, bounds (goal.at.overflow_sub-a-then-a-e c).Then-a-e)

pub overflow_sub-e : goal.overflow_sub-e
overflow_sub-e c =
    omega (arith, c.if-a-e.true)

pub over_row-requires : goal.over_row-requires
over_row-requires c =
    call_fits c.args.tray.now c.args.fr c.args.place c.args.premultiplied c.args.part c.args.top
    c.args.run c.requires.2 c.args.r c.requires.5 c.requires.4 c.reach-across.result c.min.result c.max-a.result
    c.min-e.result c.reach-across.ensures c.min.ensures c.max-a.ensures c.min-e.ensures c.if-a-e.true _ _ c.plane-q.result c.plane-qa.result
    c.first_place.result c.spot-x.result c.first_place-then-a-e.result c.spot-y.result
    c.step_of-step.result c.plane-q.ensures c.plane-qa.ensures c.plane_data-plane.ensures c.plane_data-alpha.ensures c.first_place.ensures
    c.spot-x.ensures c.first_place-then-a-e.ensures c.spot-y.ensures c.step_of-step.ensures _
    c.requires.3 c.requires.0 c.requires.1 c.requires.6

pub returns-then-a-e : goal.returns-then-a-e
unfolding within
returns-then-a-e c =
    λ j h. c.over_row.ensures j
    ∙ call-over c.args.tray.now c.args.fr c.args.place c.args.premultiplied c.args.part c.args.top
    c.args.run c.requires.2 c.args.r c.requires.5 c.requires.4 c.reach-across.result c.min.result c.max-a.result
    c.min-e.result c.reach-across.ensures c.min.ensures c.max-a.ensures c.min-e.ensures c.if-a-e.true _ _ c.plane-q.result c.plane-qa.result
    c.first_place.result c.spot-x.result c.first_place-then-a-e.result c.spot-y.result c.step_of-step.result c.plane-q.ensures c.plane-qa.ensures
    c.plane_data-plane.ensures c.plane_data-alpha.ensures c.first_place.ensures c.spot-x.ensures c.first_place-then-a-e.ensures c.spot-y.ensures c.step_of-step.ensures j
    _ h

pub returns-else-a-e : goal.returns-else-a-e
returns-else-a-e c =
    λ j h. call_none c.args.tray.now c.args.fr c.args.place c.args.premultiplied c.args.part
    c.args.top c.args.run c.requires.2 c.args.r c.requires.5 c.requires.4 c.reach-across.result
    c.min.result c.max-a.result c.min-e.result c.reach-across.ensures c.min.ensures
    c.max-a.ensures c.min-e.ensures c.if-a-e.false j _ h
