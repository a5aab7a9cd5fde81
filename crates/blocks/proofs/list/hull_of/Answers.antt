use Prim.Native.Nat.{◌^◌, ◌≤◌}
use native.Mathlib.Omega.{arith}
use Rattle.laws.proofs.Order.{mul-below}
use Rattle.blocks.proofs.HullLaws.{hull-worked}
use Rattle.blocks.proofs.ListLaws.{stretch-small}
use Rattle.blocks.proofs.list.hull_of.Goals as goal
use Rattle.blocks.proofs.list.hull_of.Goals.{After-reach-down}

ends : (c : After-reach-down) → (c.reach-down.result.from ≤ 2 ^ 32) × (c.reach-down.result.to ≤ 2 ^ 33) × (c.reach-across.result.from ≤ 2 ^ 32) × (c.reach-across.result.to ≤ 2 ^ 33)
ends c = (
  (stretch-small c.args.place.vertical c.args.form.height _ c.reach-down.ensures (omega (arith, c.well_formed))
      (omega (arith, c.well_formed))).0,
  (stretch-small c.args.place.vertical c.args.form.height _ c.reach-down.ensures (omega (arith, c.well_formed))
      (omega (arith, c.well_formed))).1,
  (stretch-small c.args.place.horizontal c.args.form.width _ c.reach-across.ensures (omega (arith, c.well_formed))
      (omega (arith, c.well_formed))).0,
  (stretch-small c.args.place.horizontal c.args.form.width _ c.reach-across.ensures (omega (arith, c.well_formed))
      (omega (arith, c.well_formed))).1,
)

pub returns : goal.returns
returns c =
    hull-worked c.args.columns c.args.place c.args.form _ _ _ _ c.reach-across.ensures c.reach-down.ensures c.saturating_sub.ensures c.min.ensures

pub overflow_mul-result : goal.overflow_mul-result
overflow_mul-result c =
    omega (arith, mul-below (2 ^ 32) (2 ^ 30) _ _ (ends (goal.at.overflow_mul-result c).After-reach-down).0 c.requires)

pub overflow_add-result : goal.overflow_add-result
overflow_add-result c =
    omega (arith, mul-below (2 ^ 32) (2 ^ 30) _ _ (ends (goal.at.overflow_add-result c).After-reach-down).0 c.requires, ends (goal.at.overflow_add-result c).After-reach-down)

pub overflow_mul-result-2 : goal.overflow_mul-result-2
overflow_mul-result-2 c =
    omega (arith, mul-below (2 ^ 33) (2 ^ 30) c.saturating_sub.result _ (omega (arith, ends (goal.at.overflow_mul-result-2 c).After-reach-down, c.saturating_sub.ensures)) c.requires)

pub overflow_add-result-2 : goal.overflow_add-result-2
overflow_add-result-2 c =
    omega (arith, mul-below (2 ^ 33) (2 ^ 30) c.saturating_sub.result _ (omega (arith, ends (goal.at.overflow_add-result-2 c).After-reach-down, c.saturating_sub.ensures)) c.requires, c.min.ensures, c.requires)
