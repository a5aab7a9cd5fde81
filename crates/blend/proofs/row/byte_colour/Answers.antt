use Prim.Native.Nat.{◌*◌, ◌-◌, ◌≤◌}
use native.Mathlib.Omega.{arith}
use Rattle.laws.proofs.Order.{mul-below}
use Rattle.laws.specs.Pick.{pick}
use Rattle.blend.specs.Overlay.{over_colour}
use Rattle.blend.proofs.row.byte_colour.Goals as goal
use Rattle.blend.proofs.row.byte_colour.Goals.{Start}

under : (c : Start) → c.args.v * (255 - c.args.a) ≤ 16581375
under c = mul-below 65025 255 c.args.v (255 - c.args.a) c.requires.2 (omega arith)

share : (c : Start) → c.args.m * c.args.a ≤ 65025
share c = mul-below 255 255 c.args.m c.args.a c.requires.0 c.requires.1

pub overflow_mul-under : goal.overflow_mul-under
overflow_mul-under c = omega (arith, under c)

pub overflow_add-under : goal.overflow_add-under
overflow_add-under c = omega (arith, under c)

pub overflow_add-m : goal.overflow_add-m
overflow_add-m c = omega (arith, under (goal.at.overflow_add-m c).Start, c.requires.0)

pub returns-then-premultiplied : goal.returns-then-premultiplied
unfolding over_colour pick
returns-then-premultiplied c = rw c.if-premultiplied.true c.min.ensures

pub overflow_mul-m-else-premultiplied : goal.overflow_mul-m-else-premultiplied
overflow_mul-m-else-premultiplied c = omega (arith, share (goal.at.overflow_mul-m-else-premultiplied c).Start)

pub overflow_add-m-else-premultiplied : goal.overflow_add-m-else-premultiplied
overflow_add-m-else-premultiplied c = omega (arith, under (goal.at.overflow_add-m-else-premultiplied c).Start, share (goal.at.overflow_add-m-else-premultiplied c).Start)

pub returns-else-premultiplied : goal.returns-else-premultiplied
unfolding over_colour pick
returns-else-premultiplied c = rw c.if-premultiplied.false c.min-else-premultiplied.ensures
