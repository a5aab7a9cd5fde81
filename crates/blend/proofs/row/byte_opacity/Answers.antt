use Prim.Native.Nat.{◌*◌, ◌-◌, ◌≤◌}
use native.Mathlib.Omega.{arith}
use Rattle.laws.proofs.Order.{mul-below}
use Rattle.blend.specs.Overlay.{over_alpha}
use Rattle.blend.proofs.row.byte_opacity.Goals as goal
use Rattle.blend.proofs.row.byte_opacity.Goals.{Start}

under : (c : Start) → c.args.v * (255 - c.args.a) ≤ 16581375
under c = mul-below 65025 255 c.args.v (255 - c.args.a) c.requires.1 (omega arith)

pub overflow_mul-v : goal.overflow_mul-v
overflow_mul-v c = omega (arith, under c)

pub overflow_add-v : goal.overflow_add-v
overflow_add-v c = omega (arith, under c)

pub overflow_add-a : goal.overflow_add-a
overflow_add-a c = omega (arith, under c, c.requires.0)

pub returns : goal.returns
unfolding over_alpha
returns c = c.min.ensures
