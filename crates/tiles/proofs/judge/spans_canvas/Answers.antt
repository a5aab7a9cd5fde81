use Prim.Native.Nat.{◌-◌, ◌^◌}
use native.Mathlib.Omega.{arith}
use Rattle.laws.proofs.Order.{mul-below}
use Rattle.tiles.proofs.judge.spans_canvas.Goals as goal

pub overflow_mul-t : goal.overflow_mul-t
overflow_mul-t c = omega (arith, mul-below (2 ^ 32 - 1) (2 ^ 32 - 1) c.args.t.width c.args.g.columns (omega arith) (omega arith))

pub overflow_mul-result : goal.overflow_mul-result
overflow_mul-result c = omega (arith, mul-below (2 ^ 32 - 1) (2 ^ 32 - 1) c.args.t.height c.args.g.rows (omega arith) (omega arith))
