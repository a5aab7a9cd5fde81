use mathlib.Core.Path.{refl}
use native.Mathlib.Omega.{arith}
use Rattle.laws.proofs.Order.{mul-below}
use Rattle.sizes.specs.Scale.{scaled_side}
use Rattle.sizes.proofs.iscl.scaled_side.Goals as goal

pub overflow_mul-result : goal.overflow_mul-result
overflow_mul-result c = omega (arith, mul-below 4294967295 65535 c.args.side c.args.num (omega arith) (omega arith))

pub overflow_add-result : goal.overflow_add-result
overflow_add-result c = omega (arith, mul-below 4294967295 65535 c.args.side c.args.num (omega arith) (omega arith))

pub returns : goal.returns
unfolding scaled_side
returns c = refl
