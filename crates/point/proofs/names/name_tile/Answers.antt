use native.Mathlib.Omega.{arith}
use Rattle.point.proofs.PointLaws.{input-small, rows-small}
use Rattle.point.proofs.names.name_tile.Goals as goal

pub overflow_mul-result : goal.overflow_mul-result
overflow_mul-result c = omega (arith, rows-small c.args.t c.args.l c.requires)

pub overflow_add-result : goal.overflow_add-result
overflow_add-result c = omega (arith, input-small c.args.t c.args.l c.requires)
