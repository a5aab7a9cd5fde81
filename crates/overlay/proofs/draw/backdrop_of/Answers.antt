use native.Mathlib.Omega.{arith}
use borrow.Author.Rules.{rules}
use Rattle.inputs.proofs.BlendLaws.{sample-product}
use Rattle.overlay.proofs.draw.backdrop_of.Goals as goal

pub overflow_mul-result : goal.overflow_mul-result
overflow_mul-result c = omega (arith, sample-product c.fill_part-fill.result c.args.g.alpha (search rules) (search rules))
