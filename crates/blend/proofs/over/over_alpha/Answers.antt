use native.Mathlib.Omega.{arith}
use Rattle.inputs.proofs.BlendLaws.{share-small, under-small}
use Rattle.blend.specs.Overlay.{over_alpha}
use Rattle.blend.proofs.over.over_alpha.Goals as goal

pub overflow_mul-v : goal.overflow_mul-v
overflow_mul-v c = omega (arith, under-small c.args.v c.args.top c.saturating_sub.result (omega arith) (omega arith) (omega (arith, c.saturating_sub.ensures)))

pub overflow_add-v : goal.overflow_add-v
overflow_add-v c = omega (arith, under-small c.args.v c.args.top c.saturating_sub.result (omega arith) (omega arith) (omega (arith, c.saturating_sub.ensures)))

pub overflow_add-a : goal.overflow_add-a
overflow_add-a c = omega (arith, share-small c.args.v c.args.top c.saturating_sub.result (omega arith) (omega arith) (omega (arith, c.saturating_sub.ensures)))

pub returns : goal.returns
unfolding over_alpha
returns c = rw (← c.saturating_sub.ensures) c.min.ensures
