use native.Mathlib.Omega.{arith}
use Rattle.laws.specs.Pick.{pick}
use Rattle.inputs.proofs.BlendLaws.{sample-product, share-small, under-small}
use Rattle.blend.specs.Overlay.{over_colour}
use Rattle.blend.proofs.over.over_colour.Goals as goal

pub overflow_mul-under : goal.overflow_mul-under
overflow_mul-under c = omega (arith, under-small c.args.v c.args.top c.saturating_sub.result (omega arith) (omega arith) (omega (arith, c.saturating_sub.ensures)))

pub overflow_add-under : goal.overflow_add-under
overflow_add-under c = omega (arith, under-small c.args.v c.args.top c.saturating_sub.result (omega arith) (omega arith) (omega (arith, c.saturating_sub.ensures)))

pub overflow_mul-m : goal.overflow_mul-m
overflow_mul-m c = omega (arith, sample-product c.args.m c.args.top (omega arith) (omega arith))

pub overflow_add-m : goal.overflow_add-m
overflow_add-m c = omega (arith, sample-product c.args.m c.args.top (omega arith) (omega arith), share-small c.args.v c.args.top c.saturating_sub.result (omega arith) (omega arith) (omega (arith, c.saturating_sub.ensures)))

pub overflow_mul-t : goal.overflow_mul-t
overflow_mul-t c = omega (arith, sample-product c.args.top c.args.top (omega arith) (omega arith))

pub overflow_cast-result : goal.overflow_cast-result
overflow_cast-result c = omega (arith, c.min.ensures, sample-product c.args.top c.args.top (omega arith) (omega arith))

pub returns-then-premultiplied : goal.returns-then-premultiplied
unfolding over_colour pick
returns-then-premultiplied c = rw (c.if-premultiplied.true, ← c.saturating_sub.ensures) c.min.ensures

pub overflow_mul-m-else-premultiplied : goal.overflow_mul-m-else-premultiplied
overflow_mul-m-else-premultiplied c = omega (arith, sample-product c.args.m c.args.a (omega arith) (omega arith))

pub overflow_add-m-else-premultiplied : goal.overflow_add-m-else-premultiplied
overflow_add-m-else-premultiplied c = omega (arith, sample-product c.args.m c.args.a (omega arith) (omega arith), share-small c.args.v c.args.top c.saturating_sub.result (omega arith) (omega arith) (omega (arith, c.saturating_sub.ensures)))

pub overflow_mul-t-else-premultiplied : goal.overflow_mul-t-else-premultiplied
overflow_mul-t-else-premultiplied c = omega (arith, sample-product c.args.top c.args.top (omega arith) (omega arith))

pub overflow_cast-result-else-premultiplied : goal.overflow_cast-result-else-premultiplied
overflow_cast-result-else-premultiplied c = omega (arith, c.min-else-premultiplied.ensures, sample-product c.args.top c.args.top (omega arith) (omega arith))

pub returns-else-premultiplied : goal.returns-else-premultiplied
unfolding over_colour pick
returns-else-premultiplied c = rw (c.if-premultiplied.false, ← c.saturating_sub.ensures) c.min-else-premultiplied.ensures
