use mathlib.Core.Path.{◌∙◌, ◌≡◌, ap}
use Prim.Native.Nat.{◌*◌, ◌+◌, ◌-◌, ◌/◌, ◌<◌, ◌^◌, ℕ}
use native.Mathlib.Nat.{div-le_self}
use native.Mathlib.Omega.{arith}
use Rattle.laws.specs.Pick.{pick}
use Rattle.image.specs.Format.{top_at}
use Rattle.inputs.proofs.BlendLaws.{sample-product, under-small}
use Rattle.blend.proofs.TopLaws.{share-low, top-is}
use Rattle.blend.specs.Overlay.{over_colour}
use Rattle.blend.proofs.row.pair_colour.Goals as goal
use Rattle.blend.proofs.row.pair_colour.Goals.{After-by_top-under, After-saturating_sub, Start}

low : (c : After-saturating_sub) → c.args.v * c.saturating_sub.result + c.args.top / 2 < top_at c.args.d * top_at c.args.d * 2 ^ c.args.d
low c = share-low c.args.d c.args.top c.requires.0 c.args.v c.saturating_sub.result c.requires.1 (omega (arith, c.saturating_sub.ensures))

fits : (c : After-saturating_sub) → c.args.v * c.saturating_sub.result + c.args.top / 2 < 2 ^ 49
fits c = under-small c.args.v c.args.top c.saturating_sub.result (omega arith) (omega arith) (omega (arith, c.saturating_sub.ensures))

share : (c : After-by_top-under) → (c.by_top-under.result ≡ (c.args.v * (c.args.top - c.args.a) + c.args.top / 2) / c.args.top) × (c.by_top-under.result < 2 ^ 49)
share c = (
  c.by_top-under.ensures ∙ top-is _ _ c.requires.0 _ ∙ ap (λ (r : ℕ). (c.args.v * r + c.args.top / 2) / c.args.top) c.saturating_sub.ensures,
  omega (arith, c.by_top-under.ensures, fits (goal.at.After-by_top-under c).After-saturating_sub, div-le_self (c.args.v * c.saturating_sub.result + c.args.top / 2) (top_at c.args.d)),
)

square : (c : Start) → (c.args.m * c.args.top < 2 ^ 32) × (c.args.m * c.args.a < 2 ^ 32) × (c.args.top * c.args.top < 2 ^ 32)
square c = (sample-product c.args.m c.args.top (omega arith) (omega arith), sample-product c.args.m c.args.a (omega arith) (omega arith), sample-product c.args.top c.args.top (omega arith) (omega arith))

pub overflow_mul-v : goal.overflow_mul-v
overflow_mul-v c = omega (arith, fits c)

pub overflow_add-v : goal.overflow_add-v
overflow_add-v c = omega (arith, fits c)

pub by_top-under-requires : goal.by_top-under-requires
by_top-under-requires c = (c.requires.0.low, c.requires.0.high, low c)

pub overflow_mul-m : goal.overflow_mul-m
overflow_mul-m c =
    omega (arith, square (goal.at.overflow_mul-m c).Start)

pub overflow_add-m : goal.overflow_add-m
overflow_add-m c =
    omega (arith, square (goal.at.overflow_add-m c).Start, share (goal.at.overflow_add-m c).After-by_top-under)

pub overflow_mul-t : goal.overflow_mul-t
overflow_mul-t c =
    omega (arith, square (goal.at.overflow_mul-t c).Start)

pub overflow_cast-result : goal.overflow_cast-result
overflow_cast-result c =
    omega (arith, c.min.ensures, square (goal.at.overflow_cast-result c).Start)

pub returns-then-premultiplied : goal.returns-then-premultiplied
unfolding over_colour pick
returns-then-premultiplied c = rw (c.if-premultiplied.true, ← (share (goal.at.returns-then-premultiplied c).After-by_top-under).0) c.min.ensures

pub overflow_mul-m-else-premultiplied : goal.overflow_mul-m-else-premultiplied
overflow_mul-m-else-premultiplied c =
    omega (arith, square (goal.at.overflow_mul-m-else-premultiplied c).Start)

pub overflow_add-m-else-premultiplied : goal.overflow_add-m-else-premultiplied
overflow_add-m-else-premultiplied c =
    omega (arith, square (goal.at.overflow_add-m-else-premultiplied c).Start, share (goal.at.overflow_add-m-else-premultiplied c).After-by_top-under)

pub overflow_mul-t-else-premultiplied : goal.overflow_mul-t-else-premultiplied
overflow_mul-t-else-premultiplied c =
    omega (arith, square (goal.at.overflow_mul-t-else-premultiplied c).Start)

pub overflow_cast-result-else-premultiplied : goal.overflow_cast-result-else-premultiplied
overflow_cast-result-else-premultiplied c =
    omega (arith, c.min-else-premultiplied.ensures, square (goal.at.overflow_cast-result-else-premultiplied c).Start)

pub returns-else-premultiplied : goal.returns-else-premultiplied
unfolding over_colour pick
returns-else-premultiplied c = rw (c.if-premultiplied.false, ← (share (goal.at.returns-else-premultiplied c).After-by_top-under).0) c.min-else-premultiplied.ensures
