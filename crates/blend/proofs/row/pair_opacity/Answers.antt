use mathlib.Core.Path.{◌∙◌, ◌≡◌, ap}
use Prim.Native.Nat.{◌*◌, ◌+◌, ◌-◌, ◌/◌, ◌<◌, ◌^◌, ℕ}
use native.Mathlib.Nat.{div-le_self}
use native.Mathlib.Omega.{arith}
use Rattle.image.specs.Format.{top_at}
use Rattle.inputs.proofs.BlendLaws.{under-small}
use Rattle.blend.proofs.TopLaws.{share-low, top-is}
use Rattle.blend.specs.Overlay.{over_alpha}
use Rattle.blend.proofs.row.pair_opacity.Goals as goal
use Rattle.blend.proofs.row.pair_opacity.Goals.{After-by_top-under, After-saturating_sub}

low : (c : After-saturating_sub) → c.args.v * c.saturating_sub.result + c.args.top / 2 < top_at c.args.d * top_at c.args.d * 2 ^ c.args.d
low c = share-low c.args.d c.args.top c.requires.0 c.args.v c.saturating_sub.result c.requires.1 (omega (arith, c.saturating_sub.ensures))

fits : (c : After-saturating_sub) → c.args.v * c.saturating_sub.result + c.args.top / 2 < 2 ^ 49
fits c = under-small c.args.v c.args.top c.saturating_sub.result (omega arith) (omega arith) (omega (arith, c.saturating_sub.ensures))

share : (c : After-by_top-under) → (c.by_top-under.result ≡ (c.args.v * (c.args.top - c.args.a) + c.args.top / 2) / c.args.top) × (c.by_top-under.result < 2 ^ 49)
share c = (
  c.by_top-under.ensures ∙ top-is _ _ c.requires.0 _ ∙ ap (λ (r : ℕ). (c.args.v * r + c.args.top / 2) / c.args.top) c.saturating_sub.ensures,
  omega (arith, c.by_top-under.ensures, fits (goal.at.After-by_top-under c).After-saturating_sub, div-le_self (c.args.v * c.saturating_sub.result + c.args.top / 2) (top_at c.args.d)),
)

pub overflow_mul-v : goal.overflow_mul-v
overflow_mul-v c = omega (arith, fits c)

pub overflow_add-v : goal.overflow_add-v
overflow_add-v c = omega (arith, fits c)

pub by_top-under-requires : goal.by_top-under-requires
by_top-under-requires c = (c.requires.0.low, c.requires.0.high, low c)

pub overflow_add-a : goal.overflow_add-a
overflow_add-a c = omega (arith, share c)

pub returns : goal.returns
unfolding over_alpha
returns c = rw (← (share (goal.at.returns c).After-by_top-under).0) c.min.ensures
