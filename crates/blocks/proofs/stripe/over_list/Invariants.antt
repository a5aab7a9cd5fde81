use mathlib.Core.Path.{◌≡◌}
use Prim.Native.Nat.{◌<◌, ℕ}
use lib.ListN.{get_or, length}
use Rattle.blend.specs.inner.Stripe.{Held, across_at, down_at}
use Rattle.blocks.specs.inner.Listed.{over_entries}
use Rattle.blocks.proofs.stripe.over_list.Given as goal

abbrev pub invariant-loop-k : goal.invariant-loop-k
invariant-loop-k l = (length l.acc ≡ length l.initial.acc) × Held l.top l.acc l.run.count × ((j : ℕ) → j < l.run.count → get_or l.acc j 0 ≡ over_entries l.body l.tray l.premultiplied l.d l.entries l.top l.part (across_at l.run j) (down_at l.run j) l.k (get_or l.initial.acc j 0))
