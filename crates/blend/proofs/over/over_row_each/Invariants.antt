use mathlib.Core.Path.{◌≡◌}
use Prim.Native.Nat.{◌*◌, ◌+◌, ◌-◌, ℕ}
use lib.ListN.{get_or, length}
use Rattle.laws.proofs.Order.{within}
use Rattle.laws.specs.Pick.{pick}
use Rattle.blend.specs.inner.Stripe.{row_over}
use Rattle.blend.proofs.over.over_row_each.Given as goal

abbrev pub invariant-loop-i : goal.invariant-loop-i
invariant-loop-i l = (length l.acc ≡ length l.initial.acc) × ((j : ℕ) → get_or l.acc j 0 ≡ pick (within l.k l.i j) (row_over l.plane l.alpha l.s (l.x + (j - l.k) * l.step) l.y (get_or l.initial.acc j 0)) (get_or l.initial.acc j 0))
