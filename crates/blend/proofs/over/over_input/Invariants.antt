use mathlib.Core.Path.{◌≡◌}
use Prim.Native.Nat.{◌+◌, ◌/◌, ◌<◌, ◌≤◌, ℕ}
use lib.Dec.{ltb}
use lib.ListN.{get_or, length}
use Rattle.laws.specs.Pick.{pick}
use Rattle.opaque.specs.inner.Window.{stretch_of}
use Rattle.blend.specs.Overlay.{over_at}
use Rattle.blend.specs.inner.Stripe.{across_at, down_at, layer_with}
use Rattle.blend.proofs.over.over_input.Given as goal

abbrev pub invariant-loop-r : goal.invariant-loop-r
invariant-loop-r l =
    ((stretch_of l.run.half_down l.place.vertical l.fr.form.height).from ≤ l.r) × (length l.acc ≡ length l.initial.acc)
    × ((j : ℕ) → j < l.run.count
    → get_or l.acc j 0
    ≡ pick (ltb ((l.run.start + j) / l.run.columns) l.r)
    (over_at l.top l.part (across_at l.run j) (down_at l.run j) (layer_with l.tray l.fr l.place l.premultiplied) (get_or l.initial.acc j 0)) (get_or l.initial.acc j 0))
