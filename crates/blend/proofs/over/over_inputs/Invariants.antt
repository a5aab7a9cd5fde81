use mathlib.Core.Path.{◌≡◌}
use Prim.Native.Nat.{◌-◌, ◌<◌, ℕ}
use lib.ListN.{get_or, length}
use Rattle.blend.specs.inner.Stripe.{Held, across_at, down_at}
use Rattle.records.specs.inner.Frames.{frames_from}
use Rattle.blend.specs.Overlay.{over_all}
use Rattle.inputs.specs.Layers.{layers_of}
use Rattle.blend.proofs.over.over_inputs.Given as goal

abbrev pub invariant-loop-i : goal.invariant-loop-i
invariant-loop-i l =
    (length l.acc ≡ length l.initial.acc) × Held l.top l.acc l.run.count
    × ((j : ℕ) → j < l.run.count
    → over_all l.top l.part (across_at l.run j) (down_at l.run j) (layers_of l.body l.tray l.premultiplied l.d 0 (frames_from l.d.count l.tray l.first)) (get_or l.initial.acc j 0)
    ≡ over_all l.top l.part (across_at l.run j) (down_at l.run j) (layers_of l.body l.tray l.premultiplied l.d l.i (frames_from (l.d.count - l.i) l.tray l.at)) (get_or l.acc j 0))
