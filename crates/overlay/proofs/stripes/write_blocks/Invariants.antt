use mathlib.Core.Path.{◌≡◌}
use Prim.Native.Nat.{◌*◌, ◌-◌, ◌≤◌}
use lib.ListN.{length}
use Rattle.overlay.specs.inner.Block.{backdrop_fill, layers_at}
use Rattle.overlay.specs.inner.Striped.{Continued}
use Rattle.overlay.proofs.stripes.write_blocks.Given as goal

abbrev pub invariant-loop-start : goal.invariant-loop-start
invariant-loop-start l =
    (l.start ≤ l.plan.form.height * l.plan.form.width) × (1 ≤ l.most) × (length l.out ≡ length l.initial.out) × (length l.colour ≡ length l.initial.colour)
    × (length l.opacity ≡ length l.initial.opacity) × (length l.entries ≡ length l.initial.entries)
    × Continued l.plan.form (backdrop_fill l.g) (layers_at l.body l.tray l.premultiplied l.plan) 0 l.start l.initial.out l.out

abbrev pub decreases-loop-start : goal.decreases-loop-start
decreases-loop-start l = l.plan.form.height * l.plan.form.width - l.start
