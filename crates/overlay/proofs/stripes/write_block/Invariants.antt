use mathlib.Core.Path.{◌≡◌}
use Prim.Native.Nat.{◌+◌, ◌-◌, ◌≤◌}
use lib.ListN.{length}
use Rattle.overlay.specs.inner.Block.{backdrop_fill, layers_at}
use Rattle.overlay.specs.inner.Striped.{Continued}
use Rattle.overlay.proofs.stripes.write_block.Given as goal

abbrev pub invariant-loop-s : goal.invariant-loop-s
invariant-loop-s l =
    (l.start ≤ l.s) × (l.s ≤ l.start + l.count) × (length l.out ≡ length l.initial.out) × (length l.colour ≡ length l.initial.colour) × (length l.opacity ≡ length l.initial.opacity)
    × Continued l.plan.form (backdrop_fill l.g) (layers_at l.body l.tray l.premultiplied l.plan) l.start l.s l.initial.out l.out

abbrev pub decreases-loop-s : goal.decreases-loop-s
decreases-loop-s l = l.start + l.count - l.s
