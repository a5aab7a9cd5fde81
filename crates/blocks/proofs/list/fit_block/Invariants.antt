use Rattle.std.specs.Prelude.{Some}
use mathlib.Core.Path.{◌≡◌}
use Prim.Native.Nat.{◌≤◌, ℕ}
use lib.ListN.{length}
use Rattle.blocks.specs.inner.Listed.{Listed}
use Rattle.blocks.proofs.list.fit_block.Given as goal

abbrev pub invariant-loop-inputs : goal.invariant-loop-inputs
invariant-loop-inputs l = (1 ≤ l.count) × (l.count ≤ l.most) × (length l.entries ≡ length l.initial.entries) × ((m : ℕ) → l.inputs ≡ Some m → (m ≤ 1024) × Listed l.body l.tray l.d l.first l.columns l.start l.count l.entries m)

abbrev pub decreases-loop-inputs : goal.decreases-loop-inputs
decreases-loop-inputs l = l.count
