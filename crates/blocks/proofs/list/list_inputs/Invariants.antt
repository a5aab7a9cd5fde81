use mathlib.Core.Path.{◌≡◌}
use Prim.Native.Nat.{◌≤◌}
use lib.ListN.{length}
use Rattle.blocks.specs.inner.Listed.{Listing}
use Rattle.blocks.proofs.list.list_inputs.Given as goal

abbrev pub invariant-loop-i : goal.invariant-loop-i
invariant-loop-i l = (length l.entries ≡ length l.initial.entries) × (l.n ≤ 1024) × Listing l.body l.tray l.d l.first l.columns l.start l.count l.entries l.n l.i l.at
