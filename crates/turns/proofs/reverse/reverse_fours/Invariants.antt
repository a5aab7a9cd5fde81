use mathlib.Core.Path.{◌≡◌}
use Prim.Native.Nat.{◌*◌, ◌+◌, ◌-◌, ◌≤◌}
use lib.ListN.{length}
use Rattle.laws.specs.Puts.{puts}
use Rattle.turns.specs.inner.Stepped.{stepped}
use Rattle.turns.proofs.reverse.reverse_fours.Given as goal

-- the samples that are written begin at the first, or so far behind it that those before them are left
abbrev pub invariant-loop-k : goal.invariant-loop-k
invariant-loop-k g l =
    (l.k ≤ l.m) × (length l.out ≡ length l.initial.out)
    × (l.out ≡ puts l.initial.out (l.at + 8 * ((1 - g.row.BACK) * (l.m - l.k))) (stepped l.plane 2 (l.from - 8 * ((1 - g.row.BACK) * (l.m - l.k))) 0 2 (4 * l.k)))
    × (l.left + l.k ≡ l.m)
