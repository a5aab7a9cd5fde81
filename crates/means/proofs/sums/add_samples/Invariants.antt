use mathlib.Core.Path.{◌≡◌}
use Prim.Native.Nat.{◌*◌, ◌+◌, ◌<◌, ◌≤◌, ℕ}
use lib.ListN.{get_or, length}
use Rattle.planes.specs.Bytes.{sample_in}
use Rattle.means.proofs.sums.add_samples.Given as goal

abbrev pub invariant-loop-j : goal.invariant-loop-j
invariant-loop-j g l =
    (l.j ≤ l.many) × (length l.sums ≡ length l.initial.sums)
    × ((i : ℕ) → i < l.j → get_or l.sums i 0 ≡ get_or l.initial.sums i 0 + sample_in l.plane l.r.bytes l.r.stride (l.first + i) l.y * l.w)
    × ((i : ℕ) → l.j ≤ i → get_or l.sums i 0 ≡ get_or l.initial.sums i 0)
