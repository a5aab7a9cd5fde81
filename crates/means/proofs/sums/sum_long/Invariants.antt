use Prim.Native.Nat.{◌-◌, ◌/◌, ◌<◌, ◌^◌, ◌≤◌}
use lib.ListN.{get_or}
use Rattle.sampling.proofs.FootLaws.{Weighing}
use Rattle.means.proofs.sums.sum_long.Given as goal

abbrev pub invariant-loop-j : goal.invariant-loop-j
invariant-loop-j l = (l.f.start / 256 < l.j) × (l.j ≤ l.f.end / 256) × Weighing l.f (λ x. get_or l.sums (x - l.first) 0) (2 ^ 32 - 1) l.j l.sum
