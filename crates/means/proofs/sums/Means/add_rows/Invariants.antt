use mathlib.Core.Path.{◌≡◌}
use Prim.Native.Nat.{◌+◌, ◌<◌, ◌≤◌, ℕ}
use lib.ListN.{get_or, length}
use Rattle.planes.specs.Bytes.{sample_in}
use Rattle.sampling.proofs.FootLaws.{Weighing}
use Rattle.sampling.specs.Area.{first_of, past_of}
use Rattle.means.proofs.sums.Means.add_rows.Given as goal

abbrev pub invariant-loop-y : goal.invariant-loop-y
invariant-loop-y l =
    (l.past ≡ past_of l.self.down) × (length l.sums ≡ length l.initial.sums) × (first_of l.self.down ≤ l.y) × (l.y ≤ past_of l.self.down)
    × ((j : ℕ) → j < l.many → Weighing l.self.down (λ v. sample_in l.self.source.plane.now l.self.source.raster.bytes l.self.source.raster.stride (l.first + j) v) 65535 l.y (get_or l.sums j 0))
