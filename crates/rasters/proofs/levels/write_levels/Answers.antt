use mathlib.Core.Path.{◌∙◌, ◌≡◌, ap, sym}
use Prim.Native.Nat.{◌+◌, ◌≤◌, ℕ}
use native.Mathlib.Omega.{arith}
use lib.ListN.{length, length-replicate, length-take, replicate, take}
use Rattle.rasters.proofs.LevelLaws.{table-small}
use Rattle.rasters.proofs.levels.write_levels.Goals as goal
use Rattle.rasters.proofs.levels.write_levels.Goals.{After-top_at}

small : (c : After-top_at) → c.top_at.result + 1 ≤ 4096
small c = rw c.top_at.ensures (table-small c.args.depths c.requires.1.few)

front : (n m : ℕ) → n ≤ m → length (take n (replicate {A = ℕ} m 0)) ≡ n
front n m h = simp (length-take, length-replicate) (omega arith)

pub slice_bounds-table-end : goal.slice_bounds-table-end
slice_bounds-table-end c = small (goal.at.slice_bounds-table-end c).After-top_at

pub slice_bounds-write_by-end : goal.slice_bounds-write_by-end
slice_bounds-write_by-end c = sym (front _ 4096 (small (goal.at.slice_bounds-write_by-end c).After-top_at))

pub write_by-requires : goal.write_by-requires
write_by-requires c = (
  c.requires.0,
  c.requires.1,
  front _ 4096 (small (goal.at.write_by-requires c).After-top_at) ∙ ap (λ (m : ℕ). m + 1) c.top_at.ensures,
  c.requires.2,
)
