use mathlib.Core.Path.{sym}
use Prim.Native.Nat.{ℕ}
use lib.ListN.{length-replicate}
use Rattle.means.proofs.sums.write_area_row.Goals as goal

pub slice_bounds-write_means-end : goal.slice_bounds-write_means-end
slice_bounds-write_means-end c = sym (length-replicate {A = ℕ} 1024 0)

pub write_means-requires : goal.write_means-requires
write_means-requires c =
    (length-replicate {A = ℕ} 1024 0, c.requires.1)

pub returns : goal.returns
returns c =
    c.write_means.ensures
