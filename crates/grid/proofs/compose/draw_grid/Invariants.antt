use Rattle.std.specs.Prelude.{Ok}
use mathlib.Core.Path.{◌≡◌}
use Prim.Native.Nat.{◌-◌}
use lib.ListN.{drop}
use Rattle.records.specs.Tray.{frames_at, taken_of}
use Rattle.planes.specs.Bytes.{picture_in}
use Rattle.cells.specs.Cell.{tile_pic}
use Rattle.grid.specs.inner.Stored.{store_tiles}
use Rattle.grid.proofs.compose.draw_grid.Given as goal

abbrev pub invariant-loop-i : goal.invariant-loop-i
invariant-loop-i l = (frames_at (l.count - l.i) l.tray l.next ≡ Ok (drop l.i (taken_of (frames_at l.count l.tray l.initial.next)))) × (l.out ≡ store_tiles l.to.form (λ j. tile_pic l.promoted (picture_in l.tray (taken_of (frames_at l.count l.tray l.initial.next)) j)) l.columns l.i l.initial.out)
