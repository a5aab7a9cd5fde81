-- composite_grid, from a body and a tray to bytes.
use Rattle.std.specs.Prelude.{List, ℕ}
use Rattle.laws.specs.Out.{Out, and_then, fitted}
use Rattle.records.specs.Tray.{frames_at, taken_of}
use Rattle.records.specs.declared.record.Frame.{Frame}
use Rattle.planes.specs.Bytes.{encode, picture_in}
use Rattle.planes.specs.Picture.{Pic}
use Rattle.grid.specs.Mosaic.{grid_pic}
use Rattle.tiles.specs.Tiles.{count_of, tiles_of}
use Rattle.tiles.specs.declared.judge.Tiles.{Tiles}

unfoldable pub frames_in : List ℕ → Tiles → List Frame
frames_in tray t = taken_of (frames_at (count_of t.desc) tray t.first)

unfoldable pub grid_on : List ℕ → Tiles → Pic
grid_on tray t = grid_pic (picture_in tray (frames_in tray t)) t

unfoldable pub grid_run : List ℕ → List ℕ → ℕ → Out (List ℕ)
grid_run body tray room = and_then (tiles_of body tray) (λ t. fitted room (encode (grid_on tray t)))
