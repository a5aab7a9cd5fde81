-- What the functions of this crate hand to each other: everything before the place as the code holds it, and a place of the canvas.
use Rattle.std.specs.Prelude.{List, ◌*◌, ◌<◌, ◌≤◌, ℕ, Ok, Err}
use Rattle.laws.specs.Out.{Out}
use Rattle.derived.specs.inner.Sound.{OverlaySound}
use Rattle.sizes.specs.Sound.{Inside}
use Rattle.motions.specs.Place.{Place}
use Rattle.sight.specs.inner.Bounded.{Bounded}
use Rattle.sight.specs.declared.CanvasPlace.{CanvasPlace}
use Rattle.tiles.specs.declared.judge.Tiles.{Tiles}
use Rattle.records.specs.inner.Frames.{frames_from}
use Rattle.point.specs.Point.{Look, grid_names, overlay_names}
use Rattle.point.specs.declared.look.GridLook.{GridLook}
use Rattle.point.specs.declared.look.OverlayLook.{OverlayLook}

-- the code's place
abbrev pub place_in : CanvasPlace → Place
place_in l = record { x = l.x; y = l.y }

-- what the code holds before the place
abbrev pub grid_looked : GridLook → Look
grid_looked k = record { sight = k.sight; names = grid_names k.tiles }

abbrev pub overlay_looked : List ℕ → List ℕ → OverlayLook → Look
overlay_looked body tray k =
    record { sight = k.sight; names = overlay_names body (record { descriptor = k.descriptor; frames = frames_from k.descriptor.count tray k.first }) }

abbrev pub grid_look_out : Out GridLook → Out Look
grid_look_out (Ok k) = Ok (grid_looked k)
grid_look_out (Err e) = Err e

abbrev pub overlay_look_out : List ℕ → List ℕ → Out OverlayLook → Out Look
overlay_look_out body tray (Ok k) = Ok (overlay_looked body tray k)
overlay_look_out body tray (Err e) = Err e

-- tiles that cover their canvas, and a rectangle of it
pub record GridHeld (k : GridLook) : Type 0 where
  pub wide : 1 ≤ k.tiles.tile.width
  pub tall : 1 ≤ k.tiles.tile.height
  pub columns : k.tiles.desc.columns ≤ 256
  pub rows : k.tiles.desc.rows ≤ 256
  pub cover_x : k.tiles.desc.output_width ≤ k.tiles.tile.width * k.tiles.desc.columns
  pub cover_y : k.tiles.desc.output_height ≤ k.tiles.tile.height * k.tiles.desc.rows
  pub inside : Inside k.sight.area k.tiles.desc.output_width k.tiles.desc.output_height
  pub bounded : Bounded k.sight.area

unfoldable pub grid_held : Out GridLook → Type 0
grid_held (Ok k) = GridHeld k
grid_held (Err e) = Unit {0}

-- a descriptor of the body, and a rectangle of 32-bit numbers
unfoldable pub overlay_held : List ℕ → Out OverlayLook → Type 0
overlay_held body (Ok k) = OverlaySound body k.descriptor × Bounded k.sight.area
overlay_held body (Err e) = Unit {0}

-- a place that the tiles cover
pub record Tiled (t : Tiles) (l : CanvasPlace) : Type 0 where
  pub wide : 1 ≤ t.tile.width
  pub tall : 1 ≤ t.tile.height
  pub columns : t.desc.columns ≤ 256
  pub rows : t.desc.rows ≤ 256
  pub across : l.x < t.tile.width * t.desc.columns
  pub down : l.y < t.tile.height * t.desc.rows
