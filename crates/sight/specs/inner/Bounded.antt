-- Rectangles and places of 32 bits.
use Rattle.std.specs.Prelude.{◌≡◌, ◌+◌, ◌<◌, ◌^◌}
use Rattle.sizes.specs.declared.clap.CropRect.{CropRect}
use Rattle.motions.specs.Place.{Place}
use Rattle.sight.specs.declared.CanvasPlace.{CanvasPlace}

-- a rectangle whose far edges are 32-bit numbers
pub record Bounded (r : CropRect) : Type 0 where
  pub across : r.x + r.width < 2 ^ 32
  pub down : r.y + r.height < 2 ^ 32

-- the code's place is the place
pub record Lies (r : CanvasPlace) (l : Place) : Type 0 where
  pub x : r.x ≡ l.x
  pub y : r.y ≡ l.y
