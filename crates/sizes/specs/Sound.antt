-- What holds of a rectangle that was taken.
use Rattle.std.specs.Prelude.{◌+◌, ◌≤◌, ℕ}
use Rattle.sizes.specs.declared.clap.CropRect.{CropRect}

-- a rectangle with some pixels that lies in a picture of that size
pub record Inside (r : CropRect) (width height : ℕ) : Type 0 where
  pub across : r.x + r.width ≤ width
  pub down : r.y + r.height ≤ height
  pub wide : 1 ≤ r.width
  pub tall : 1 ≤ r.height
