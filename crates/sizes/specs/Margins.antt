-- The margins of a crop (document 02, A1): left and top are the rectangle's edges; left + width + right is the input's width, and likewise down.
use Rattle.std.specs.Prelude.{Bool, ◌&&◌, not, ◌≡◌, ◌+◌, ◌-◌, ◌≤◌, ℕ, eqb}
use Rattle.sizes.specs.declared.clap.Crop.{Crop}
use Rattle.sizes.specs.declared.clap.CropRect.{CropRect}

-- along an axis: the part has some pixels, begins where the margin before it ends, and with both margins makes up the axis
unfoldable pub fits_axis : ℕ → ℕ → ℕ → ℕ → ℕ → Bool
fits_axis edge size before beyond input = (not (eqb size 0) && eqb before edge) && eqb (before + size + beyond) input

-- along both axes of a picture
unfoldable pub fits_in : Crop → ℕ → ℕ → Bool
fits_in k width height =
    fits_axis k.rect.x k.rect.width k.margins.left k.margins.right width
    && fits_axis k.rect.y k.rect.height k.margins.top k.margins.bottom height

-- the same as facts
pub record Around (k : Crop) (width height : ℕ) : Type 0 where
  pub left : k.margins.left ≡ k.rect.x
  pub top : k.margins.top ≡ k.rect.y
  pub across : k.margins.left + k.rect.width + k.margins.right ≡ width
  pub down : k.margins.top + k.rect.height + k.margins.bottom ≡ height
  pub wide : 1 ≤ k.rect.width
  pub tall : 1 ≤ k.rect.height

-- the margins about a rectangle of a picture of that size
unfoldable pub between : CropRect → ℕ → ℕ → Crop
between r width height = record {
  rect = r;
  margins = record { left = r.x; top = r.y; right = width - (r.x + r.width); bottom = height - (r.y + r.height) };
}
