-- Tiles stored one after the other.
use Rattle.std.specs.Prelude.{List, ◌%◌, ◌/◌, suc, zero, ℕ, T}
use Rattle.image.specs.Format.{top_of}
use Rattle.image.specs.declared.format.Form.{Form}
use Rattle.image.specs.declared.format.Part.{Part}
use Rattle.image.specs.declared.format.Part.TheVariants.{Alpha, Cb, Cr, Luma}
use Rattle.image.specs.declared.format.PixelFormat.{PixelFormat}
use Rattle.planes.specs.Picture.{Pic}
use Rattle.cells.specs.Cell.{store_tile}

-- one plane's samples, whatever they are
unfoldable pub any_pic : Form → (ℕ → ℕ → ℕ) → Pic
any_pic m f = record { form = m; at = λ p x y. f x y }

-- a canvas that its tiles will cover: colour as it may be there, alpha at top
unfoldable pub under_at : PixelFormat → (Part → ℕ → ℕ → ℕ) → Part → ℕ → ℕ → ℕ
under_at f u Luma x y = u Luma x y
under_at f u Cb x y = u Cb x y
under_at f u Cr x y = u Cr x y
under_at f u Alpha x y = top_of f

unfoldable pub under_pic : Form → (Part → ℕ → ℕ → ℕ) → Pic
under_pic m u = record { form = m; at = λ p x y. under_at m.format u p x y }

-- the first n tiles stored in their cells, in turn
unfoldable pub store_tiles : Form → (ℕ → Pic) → ℕ → ℕ → List ℕ → List ℕ
store_tiles c T columns zero d = d
store_tiles c T columns (suc n) d = store_tile c (T n) (n % columns) (n / columns) (store_tiles c T columns n d)
