-- Pictures of one sample in each plane.
use Rattle.std.specs.Prelude.{ℕ}
use Rattle.image.specs.declared.format.Form.{Form}
use Rattle.image.specs.declared.format.Part.{Part}
use Rattle.image.specs.declared.format.Part.TheVariants.{Alpha, Cb, Cr, Luma}
use Rattle.planes.specs.Picture.{Pic}

-- the same in every plane
unfoldable pub even_pic : Form → ℕ → Pic
even_pic m v = record { form = m; at = λ p x y. v }

-- one for each plane
unfoldable pub flat_pic : Form → (Part → ℕ) → Pic
flat_pic m f = record { form = m; at = λ p x y. f p }

-- four samples, by the plane that each is for
unfoldable pub by_part : ℕ → ℕ → ℕ → ℕ → Part → ℕ
by_part y cb cr alpha Luma = y
by_part y cb cr alpha Cb = cb
by_part y cb cr alpha Cr = cr
by_part y cb cr alpha Alpha = alpha
