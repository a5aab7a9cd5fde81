-- Pictures that a record can hold.
use Rattle.std.specs.Prelude.{true, ◌≡◌, ◌<◌, ◌^◌, ℕ}
use Rattle.image.specs.Format.{bytes_of, columns_of, has_part, rows_of}
use Rattle.image.specs.Sound.{FormSound}
use Rattle.image.specs.declared.format.Part.{Part}
use Rattle.planes.specs.Picture.{Pic}

-- a picture of a sound form whose samples fit their bytes
pub record InRange (P : Pic) : Type 0 where
  pub sound : FormSound P.form
  pub small : (p : Part) → has_part P.form.format p ≡ true → (x y : ℕ) → x < columns_of P.form p → y < rows_of P.form p
      → P.at p x y < 256 ^ bytes_of P.form.format
