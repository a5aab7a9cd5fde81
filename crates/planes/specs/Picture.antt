-- Pictures as functions, what a plane reads at a place, and promotion to 4:4:4.
use Rattle.std.specs.Prelude.{Bool, true, ◌≡◌, ◌<◌, ℕ}
use Rattle.laws.specs.Pick.{pick}
use Rattle.image.specs.Format.{as444, columns_of, cover, half_x, half_y, has_part, middle_of, needs444, rows_of}
use Rattle.image.specs.declared.format.Form.{Form}
use Rattle.image.specs.declared.format.Part.{Part}

-- the sample of a plane at a column and a row of that plane
pub record Pic : Type 0 where
  pub form : Form
  pub at : Part → ℕ → ℕ → ℕ

-- what a plane reads at a place of the picture: the sample that covers it
unfoldable pub pixel : Pic → Part → ℕ → ℕ → ℕ
pixel P p x y = P.at p (cover (half_x P.form.format p) x) (cover (half_y P.form.format p) y)

-- as pixel; 2 ^ (depth − 1) of a plane that the picture has not: the chroma of mono, and a missing alpha, which no picture shows
unfoldable pub full : Pic → Part → ℕ → ℕ → ℕ
full P p x y = pick (has_part P.form.format p) (pixel P p x y) (middle_of P.form.format)

-- promotion to 4:4:4: each pixel takes the chroma sample that covered it
unfoldable pub promote : Pic → Pic
promote P = record { form = as444 P.form; at = full P }

unfoldable pub ensure : Pic → Bool → Bool → Pic
ensure P odd_x odd_y = pick (needs444 P.form.format odd_x odd_y) (promote P) P

-- the same picture: the same form, and the same samples in every plane
pub record Agree (P Q : Pic) : Type 0 where
  pub form : P.form ≡ Q.form
  pub reads : (p : Part) → has_part P.form.format p ≡ true → (x y : ℕ) → x < columns_of P.form p → y < rows_of P.form p → P.at p x y ≡ Q.at p x y
