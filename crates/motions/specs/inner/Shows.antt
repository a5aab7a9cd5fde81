-- A picture that shows another, place by place.
use Rattle.std.specs.Prelude.{Bool, false, true, ◌≡◌, ◌+◌, ◌-◌, ◌<◌, ℕ}
use Rattle.image.specs.Format.{has_part}
use Rattle.planes.specs.Picture.{Pic, pixel}
use Rattle.planes.specs.inner.Even.{Even}
use Rattle.image.specs.declared.format.Part.{Part}
use Rattle.sizes.specs.declared.clap.CropRect.{CropRect}
use Rattle.motions.specs.Place.{Place}

-- through a crop, a turn and a mirror of a picture w by h
unfoldable pub uncrop : CropRect → ℕ → ℕ → Place
uncrop r x y = record { x = r.x + x; y = r.y + y }

unfoldable pub unmirror : Bool → ℕ → ℕ → ℕ → ℕ → Place
unmirror true w h x y = record { x = w - 1 - x; y = y }
unmirror false w h x y = record { x = x; y = h - 1 - y }

-- R is w by h, and every plane of it reads at each place what P reads at the place `back` names
pub record Shows (P R : Pic) (w h : ℕ) (back : ℕ → ℕ → Place) : Type 0 where
  pub width : R.form.width ≡ w
  pub height : R.form.height ≡ h
  pub depth : R.form.format.depth ≡ P.form.format.depth
  pub parts : (p : Part) → has_part R.form.format p ≡ has_part P.form.format p
  pub even : Even R.form
  pub reads : (p : Part) → has_part P.form.format p ≡ true → (x y : ℕ) → x < w → y < h → pixel R p x y ≡ pixel P p (back x y).x (back x y).y
