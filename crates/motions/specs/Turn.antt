-- Crop, quarter turns and mirrors of pictures (document 01, clap, irot, imir).
use Rattle.std.specs.Prelude.{Bool, ◌||◌, false, true, ◌%◌, ◌+◌, ◌-◌, ℕ, eqb}
use Rattle.laws.specs.Pick.{pick}
use Rattle.image.specs.Format.{columns_of, cover, half_x, half_y, rows_of, odd, sized}
use Rattle.planes.specs.Picture.{Pic, ensure}
use Rattle.image.specs.declared.format.Part.{Part}
use Rattle.image.specs.declared.format.PixelFormat.{PixelFormat}
use Rattle.sizes.specs.declared.clap.CropRect.{CropRect}

-- the part of every plane at its own resolution
unfoldable pub cut : Pic → CropRect → Pic
cut P r = record {
  form = sized P.form r.width r.height;
  at = λ p x y. P.at p (cover (half_x P.form.format p) r.x + x) (cover (half_y P.form.format p) r.y + y);
}

-- crop, and clap with its rectangle (ISO/IEC 14496-12, 12.1.4): promotes when x or width (y or height) is odd on a halved axis
unfoldable pub crop : Pic → CropRect → Pic
crop P r = cut (ensure P (odd r.x || odd r.width) (odd r.y || odd r.height)) r

-- quarter turns anticlockwise
pub data Quarter : Type 0 where
  q0 : Quarter
  q1 : Quarter
  q2 : Quarter
  q3 : Quarter

-- an angle mod 4
unfoldable pub quarter_of : ℕ → Quarter
quarter_of a = pick (eqb (a % 4) 0) q0 (pick (eqb (a % 4) 1) q1 (pick (eqb (a % 4) 2) q2 q3))

-- the n-th sample of a plane from its far end, along each axis
unfoldable pub from_right : Pic → Part → ℕ → ℕ
from_right P p n = columns_of P.form p - 1 - n

unfoldable pub from_bottom : Pic → Part → ℕ → ℕ
from_bottom P p n = rows_of P.form p - 1 - n

-- every plane turned at its own resolution
unfoldable pub turned : Pic → Quarter → Pic
turned P q0 = P
turned P q1 = record { form = sized P.form P.form.height P.form.width; at = λ p x y. P.at p (from_right P p y) x }
turned P q2 = record { form = P.form; at = λ p x y. P.at p (from_right P p x) (from_bottom P p y) }
turned P q3 = record { form = sized P.form P.form.height P.form.width; at = λ p x y. P.at p y (from_bottom P p x) }

-- halved along one axis only
unfoldable pub lopsided : PixelFormat → Bool
lopsided f = eqb f.chroma 2

-- irot (ISO/IEC 23008-12, 6.5.10): a halved side that is odd promotes, and a quarter turn of 4:2:2 always does
unfoldable pub turn : Pic → Quarter → Pic
turn P q0 = P
turn P q1 = turned (ensure P (lopsided P.form.format || odd P.form.width) (lopsided P.form.format || odd P.form.height)) q1
turn P q2 = turned (ensure P (odd P.form.width) (odd P.form.height)) q2
turn P q3 = turned (ensure P (lopsided P.form.format || odd P.form.width) (lopsided P.form.format || odd P.form.height)) q3

-- imir (ISO/IEC 23008-12, 6.5.12): true exchanges left and right, false top and bottom; never promotes
unfoldable pub mirror : Pic → Bool → Pic
mirror P true = record { form = P.form; at = λ p x y. P.at p (from_right P p x) y }
mirror P false = record { form = P.form; at = λ p x y. P.at p x (from_bottom P p y) }
