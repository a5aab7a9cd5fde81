-- What it means that a picture is what another shows to a sight.
use Rattle.std.specs.Prelude.{Ok, Err}
use Rattle.std.specs.Prelude.{true, ◌≡◌, ◌<◌, ℕ}
use Rattle.laws.specs.Out.{Out, reason}
use Rattle.image.specs.Format.{has_part, Covers}
use Rattle.planes.specs.Picture.{Pic, pixel}
use Rattle.planes.specs.inner.Even.{Even}
use Rattle.image.specs.declared.format.Part.{Part}
use Rattle.sizes.specs.Sound.{Inside}
use Rattle.motions.specs.Place.{Place}
use Rattle.motions.specs.inner.Shows.{Shows}
use Rattle.sight.specs.Sight.{back, final_height, final_width}
use Rattle.sight.specs.declared.Sight.{Sight}

-- Q is the final size and has the planes and depth of P; every sample of it, at every place that it covers, is what P reads at the
-- place that the sight names; the rectangle lies in P, and no two final places name one place of P
pub record Seen (P Q : Pic) (s : Sight) : Type 0 where
  pub width : Q.form.width ≡ final_width s
  pub height : Q.form.height ≡ final_height s
  pub depth : Q.form.format.depth ≡ P.form.format.depth
  pub parts : (p : Part) → has_part Q.form.format p ≡ has_part P.form.format p
  pub even : Even Q.form
  pub inside : Inside s.area P.form.width P.form.height
  pub turns : s.turns < 4
  pub samples : (p : Part) → has_part Q.form.format p ≡ true → (cx cy x y : ℕ) → x < Q.form.width → y < Q.form.height
      → Covers Q.form.format p cx cy x y → Q.at p cx cy ≡ pixel P p (back s x y).x (back s x y).y
  pub once : (x y u v : ℕ) → x < Q.form.width → y < Q.form.height → u < Q.form.width → v < Q.form.height
      → back s x y ≡ back s u v → (x ≡ u) × (y ≡ v)

-- Q is what P shows to the sight, pixel by pixel
pub record View (P Q : Pic) (s : Sight) : Type 0 where
  pub inside : Inside s.area P.form.width P.form.height
  pub turns : s.turns < 4
  pub shows : Shows P Q (final_width s) (final_height s) (back s)

-- a final place that names the place l of P: every sample that covers it is what P reads there
pub record NamesPlace (P Q : Pic) (x y : ℕ) (l : Place) : Type 0 where
  pub across : x < Q.form.width
  pub down : y < Q.form.height
  pub column : l.x < P.form.width
  pub row : l.y < P.form.height
  pub samples : (p : Part) → has_part Q.form.format p ≡ true → (cx cy : ℕ) → Covers Q.form.format p cx cy x y → Q.at p cx cy ≡ pixel P p l.x l.y

-- what is answered at a final place: 18 exactly where it is outside Q
unfoldable pub PlaceAgrees : Pic → Pic → ℕ → ℕ → Out Place → Type 0
PlaceAgrees P Q x y (Err r) = (r ≡ reason 18) × (x < Q.form.width → y < Q.form.height → ⊥)
PlaceAgrees P Q x y (Ok l) = NamesPlace P Q x y l
