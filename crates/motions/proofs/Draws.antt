-- The moves draw the pictures that document 01 names.
use mathlib.Core.Bool.{Bool, ◌||◌, false, true}
use mathlib.Core.Path.{◌≡◌, ap, ap₂, refl}
use Prim.Native.Nat.{◌+◌, ◌-◌, ◌≤◌, ℕ}
use native.Mathlib.Omega.{arith}
use Rattle.laws.specs.Pick.{pick}
use Rattle.image.specs.Format.{as444, columns_of, cover, half_x, half_y, needs444, odd, rows_of, sized}
use Rattle.image.specs.declared.format.Part.{Part}
use Rattle.planes.proofs.PictureLaws.{last-axis}
use Rattle.planes.specs.Picture.{Agree, Pic, ensure, promote}
use Rattle.sizes.specs.declared.clap.CropRect.{CropRect}
use Rattle.motions.specs.Turn.{crop, cut, from_bottom, from_right, lopsided, mirror, q1, q2, q3, turn, turned}
use Rattle.moves.specs.inner.Move.{along_from, moved}
use Rattle.motions.specs.inner.Moves.{crop_move, crop_with, end_axis, form_with, half_move, half_with, mirror_move, quarter_move, quarter_with, still_move}

crop-with : (t : Bool) (P : Pic) (r : CropRect) → Agree (moved (crop_with t P.form r) P) (cut (pick t (promote P) P) r)
unfolding moved crop_with cut form_with pick promote along_from sized
crop-with true P r = record { form = refl; reads = λ p h x y a b. refl }
crop-with false P r = record { form = refl; reads = λ p h x y a b. refl }

pub crop-draws : (P : Pic) (r : CropRect) → Agree (moved (crop_move P.form r) P) (crop P r)
unfolding crop_move crop ensure
crop-draws P r = crop-with (needs444 P.form.format (odd r.x || odd r.width) (odd r.y || odd r.height)) P r

-- the n-th sample from the far end, and from the near one
module _ (Q : Pic) (wide : 1 ≤ Q.form.width) (tall : 1 ≤ Q.form.height) (p : Part) (n : ℕ) where
  right_is : cover (half_x Q.form.format p) (Q.form.width - 1) - n ≡ from_right Q p n
  unfolding from_right columns_of
  right_is = ap (λ (k : ℕ). k - n) (last-axis (half_x Q.form.format p) Q.form.width wide)

  bottom-is : cover (half_y Q.form.format p) (Q.form.height - 1) - n ≡ from_bottom Q p n
  unfolding from_bottom rows_of
  bottom-is = ap (λ (k : ℕ). k - n) (last-axis (half_y Q.form.format p) Q.form.height tall)

near-is : (h : Bool) (n : ℕ) → cover h 0 + n ≡ n
unfolding cover
near-is true n = omega arith
near-is false n = omega arith

module _ (P : Pic) (wide : 1 ≤ P.form.width) (tall : 1 ≤ P.form.height) where
  pub mirror-draws : (t : Bool) → Agree (moved (mirror_move P.form t) P) (mirror P t)
  unfolding moved mirror_move end_axis mirror pick along_from
  mirror-draws true = record { form = refl; reads = λ p h x y a b. ap₂ (P.at p) (right_is P wide tall p x) (near-is _ y) }
  mirror-draws false = record { form = refl; reads = λ p h x y a b. ap₂ (P.at p) (near-is _ x) (bottom-is P wide tall p y) }

  pub still-draws : Agree (moved (still_move P.form) P) P
  unfolding moved still_move end_axis pick along_from
  still-draws = record { form = refl; reads = λ p h x y a b. ap₂ (P.at p) (near-is _ x) (near-is _ y) }

  half-with : (t : Bool) → Agree (moved (half_with t P.form) P) (turned (pick t (promote P) P) q2)
  unfolding moved half_with end_axis turned form_with pick promote as444 along_from sized
  half-with true = record { form = refl; reads = λ p h x y a b. ap₂ ((promote P).at p) (right_is (promote P) wide tall p x) (bottom-is (promote P) wide tall p y) }
  half-with false = record { form = refl; reads = λ p h x y a b. ap₂ (P.at p) (right_is P wide tall p x) (bottom-is P wide tall p y) }

  pub half-draws : Agree (moved (half_move P.form) P) (turn P q2)
  unfolding half_move turn ensure
  half-draws = half-with (needs444 P.form.format (odd P.form.width) (odd P.form.height))

  left-with : (t : Bool) → Agree (moved (quarter_with t P.form true false) P) (turned (pick t (promote P) P) q1)
  unfolding moved quarter_with end_axis turned form_with pick promote as444 along_from sized
  left-with true = record { form = refl; reads = λ p h x y a b. ap₂ ((promote P).at p) (right_is (promote P) wide tall p y) (near-is _ x) }
  left-with false = record { form = refl; reads = λ p h x y a b. ap₂ (P.at p) (right_is P wide tall p y) (near-is _ x) }

  right-with : (t : Bool) → Agree (moved (quarter_with t P.form false true) P) (turned (pick t (promote P) P) q3)
  unfolding moved quarter_with end_axis turned form_with pick promote as444 along_from sized
  right-with true = record { form = refl; reads = λ p h x y a b. ap₂ ((promote P).at p) (near-is _ y) (bottom-is (promote P) wide tall p x) }
  right-with false = record { form = refl; reads = λ p h x y a b. ap₂ (P.at p) (near-is _ y) (bottom-is P wide tall p x) }

  pub left-draws : Agree (moved (quarter_move P.form true false) P) (turn P q1)
  unfolding quarter_move turn ensure
  left-draws = left-with (needs444 P.form.format (lopsided P.form.format || odd P.form.width) (lopsided P.form.format || odd P.form.height))

  pub right-draws : Agree (moved (quarter_move P.form false true) P) (turn P q3)
  unfolding quarter_move turn ensure
  right-draws = right-with (needs444 P.form.format (lopsided P.form.format || odd P.form.width) (lopsided P.form.format || odd P.form.height))
