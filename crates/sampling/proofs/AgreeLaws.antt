-- What each operation makes of a picture depends on its samples in range alone.
use mathlib.Core.Path.{◌∙◌, ◌≡◌, ap, ap₂, refl}
use Prim.Native.Nat.{◌*◌, ◌+◌, ◌-◌, ◌<◌, ◌≤◌, suc, zero, ℕ}
use native.Mathlib.Omega.{arith}
use Rattle.image.proofs.FormLaws.{columns-some, rows-some}
use Rattle.image.specs.Format.{columns_of, rows_of, sized}
use Rattle.planes.specs.Picture.{Agree, Pic}
use Rattle.image.specs.Sound.{FormSound}
use Rattle.image.specs.declared.format.Form.{Form}
use Rattle.sampling.proofs.FootLaws.{foot-in, past-in}
use Rattle.sampling.specs.Area.{area, area_mean, first_of, foot_of, past_of, sum, weighed, weight_of}
use Rattle.sampling.specs.inner.Sums.{FootIn}
use Rattle.sampling.specs.Rounded.{rounded}
use Rattle.sampling.specs.declared.area.Foot.{Foot}

-- ---- sums over the samples that are touched

pub sum-cong : (f g : ℕ → ℕ) (k n : ℕ) → ((i : ℕ) → k ≤ i → i < k + n → f i ≡ g i) → sum f k n ≡ sum g k n
unfolding sum
sum-cong f g k zero h = refl
sum-cong f g k (suc n) h = ap₂ (λ (a b : ℕ). a + b) (h k (omega arith) (omega arith)) (sum-cong f g (k + 1) n (λ i a b. h i (omega arith) (omega arith)))

pub weighed-cong : (f : Foot) (n : ℕ) (v u : ℕ → ℕ) → FootIn f n → ((i : ℕ) → i < n → v i ≡ u i) → weighed f v ≡ weighed f u
unfolding weighed
weighed-cong f n v u k h =
    sum-cong _ _ (first_of f) (past_of f - first_of f) (λ i a b. ap (λ (x : ℕ). x * weight_of f i) (h i (past-in f n i k (omega arith))))

pub mean-cong : (across down : Foot) (columns rows : ℕ) (v u : ℕ → ℕ → ℕ) → FootIn across columns → FootIn down rows
    → ((x y : ℕ) → x < columns → y < rows → v x y ≡ u x y) → area_mean across down v ≡ area_mean across down u
unfolding area_mean
mean-cong across down columns rows v u a b h =
    ap (λ (n : ℕ). rounded n ((across.end - across.start) * (down.end - down.start)))
    (weighed-cong down rows _ _ b (λ y j. weighed-cong across columns _ _ a (λ x i. h x y i j)))

pub area-agree : (P Q : Pic) (w h : ℕ) → FormSound P.form → Agree P Q → Agree (area P w h) (area Q w h)
unfolding area sized
area-agree P Q w h ok a = record {
  form = ap (λ (m : Form). sized m w h) a.form;
  reads = λ p e x y i j.
      mean-cong _ _ (columns_of P.form p) (rows_of P.form p) (P.at p) (Q.at p)
      (foot-in _ _ x (columns-some P.form ok p) i) (foot-in _ _ y (rows-some P.form ok p) j) (λ u v k l. a.reads p e u v k l)
      ∙ ap (λ (m : Form). area_mean (foot_of (columns_of m p) (columns_of (sized m w h) p) x) (foot_of (rows_of m p) (rows_of (sized m w h) p) y) (Q.at p)) a.form;
}
