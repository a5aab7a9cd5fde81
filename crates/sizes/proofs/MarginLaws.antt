-- Laws of margins: what the test of a crop says, and that its rectangle lies in the picture.
use mathlib.Core.Bool.{not, true}
use mathlib.Core.Path.{◌≡◌, ap, refl}
use Prim.Native.Nat.{◌+◌, ◌≤◌, ℕ}
use native.Mathlib.Omega.{arith}
use borrow.Author.Tests.{eq-eqb, eqb-false, eqb-true, ne_eqb, not-true}
use Rattle.laws.proofs.Order.{and-true, positive, true-and}
use Rattle.sizes.specs.Margins.{Around, between, fits_axis, fits_in}
use Rattle.sizes.specs.Sound.{Inside}
use Rattle.sizes.specs.declared.clap.Crop.{Crop}
use Rattle.sizes.specs.declared.clap.CropRect.{CropRect}
use Rattle.sizes.specs.declared.clap.Margins.{Margins}

pub around-inside : (k : Crop) (width height : ℕ) → Around k width height → Inside k.rect width height
around-inside k width height a =
    record {
      across = omega (arith, a.left, a.across);
      down = omega (arith, a.top, a.down);
      wide = a.wide;
      tall = a.tall;
    }

-- ---- the test, along an axis and of a picture

fits-facts : (edge size before beyond input : ℕ) → fits_axis edge size before beyond input ≡ true → (1 ≤ size) × (before ≡ edge) × (before + size + beyond ≡ input)
unfolding fits_axis
fits-facts edge size before beyond input e =
    let a = and-true _ _ e in
    let b = and-true _ _ a.0 in
    (positive size (eqb-false size 0 (not-true _ b.0)), eqb-true before edge b.1, eqb-true _ input a.1)

facts-fit : (edge size before beyond input : ℕ) → 1 ≤ size → before ≡ edge → before + size + beyond ≡ input → fits_axis edge size before beyond input ≡ true
unfolding fits_axis
facts-fit edge size before beyond input p e s = true-and _ _ (true-and _ _ (ap not (ne_eqb size 0 (λ z. omega arith))) (eq-eqb before edge e)) (eq-eqb _ input s)

pub fits-around : (k : Crop) (width height : ℕ) → fits_in k width height ≡ true → Around k width height
unfolding fits_in
fits-around k width height e =
    let a = and-true _ _ e in
    let u = fits-facts k.rect.x k.rect.width k.margins.left k.margins.right width a.0 in
    let v = fits-facts k.rect.y k.rect.height k.margins.top k.margins.bottom height a.1 in
    record { left = u.1; top = v.1; across = u.2; down = v.2; wide = u.0; tall = v.0 }

pub around-fits : (k : Crop) (width height : ℕ) → Around k width height → fits_in k width height ≡ true
unfolding fits_in
around-fits k width height a = true-and _ _ (facts-fit _ _ _ _ width a.wide a.left a.across) (facts-fit _ _ _ _ height a.tall a.top a.down)

-- ---- a rectangle of a picture has margins, and no others

pub between-around : (r : CropRect) (width height : ℕ) → Inside r width height → Around (between r width height) width height
unfolding between
between-around r width height i = record { left = refl; top = refl; across = omega (arith, i.across); down = omega (arith, i.down); wide = i.wide; tall = i.tall }

margins-path : {m n : Margins} → m.left ≡ n.left → m.top ≡ n.top → m.right ≡ n.right → m.bottom ≡ n.bottom → m ≡ n
margins-path p q r s = λ i. record { left = p i; top = q i; right = r i; bottom = s i }

pub around-between : (k : Crop) (width height : ℕ) → Around k width height → k ≡ between k.rect width height
unfolding between
around-between k width height a =
    ap (λ (m : Margins). record { rect = k.rect; margins = m }) (margins-path a.left a.top (omega (arith, a.left, a.across)) (omega (arith, a.top, a.down)))
