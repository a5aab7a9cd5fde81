-- Laws of pictures: what promotion keeps, and even sides along one axis.
use mathlib.Core.Bool.{Bool, ◌&&◌, false, true}
use mathlib.Core.Path.{◌∙◌, ◌≡◌, refl}
use Prim.Native.Nat.{◌%◌, ◌+◌, ◌-◌, ◌<◌, ◌≤◌, ℕ}
use native.Mathlib.Omega.{arith}
use lib.Dec.{eqb}
use borrow.Author.Tests.{eqb-false, eqb-true}
use Rattle.laws.proofs.Order.{by-test, or_left, or_right, pick_true}
use Rattle.laws.specs.Pick.{pick}
use Rattle.image.specs.Format.{cover, halved, halves_x, halves_y, has_alpha, has_part, is_mono, side_of, as444, needs444, odd}
use Rattle.planes.specs.Picture.{Pic, ensure, full, pixel, promote}
use Rattle.planes.specs.inner.Even.{Evenly}
use Rattle.image.specs.declared.format.Form.{Form}
use Rattle.image.specs.declared.format.Part.{Part}
use Rattle.image.specs.declared.format.Part.TheVariants.{Alpha, Cb, Cr, Luma}
use Rattle.image.specs.declared.format.PixelFormat.{PixelFormat}

-- ---- an even side where it is halved

pub evenly-part : (b : Bool) (p : Part) (n : ℕ) → Evenly b n → Evenly (halved b p) n
unfolding halved Evenly
evenly-part b Luma n e = tt
evenly-part b Cb n e = e
evenly-part b Cr n e = e
evenly-part b Alpha n e = tt

pub evenly-if : (h : Bool) (n : ℕ) → (h ≡ true → n % 2 ≡ 0) → Evenly h n
unfolding Evenly
evenly-if true n f = f refl
evenly-if false n f = tt

-- along one axis: a cut at an even place, and the way back from the far end
pub cut-axis : (h : Bool) (a x : ℕ) → Evenly h a → cover h a + cover h x ≡ cover h (a + x)
unfolding Evenly cover
cut-axis true a x e = omega arith
cut-axis false a x e = refl

pub flip-axis : (h : Bool) (n x : ℕ) → Evenly h n → x < n → side_of h n - 1 - cover h x ≡ cover h (n - 1 - x)
unfolding Evenly cover side_of
flip-axis true n x e l = omega arith
flip-axis false n x e l = refl

-- the last sample of a side covers its last place, odd or even
pub last-axis : (h : Bool) (n : ℕ) → 1 ≤ n → cover h (n - 1) ≡ side_of h n - 1
unfolding cover side_of
last-axis true n l = omega arith
last-axis false n l = refl

pub odd-false : (n : ℕ) → odd n ≡ false → n % 2 ≡ 0
unfolding odd
odd-false n e = omega (arith, eqb-false (n % 2) 1 e)

-- ---- whether a chroma sample is needed that is not there

pub needs-X : (f : PixelFormat) (a b : Bool) → needs444 f a b ≡ false → halves_x f ≡ true → a ≡ false
unfolding needs444
needs-X f a b e h = or_left a (halves_y f && b) (rw h at e)

pub needs-Y : (f : PixelFormat) (a b : Bool) → needs444 f a b ≡ false → halves_y f ≡ true → b ≡ false
unfolding needs444
needs-Y f a b e h = or_right (halves_x f && a) b (rw h at e)

pub even_x-of : (f : PixelFormat) (n : ℕ) (b : Bool) → needs444 f (odd n) b ≡ false → Evenly (halves_x f) n
even_x-of f n b e = evenly-if _ n (λ h. odd-false n (needs-X f (odd n) b e h))

pub even_y-of : (f : PixelFormat) (n : ℕ) (b : Bool) → needs444 f b (odd n) ≡ false → Evenly (halves_y f) n
even_y-of f n b e = evenly-if _ n (λ h. odd-false n (needs-Y f b (odd n) e h))

-- what is promoted so is not mono
pub needs-colour : (f : PixelFormat) (a b : Bool) → needs444 f a b ≡ true → is_mono f ≡ false
unfolding needs444 halves_x halves_y is_mono
needs-colour f a b n = by-test (eqb f.chroma 0) (λ e. let z : false ≡ true = rw (eqb-true f.chroma 0 e) at n in cc) (λ e. e)

-- ---- promotion

pub full-pixel : (P : Pic) (p : Part) → has_part P.form.format p ≡ true → (x y : ℕ) → full P p x y ≡ pixel P p x y
unfolding full
full-pixel P p h x y = pick_true _ _ _ h

pub promote-pixel : (P : Pic) (p : Part) (x y : ℕ) → pixel (promote P) p x y ≡ full P p x y
unfolding pixel promote as444 halved halves_x halves_y cover
promote-pixel P Luma x y = refl
promote-pixel P Cb x y = refl
promote-pixel P Cr x y = refl
promote-pixel P Alpha x y = refl

-- a picture with chroma keeps its planes
pub parts-444 : (m : Form) → is_mono m.format ≡ false → (p : Part) → has_part (as444 m).format p ≡ has_part m.format p
unfolding has_part has_alpha as444 is_mono
parts-444 m e Luma = refl
parts-444 m e Cb = rw e
parts-444 m e Cr = rw e
parts-444 m e Alpha = refl

-- one of two
pub ensure-case {ℓ} : (P : Pic) (a b : Bool) (M : Pic → Type ℓ) → (needs444 P.form.format a b ≡ true → M (promote P)) → (needs444 P.form.format a b ≡ false → M P) → M (ensure P a b)
unfolding ensure pick
ensure-case P a b M f g = go (needs444 P.form.format a b) refl
  where
    go : (t : Bool) → needs444 P.form.format a b ≡ t → M (pick t (promote P) P)
    go true e = f e
    go false e = g e

-- the same picture at each place, but for how its chroma is halved
pub record Alike (Q P : Pic) : Type 0 where
  pub width : Q.form.width ≡ P.form.width
  pub height : Q.form.height ≡ P.form.height
  pub depth : Q.form.format.depth ≡ P.form.format.depth
  pub parts : (p : Part) → has_part Q.form.format p ≡ has_part P.form.format p
  pub reads : (p : Part) → has_part P.form.format p ≡ true → (x y : ℕ) → pixel Q p x y ≡ pixel P p x y

pub ensure-alike : (P : Pic) (a b : Bool) → Alike (ensure P a b) P
unfolding promote as444
ensure-alike P a b =
    ensure-case P a b (λ Q. Alike Q P)
    (λ n.
    let k = needs-colour P.form.format a b n in
    record { width = refl; height = refl; depth = refl; parts = parts-444 P.form k; reads = λ p h x y. promote-pixel P p x y ∙ full-pixel P p h x y })
    (λ n. record { width = refl; height = refl; depth = refl; parts = λ p. refl; reads = λ p h x y. refl })

pub ensure-even_x : (P : Pic) (a b : Bool) (n : ℕ) → (a ≡ false → n % 2 ≡ 0) → Evenly (halves_x (ensure P a b).form.format) n
unfolding promote as444 halves_x Evenly
ensure-even_x P a b n f = ensure-case P a b (λ Q. Evenly (halves_x Q.form.format) n) (λ e. tt) (λ e. evenly-if _ n (λ h. f (needs-X P.form.format a b e h)))

pub ensure-even_y : (P : Pic) (a b : Bool) (n : ℕ) → (b ≡ false → n % 2 ≡ 0) → Evenly (halves_y (ensure P a b).form.format) n
unfolding promote as444 halves_y Evenly
ensure-even_y P a b n f = ensure-case P a b (λ Q. Evenly (halves_y Q.form.format) n) (λ e. tt) (λ e. evenly-if _ n (λ h. f (needs-Y P.form.format a b e h)))
