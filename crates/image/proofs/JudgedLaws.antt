-- What holds of a size and a form that were taken.
use Rattle.std.specs.Prelude.{Ok}
use mathlib.Core.Bool.{false, not, true}
use mathlib.Core.Path.{◌∙◌, ◌≡◌, ap, ap₂, refl, sym}
use Prim.Native.Nat.{◌*◌, ◌<◌, ◌^◌, ◌≤◌, ℕ}
use native.Mathlib.Omega.{arith}
use lib.Dec.{eqb, ltb}
use borrow.Author.Tests.{eqb-false, le-leb, le-ltb, leb-true, ltb-false, ne_eqb, not-false}
use Rattle.laws.proofs.Order.{and-true, positive, true-and}
use Rattle.laws.proofs.Out.{and_then-done, done-same, refuse-done, refuse-no, then-done}
use Rattle.image.proofs.FormLaws.{height-le, row-le, rows-le, rows-some}
use Rattle.image.specs.Format.{columns_of, form_of, format_of, halved, has_part, is_depth, judged_size, row_size, rows_of, side_of, sides}
use Rattle.image.specs.Sound.{FormSound, SizeSound}
use Rattle.image.specs.declared.format.Form.{Form}
use Rattle.image.specs.declared.format.Part.{Part}
use Rattle.image.specs.declared.format.Part.TheVariants.{Alpha, Cb, Cr, Luma}
use Rattle.image.specs.declared.format.PixelFormat.{PixelFormat}
use Rattle.image.specs.declared.size.Size.{Size}

pub depth-sound : (d : ℕ) → not (is_depth d) ≡ false → (8 ≤ d) × (d ≤ 16)
unfolding is_depth
depth-sound d e = let k = and-true _ _ (not-false _ e) in (leb-true 8 d k.0, leb-true d 16 k.1)

pub depth-taken : (d : ℕ) → 8 ≤ d → d ≤ 16 → not (is_depth d) ≡ false
unfolding is_depth
depth-taken d l h = ap not (true-and _ _ (le-leb 8 d l) (le-leb d 16 h))

pub format-sound : (chroma depth alpha : ℕ) (f : PixelFormat) → format_of chroma depth alpha ≡ Ok f → (f.chroma ≤ 3) × (8 ≤ f.depth) × (f.depth ≤ 16) × (f.alpha ≤ 1)
unfolding format_of
format-sound chroma depth alpha f e =
    let a = refuse-done (ltb 3 chroma) 5 _ f e in
    let b = refuse-done (ltb 1 alpha) 5 _ f a.1 in
    let c = refuse-done (not (is_depth depth)) 6 _ f b.1 in
    let d = depth-sound depth c.0 in
    rw (← done-same _ f c.1) (ltb-false _ _ a.0, d.0, d.1, ltb-false _ _ b.0)

pub judged-sound : (width height : ℕ) (z : Size) → judged_size width height ≡ Ok z → SizeSound z
unfolding judged_size
judged-sound width height z e =
    let a = refuse-done (eqb width 0) 3 _ z e in
    let b = refuse-done (eqb height 0) 3 _ z a.1 in
    let c = refuse-done (ltb (2 ^ 30) (width * height)) 4 _ z b.1 in
    rw (← done-same _ z c.1) (record { wide = positive width (eqb-false width 0 a.0); tall = positive height (eqb-false height 0 b.0); area = ltb-false _ _ c.0 })

pub judged-same : (width height : ℕ) (z : Size) → judged_size width height ≡ Ok z → z ≡ sides width height
unfolding judged_size
judged-same width height z e =
    let a = refuse-done (eqb width 0) 3 _ z e in
    let b = refuse-done (eqb height 0) 3 _ z a.1 in
    let c = refuse-done (ltb (2 ^ 30) (width * height)) 4 _ z b.1 in
    sym (done-same _ z c.1)

pub form-sound : (width height chroma depth alpha : ℕ) (m : Form) → form_of width height chroma depth alpha ≡ Ok m → FormSound m
unfolding form_of
form-sound width height chroma depth alpha m e =
    let a = and_then-done _ _ m e in
    let b = and_then-done _ _ m a.2 in
    let s = format-sound chroma depth alpha a.0 a.1 in
    let z = judged-sound width height b.0 b.1 in
    rw (← done-same _ m b.2) (record { chroma = s.0; low = s.1; high = s.2; alpha = s.3; wide = z.wide; tall = z.tall; area = z.area })

pub form-same : (m n : Form) → form_of m.width m.height m.format.chroma m.format.depth m.format.alpha ≡ Ok n → n ≡ m
unfolding form_of format_of
form-same m n e =
    let a = and_then-done _ _ n e in
    let b = and_then-done _ _ n a.2 in
    let u = refuse-done (ltb 3 m.format.chroma) 5 _ a.0 a.1 in
    let v = refuse-done (ltb 1 m.format.alpha) 5 _ a.0 u.1 in
    let w = refuse-done (not (is_depth m.format.depth)) 6 _ a.0 v.1 in
    sym (done-same _ n b.2)
    ∙ ap₂ (λ (z : Size) (f : PixelFormat). record { width = z.width; height = z.height; format = f }) (judged-same _ _ b.0 b.1) (sym (done-same _ a.0 w.1))

-- a sound size and a sound form are taken
pub size-taken : (z : Size) → SizeSound z → judged_size z.width z.height ≡ Ok z
unfolding judged_size
size-taken z ok =
    refuse-no _ _ (ne_eqb z.width 0 (none _ ok.wide)) ∙ refuse-no _ _ (ne_eqb z.height 0 (none _ ok.tall)) ∙ refuse-no _ _ (le-ltb (2 ^ 30) _ ok.area)
  where
    none : (n : ℕ) → 1 ≤ n → n ≡ 0 → ⊥
    none n h e = omega arith

pub format-taken : (m : Form) → FormSound m → format_of m.format.chroma m.format.depth m.format.alpha ≡ Ok m.format
unfolding format_of
format-taken m ok =
    refuse-no _ _ (le-ltb 3 _ ok.chroma) ∙ refuse-no _ _ (le-ltb 1 _ ok.alpha) ∙ refuse-no _ _ (depth-taken _ ok.low ok.high)

pub form-taken : (m : Form) → FormSound m → form_of m.width m.height m.format.chroma m.format.depth m.format.alpha ≡ Ok m
unfolding form_of
form-taken m ok =
    then-done _ (format-taken m ok) ∙ then-done _ (size-taken (sides m.width m.height) (record { wide = ok.wide; tall = ok.tall; area = ok.area }))

pub form-rows : (m : Form) → FormSound m → (p : Part) → (0 < rows_of m p) × (rows_of m p < 2 ^ 32) × (row_size m p < 2 ^ 33)
form-rows m ok p = (rows-some m ok p, omega (arith, rows-le m ok p, height-le m ok), omega (arith, row-le m ok p))

-- every picture has luma
pub has-luma : (f : PixelFormat) → true ≡ has_part f Luma
unfolding has_part
has-luma f = refl

-- luma and alpha are alike, and so are the chroma planes
pub whole-rows : (m : Form) → (m.height ≡ rows_of m Luma) × (m.height ≡ rows_of m Alpha) × (row_size m Luma ≡ row_size m Alpha)
unfolding rows_of row_size columns_of halved side_of
whole-rows m = (refl, refl, refl)

pub chroma-rows : (m : Form) → (has_part m.format Cb ≡ has_part m.format Cr) × (rows_of m Cb ≡ rows_of m Cr) × (row_size m Cb ≡ row_size m Cr)
unfolding has_part rows_of row_size columns_of halved
chroma-rows m = (refl, refl, refl)
