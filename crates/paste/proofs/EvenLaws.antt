-- Laws of planes of one sample, and of a canvas of them.
use mathlib.Core.Bool.{false, true}
use mathlib.Core.List.{List, [], ◌++◌, append-nil}
use mathlib.Core.Path.{◌∙◌, ◌≡◌, ap, ap₂, refl, sym}
use Prim.Native.Nat.{◌*◌, ◌+◌, ◌^◌, ◌≤◌, suc, zero, ℕ}
use native.Mathlib.Nat.{mul_comm, suc-mul}
use native.Mathlib.Omega.{arith}
use lib.ListN.{length, length-append}
use Rattle.laws.proofs.Order.{mul-below}
use Rattle.laws.proofs.Span.{span-end, span-shift, span-split, span-step}
use Rattle.laws.proofs.Writing.{writing-begin, writing-last, writing-run}
use Rattle.laws.specs.Puts.{puts}
use Rattle.laws.specs.Span.{span}
use Rattle.image.proofs.FormLaws.{columns-le, rows-le}
use Rattle.image.specs.Format.{bytes_of, columns_of, has_part, rows_of}
use Rattle.image.specs.Sound.{FormSound}
use Rattle.image.specs.declared.format.Form.{Form}
use Rattle.image.specs.declared.format.Part.{Part}
use Rattle.image.specs.declared.format.Part.TheVariants.{Alpha, Cb, Cr, Luma}
use Rattle.planes.proofs.RoundTrip.{length-plane_bytes, plane-none, plane-some}
use Rattle.planes.specs.Bytes.{head_bytes, plane_bytes, plane_head, plane_size, row_bytes, rows_bytes, sample_bytes, samples_of, size_of}
use Rattle.paste.specs.Stored.{headed}
use Rattle.paste.specs.inner.Even.{by_part, even_pic, flat_pic}

-- rows of so many items each are one run of them
pub spans-flat : (f : ℕ → List ℕ) (n m : ℕ) → span (λ y. span (λ x. f (y * n + x)) 0 n) 0 m ≡ span f 0 (m * n)
spans-flat f n zero = let z : 0 * n ≡ 0 = omega arith in span-end _ 0 0 (omega arith) ∙ sym (ap (span f 0) z ∙ span-end _ 0 0 (omega arith))
spans-flat f n (suc m) =
    let e : suc m * n ≡ m * n + n = omega (arith, suc-mul m n) in
    span-split _ 0 m (suc m) (omega arith) (omega arith)
    ∙ ap₂ (λ (p q : List ℕ). p ++ q) (spans-flat f n m) (span-step _ m (suc m) (omega arith) ∙ ap (λ (q : List ℕ). span (λ x. f (m * n + x)) 0 n ++ q) (span-end _ (m + 1) (suc m) (omega arith)) ∙ append-nil (span (λ x. f (m * n + x)) 0 n) ∙ sym (span-shift f (m * n) n))
    ∙ sym (span-split f 0 (m * n) (m * n + n) (omega arith) (omega arith)) ∙ ap (span f 0) (sym e)

pub even-rows : (m : Form) (v : ℕ) (p : Part) → rows_bytes (even_pic m v) p ≡ samples_of (bytes_of m.format) (λ x. v) (rows_of m p * columns_of m p)
unfolding rows_bytes row_bytes samples_of even_pic
even-rows m v p = spans-flat (λ x. sample_bytes (bytes_of m.format) v) (columns_of m p) (rows_of m p)

pub even-some : (m : Form) (v : ℕ) (p : Part) → has_part m.format p ≡ true → plane_bytes (even_pic m v) p ≡ plane_head m p ++ samples_of (bytes_of m.format) (λ x. v) (rows_of m p * columns_of m p)
unfolding even_pic
even-some m v p h = plane-some (even_pic m v) p h ∙ ap (λ (q : List ℕ). plane_head m p ++ q) (even-rows m v p)

pub even-none : (m : Form) (v : ℕ) (p : Part) → has_part m.format p ≡ false → plane_bytes (even_pic m v) p ≡ []
unfolding even_pic
even-none m v p h = plane-none (even_pic m v) p h

pub length-even-plane : (m : Form) (v : ℕ) (p : Part) → length (plane_bytes (even_pic m v) p) ≡ plane_size m p
unfolding even_pic
length-even-plane m v p = length-plane_bytes (even_pic m v) p

-- a plane has at most so many samples
pub plane-small : (m : Form) → FormSound m → (p : Part) → rows_of m p * columns_of m p ≤ 2 ^ 31
plane-small m ok p = omega (arith, mul-below m.height m.width (rows_of m p) (columns_of m p) (rows-le m ok p) (columns-le m ok p), mul_comm m.width m.height, ok.area)

-- ---- all planes

flat-planes : (h : List ℕ) (m : Form) (y cb cr alpha : ℕ) → headed h (flat_pic m (by_part y cb cr alpha))
    ≡ h ++ (plane_bytes (even_pic m y) Luma ++ (plane_bytes (even_pic m cb) Cb ++ (plane_bytes (even_pic m cr) Cr ++ plane_bytes (even_pic m alpha) Alpha)))
unfolding headed flat_pic by_part even_pic plane_bytes rows_bytes row_bytes
flat-planes h m y cb cr alpha = refl

pub length-flat : (h : List ℕ) (m : Form) (y cb cr alpha : ℕ) → length h ≡ length (head_bytes m) → length (headed h (flat_pic m (by_part y cb cr alpha))) ≡ size_of m
unfolding size_of
length-flat h m y cb cr alpha e = ap length (flat-planes h m y cb cr alpha) ∙ simp (length-append, length-even-plane) (omega (arith, e))

-- a header and four planes, one after the other
pub flat-written : (h : List ℕ) (m : Form) (y cb cr alpha : ℕ) (d d1 d2 d3 d4 d5 : List ℕ) (i1 i2 i3 i4 i5 : ℕ) → length h ≡ length (head_bytes m) → size_of m ≤ length d
    → i1 ≡ 0 + length h → d1 ≡ puts d 0 h
    → i2 ≡ i1 + plane_size m Luma → d2 ≡ puts d1 i1 (plane_bytes (even_pic m y) Luma)
    → i3 ≡ i2 + plane_size m Cb → d3 ≡ puts d2 i2 (plane_bytes (even_pic m cb) Cb)
    → i4 ≡ i3 + plane_size m Cr → d4 ≡ puts d3 i3 (plane_bytes (even_pic m cr) Cr)
    → i5 ≡ i4 + plane_size m Alpha → d5 ≡ puts d4 i4 (plane_bytes (even_pic m alpha) Alpha)
    → (i5 ≡ size_of m) × (d5 ≡ puts d 0 (headed h (flat_pic m (by_part y cb cr alpha))))
flat-written h m y cb cr alpha d d1 d2 d3 d4 d5 i1 i2 i3 i4 i5 same room e1 q1 e2 q2 e3 q3 e4 q4 e5 q5 =
    let n = length-flat h m y cb cr alpha same in
    let s0 = writing-begin d 0 _ _ (flat-planes h m y cb cr alpha) (omega (arith, n, room)) in
    let s1 = writing-run h s0 e1 q1 in
    let s2 = writing-run (plane_bytes (even_pic m y) Luma) s1 (e2 ∙ ap (λ (k : ℕ). i1 + k) (sym (length-even-plane m y Luma))) q2 in
    let s3 = writing-run (plane_bytes (even_pic m cb) Cb) s2 (e3 ∙ ap (λ (k : ℕ). i2 + k) (sym (length-even-plane m cb Cb))) q3 in
    let s4 = writing-run (plane_bytes (even_pic m cr) Cr) s3 (e4 ∙ ap (λ (k : ℕ). i3 + k) (sym (length-even-plane m cr Cr))) q4 in
    let w = writing-last s4 (e5 ∙ ap (λ (k : ℕ). i4 + k) (sym (length-even-plane m alpha Alpha))) q5 in
    (w.0 ∙ omega (arith, n), w.1)
