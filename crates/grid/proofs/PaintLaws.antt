-- Laws of a canvas before its tiles.
use mathlib.Core.Bool.{false, true}
use mathlib.Core.List.{List, ◌++◌}
use mathlib.Core.Path.{◌∙◌, ◌≡◌, ap, refl, sym}
use Prim.Native.Nat.{◌*◌, ◌+◌, ◌≤◌, ℕ}
use native.Mathlib.Nat.{mul_assoc}
use native.Mathlib.Omega.{arith}
use lib.ListN.{drop, length, length-append, take}
use Rattle.laws.proofs.Order.{pick-false, pick_true}
use Rattle.laws.proofs.Puts.{length-puts, puts-append}
use Rattle.laws.proofs.Writing.{writing-begin, writing-last, writing-none, writing-run}
use Rattle.laws.specs.Puts.{Bytes, puts}
use Rattle.numbers.proofs.Number.{bytes-last}
use Rattle.numbers.specs.Number.{number_bytes}
use Rattle.image.proofs.FormLaws.{bytes-few}
use Rattle.image.specs.Format.{bytes_of, columns_of, has_part, row_size, rows_of, top_of, with_alpha}
use Rattle.image.specs.declared.format.Form.{Form}
use Rattle.image.specs.declared.format.Part.{Part}
use Rattle.image.specs.declared.format.Part.TheVariants.{Alpha, Cb, Cr, Luma}
use Rattle.planes.proofs.ByteLaws.{samples-taken}
use Rattle.planes.proofs.RoundTrip.{length-encode, length-plane_bytes, plane-none, plane-some}
use Rattle.planes.specs.Bytes.{encode, head_bytes, plane_bytes, plane_head, plane_size, row_bytes, rows_bytes, sample_at, sample_bytes, samples_of, size_of}
use Rattle.paste.proofs.EvenLaws.{length-even-plane, length-flat, spans-flat}
use Rattle.paste.proofs.StoreLaws.{puts-there}
use Rattle.paste.specs.Stored.{headed}
use Rattle.paste.specs.inner.Even.{by_part, even_pic, flat_pic}
use Rattle.grid.specs.Mosaic.{canvas_bytes, plain_at, plain_pic}
use Rattle.grid.specs.inner.Stored.{any_pic, under_at, under_pic}

-- a plain canvas is one of four samples
pub canvas-flat : (c : Form) (a : ℕ) → canvas_bytes c a ≡ headed (head_bytes (with_alpha c a)) (flat_pic c (by_part 0 0 0 (top_of c.format)))
unfolding canvas_bytes headed plain_pic plain_at flat_pic by_part plane_bytes rows_bytes row_bytes
canvas-flat c a = refl

pub head-alpha : (c : Form) (a : ℕ) → a ≤ 1 → c.format.alpha ≤ 1 → length (head_bytes (with_alpha c a)) ≡ length (head_bytes c)
unfolding head_bytes with_alpha
head-alpha c a l h =
    let e : length (number_bytes a) ≡ 1 = ap length (bytes-last a (omega arith)) in
    let f : length (number_bytes c.format.alpha) ≡ 1 = ap length (bytes-last c.format.alpha (omega arith)) in
    simp (length-append) (omega arith)

pub length-canvas : (c : Form) (a : ℕ) → a ≤ 1 → c.format.alpha ≤ 1 → length (canvas_bytes c a) ≡ size_of c
length-canvas c a l h = ap length (canvas-flat c a) ∙ length-flat _ c 0 0 0 (top_of c.format) (head-alpha c a l h)

-- ---- a canvas that its tiles will cover

-- the samples that stand from a place on, row after row
abbrev there_at : List ℕ → ℕ → ℕ → ℕ → ℕ → ℕ → ℕ
there_at d bytes i columns x y = sample_at d bytes (i + (y * columns + x) * bytes)

rows-there : (d : List ℕ) (m : Form) (p : Part) (i : ℕ) → Bytes d → i + rows_of m p * row_size m p ≤ length d
    → rows_bytes (any_pic m (there_at d (bytes_of m.format) i (columns_of m p))) p ≡ take (rows_of m p * row_size m p) (drop i d)
unfolding rows_bytes row_bytes samples_of any_pic row_size
rows-there d m p i small l =
    let few = bytes-few m.format in
    let e : rows_of m p * columns_of m p * bytes_of m.format ≡ rows_of m p * (columns_of m p * bytes_of m.format) = mul_assoc (rows_of m p) (columns_of m p) (bytes_of m.format) in
    spans-flat (λ k. sample_bytes (bytes_of m.format) (sample_at d (bytes_of m.format) (i + k * bytes_of m.format))) (columns_of m p) (rows_of m p)
    ∙ samples-taken d (bytes_of m.format) i (rows_of m p * columns_of m p) small few.0 few.1 (omega (arith, e))
    ∙ ap (λ (n : ℕ). take n (drop i d)) e

-- a plane's numbers alone: the plane of the samples that stand there
pub plane-there : (d e : List ℕ) (at : ℕ) (m : Form) (p : Part) → has_part m.format p ≡ true → at + plane_size m p ≤ length d → e ≡ puts d at (plane_head m p) → Bytes e
    → (f : ℕ → ℕ → ℕ) × (e ≡ puts d at (plane_bytes (any_pic m f) p))
unfolding plane_size any_pic
plane-there d e at m p h l q small =
    let n : plane_size m p ≡ length (plane_head m p) + rows_of m p * row_size m p = pick_true _ _ _ h in
    let long : length e ≡ length d = ap length q ∙ length-puts d at (plane_head m p) in
    let f = there_at e (bytes_of m.format) (at + length (plane_head m p)) (columns_of m p) in
    let r = rows-there e m p (at + length (plane_head m p)) small (omega (arith, n, long)) in (
      f,
      sym (ap (puts d at) (plane-some (any_pic m f) p h) ∙ puts-append d at (plane_head m p) _
          ∙ ap (λ (b : List ℕ). puts b (at + length (plane_head m p)) (rows_bytes (any_pic m f) p)) (sym q)
          ∙ puts-there e (at + length (plane_head m p)) (rows_of m p * row_size m p) (rows_bytes (any_pic m f) p) (omega (arith, n, long)) r),
    )

pub plane-lacks : (d : List ℕ) (at : ℕ) (m : Form) (p : Part) → has_part m.format p ≡ false
    → (at ≡ at + plane_size m p) × ((f : ℕ → ℕ → ℕ) × (d ≡ puts d at (plane_bytes (any_pic m f) p)))
unfolding plane_size any_pic
plane-lacks d at m p h =
    let z : plane_size m p ≡ 0 = pick-false _ _ _ h in
    (omega (arith, z), ((λ x y. 0), (writing-none d at _ (plane-none (any_pic m (λ x y. 0)) p h)).1))

-- all planes, one after the other
abbrev pub colours_of : (ℕ → ℕ → ℕ) → (ℕ → ℕ → ℕ) → (ℕ → ℕ → ℕ) → Part → ℕ → ℕ → ℕ
colours_of f g h Luma = f
colours_of f g h Cb = g
colours_of f g h Cr = h
colours_of f g h Alpha = h

under-planes : (c : Form) (f g h : ℕ → ℕ → ℕ) → encode (under_pic c (colours_of f g h))
    ≡ head_bytes c ++ (plane_bytes (any_pic c f) Luma ++ (plane_bytes (any_pic c g) Cb ++ (plane_bytes (any_pic c h) Cr ++ plane_bytes (even_pic c (top_of c.format)) Alpha)))
unfolding encode under_pic any_pic even_pic under_at plane_bytes rows_bytes row_bytes
under-planes c f g h = refl

length-any-plane : (m : Form) (f : ℕ → ℕ → ℕ) (p : Part) → length (plane_bytes (any_pic m f) p) ≡ plane_size m p
unfolding any_pic
length-any-plane m f p = length-plane_bytes (any_pic m f) p

under-form : (c : Form) (u : Part → ℕ → ℕ → ℕ) → (under_pic c u).form ≡ c
unfolding under_pic
under-form c u = refl

pub under-written : (c : Form) (d d1 d2 d3 d4 d5 : List ℕ) (i1 i2 i3 i4 i5 : ℕ) (f g h : ℕ → ℕ → ℕ) → size_of c ≤ length d
    → i1 ≡ 0 + length (head_bytes c) → d1 ≡ puts d 0 (head_bytes c)
    → i2 ≡ i1 + plane_size c Luma → d2 ≡ puts d1 i1 (plane_bytes (any_pic c f) Luma)
    → i3 ≡ i2 + plane_size c Cb → d3 ≡ puts d2 i2 (plane_bytes (any_pic c g) Cb)
    → i4 ≡ i3 + plane_size c Cr → d4 ≡ puts d3 i3 (plane_bytes (any_pic c h) Cr)
    → i5 ≡ i4 + plane_size c Alpha → d5 ≡ puts d4 i4 (plane_bytes (even_pic c (top_of c.format)) Alpha)
    → d5 ≡ puts d 0 (encode (under_pic c (colours_of f g h)))
under-written c d d1 d2 d3 d4 d5 i1 i2 i3 i4 i5 f g h room e1 q1 e2 q2 e3 q3 e4 q4 e5 q5 =
    let n : length (encode (under_pic c (colours_of f g h))) ≡ size_of c = length-encode _ ∙ ap size_of (under-form c _) in
    let s0 = writing-begin d 0 _ _ (under-planes c f g h) (omega (arith, n, room)) in
    let s1 = writing-run (head_bytes c) s0 e1 q1 in
    let s2 = writing-run (plane_bytes (any_pic c f) Luma) s1 (e2 ∙ ap (λ (k : ℕ). i1 + k) (sym (length-any-plane c f Luma))) q2 in
    let s3 = writing-run (plane_bytes (any_pic c g) Cb) s2 (e3 ∙ ap (λ (k : ℕ). i2 + k) (sym (length-any-plane c g Cb))) q3 in
    let s4 = writing-run (plane_bytes (any_pic c h) Cr) s3 (e4 ∙ ap (λ (k : ℕ). i3 + k) (sym (length-any-plane c h Cr))) q4 in
    (writing-last s4 (e5 ∙ ap (λ (k : ℕ). i4 + k) (sym (length-even-plane c (top_of c.format) Alpha))) q5).1
