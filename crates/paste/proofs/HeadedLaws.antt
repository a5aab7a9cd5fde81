-- Laws of a record's planes one after the other: where each part's rows stand, and a record with one part changed.
use mathlib.Core.Bool.{Bool, false, true}
use mathlib.Core.List.{List, [], ◌++◌, append_assoc}
use mathlib.Core.Path.{◌∙◌, ◌≡◌, ap, ap₂, refl, sym}
use Prim.Native.Nat.{◌*◌, ◌+◌, ◌≤◌, ℕ}
use native.Mathlib.Omega.{arith}
use lib.Dec.{eqb}
use lib.ListN.{length, length-append}
use borrow.Author.Tests.{eq-eqb}
use Rattle.laws.proofs.Order.{by-test, pick-false, pick_true}
use Rattle.laws.specs.Pick.{pick}
use Rattle.image.specs.Format.{has_part, row_size, rows_of}
use Rattle.records.specs.Record.{past, plane_of}
use Rattle.image.specs.declared.format.Form.{Form}
use Rattle.image.specs.declared.format.Part.{Part}
use Rattle.image.specs.declared.format.Part.TheVariants.{Alpha, Cb, Cr, Luma}
use Rattle.records.specs.declared.record.Frame.{Frame}
use Rattle.records.specs.declared.record.Plane.{Plane}
use Rattle.planes.proofs.RoundTrip.{length-plane_bytes, placed-none, placed-some, plane-some}
use Rattle.planes.specs.Bytes.{head_bytes, placed, plane_bytes, plane_head, plane_size, row_bytes, rows_bytes, size_of, tight_at}
use Rattle.planes.specs.Picture.{Pic}
use Rattle.paste.specs.Stored.{headed}

-- ---- where a part stands

-- the place where a part's numbers begin
unfoldable pub begin_of : Form → Part → ℕ
begin_of m Luma = length (head_bytes m)
begin_of m Cb = length (head_bytes m) + plane_size m Luma
begin_of m Cr = length (head_bytes m) + plane_size m Luma + plane_size m Cb
begin_of m Alpha = length (head_bytes m) + plane_size m Luma + plane_size m Cb + plane_size m Cr

past-placed : (m : Form) (p : Part) (at : ℕ) → past (placed m p at) ≡ at + plane_size m p
unfolding past plane_size
past-placed m p at =
    by-test (has_part m.format p)
    (λ h. ap (λ (q : Plane). q.start + q.len) (placed-some m p at h) ∙ omega arith ∙ ap (λ (n : ℕ). at + n) (sym (pick_true _ _ _ h)))
    (λ h. ap (λ (q : Plane). q.start + q.len) (placed-none m p at h) ∙ ap (λ (n : ℕ). at + n) (sym (pick-false _ _ _ h)))

tight-placed : (m : Form) (p : Part) → plane_of (tight_at m 0) p ≡ placed m p (begin_of m p)
unfolding tight_at plane_of begin_of
tight-placed m Luma = let z : 0 + length (head_bytes m) ≡ length (head_bytes m) = omega arith in ap (placed m Luma) z
tight-placed m Cb = let z : 0 + length (head_bytes m) ≡ length (head_bytes m) = omega arith in ap (placed m Cb) (past-placed m Luma _ ∙ ap (λ (n : ℕ). n + plane_size m Luma) z)
tight-placed m Cr =
    let z : 0 + length (head_bytes m) ≡ length (head_bytes m) = omega arith in
    ap (placed m Cr) (past-placed m Cb _ ∙ ap (λ (n : ℕ). n + plane_size m Cb) (past-placed m Luma _ ∙ ap (λ (n : ℕ). n + plane_size m Luma) z))
tight-placed m Alpha =
    let z : 0 + length (head_bytes m) ≡ length (head_bytes m) = omega arith in
    ap (placed m Alpha) (past-placed m Cr _ ∙ ap (λ (n : ℕ). n + plane_size m Cr) (past-placed m Cb _ ∙ ap (λ (n : ℕ). n + plane_size m Cb) (past-placed m Luma _ ∙ ap (λ (n : ℕ). n + plane_size m Luma) z)))

-- a tight record is its form's
pub tight-form : (m : Form) (fr : Frame) → fr ≡ tight_at m 0 → (fr.form ≡ m) × (fr ≡ tight_at fr.form 0)
unfolding tight_at
tight-form m fr e = let f : fr.form ≡ m = ap (λ (q : Frame). q.form) e in (f, e ∙ ap (λ (q : Form). tight_at q 0) (sym f))

pub tight-part : (m : Form) (p : Part) → has_part m.format p ≡ true
    → plane_of (tight_at m 0) p ≡ record { start = begin_of m p + length (plane_head m p); len = rows_of m p * row_size m p; stride = row_size m p }
tight-part m p h = tight-placed m p ∙ placed-some m p (begin_of m p) h

-- ---- a record with one part changed

unfoldable pub part_number : Part → ℕ
part_number Luma = 0
part_number Cb = 1
part_number Cr = 2
part_number Alpha = 3

unfoldable pub same_part : Part → Part → Bool
same_part p q = eqb (part_number p) (part_number q)

unfoldable pub on_part : Pic → Part → (ℕ → ℕ → ℕ) → Pic
on_part P p f = record { form = P.form; at = λ q x y. pick (same_part p q) (f x y) (P.at q x y) }

-- the bytes before and after a part's rows
unfoldable pub before_part : List ℕ → Pic → Part → List ℕ
before_part h P Luma = h ++ plane_head P.form Luma
before_part h P Cb = h ++ (plane_bytes P Luma ++ plane_head P.form Cb)
before_part h P Cr = h ++ (plane_bytes P Luma ++ (plane_bytes P Cb ++ plane_head P.form Cr))
before_part h P Alpha = h ++ (plane_bytes P Luma ++ (plane_bytes P Cb ++ (plane_bytes P Cr ++ plane_head P.form Alpha)))

unfoldable pub after_part : Pic → Part → List ℕ
after_part P Luma = plane_bytes P Cb ++ (plane_bytes P Cr ++ plane_bytes P Alpha)
after_part P Cb = plane_bytes P Cr ++ plane_bytes P Alpha
after_part P Cr = plane_bytes P Alpha
after_part P Alpha = []

pub headed-split : (h : List ℕ) (P : Pic) (p : Part) (rest : List ℕ) → has_part P.form.format p ≡ true
    → headed h P ++ rest ≡ before_part h P p ++ (rows_bytes P p ++ (after_part P p ++ rest))
unfolding headed before_part after_part
headed-split h P Luma rest t = rw (plane-some P Luma t) (simp append_assoc)
headed-split h P Cb rest t = rw (plane-some P Cb t) (simp append_assoc)
headed-split h P Cr rest t = rw (plane-some P Cr t) (simp append_assoc)
headed-split h P Alpha rest t = rw (plane-some P Alpha t) (simp append_assoc)

pub length_before : (h : List ℕ) (P : Pic) (p : Part) → length h ≡ length (head_bytes P.form) → length (before_part h P p) ≡ begin_of P.form p + length (plane_head P.form p)
unfolding before_part begin_of
length_before h P Luma e = length-append h _ ∙ omega arith
length_before h P Cb e = simp (length-append, length-plane_bytes) (omega arith)
length_before h P Cr e = simp (length-append, length-plane_bytes) (omega arith)
length_before h P Alpha e = simp (length-append, length-plane_bytes) (omega arith)

before_same : (h : List ℕ) (P : Pic) (p : Part) (f : ℕ → ℕ → ℕ) → before_part h (on_part P p f) p ≡ before_part h P p
unfolding before_part on_part same_part part_number plane_bytes rows_bytes row_bytes pick
before_same h P Luma f = refl
before_same h P Cb f = refl
before_same h P Cr f = refl
before_same h P Alpha f = refl

after_same : (P : Pic) (p : Part) (f : ℕ → ℕ → ℕ) → after_part (on_part P p f) p ≡ after_part P p
unfolding after_part on_part same_part part_number plane_bytes rows_bytes row_bytes pick
after_same P Luma f = refl
after_same P Cb f = refl
after_same P Cr f = refl
after_same P Alpha f = refl

pub on_part-split : (h : List ℕ) (P : Pic) (p : Part) (f : ℕ → ℕ → ℕ) (rest : List ℕ) → has_part P.form.format p ≡ true
    → headed h (on_part P p f) ++ rest ≡ before_part h P p ++ (rows_bytes (on_part P p f) p ++ (after_part P p ++ rest))
unfolding on_part
on_part-split h P p f rest t =
    headed-split h (on_part P p f) p rest t
    ∙ ap₂ (λ (a b : List ℕ). a ++ (rows_bytes (on_part P p f) p ++ (b ++ rest))) (before_same h P p f) (after_same P p f)

-- the part that was changed, and the others
pub on_part-here : (P : Pic) (p : Part) (f : ℕ → ℕ → ℕ) (x y : ℕ) → (on_part P p f).at p x y ≡ f x y
unfolding on_part same_part
on_part-here P p f x y = pick_true _ _ _ (eq-eqb (part_number p) (part_number p) refl)

pub on_part-other : (P : Pic) (p q : Part) (f : ℕ → ℕ → ℕ) (x y : ℕ) → same_part p q ≡ false → (on_part P p f).at q x y ≡ P.at q x y
unfolding on_part
on_part-other P p q f x y e = pick-false _ _ _ e

-- where a part's rows begin
pub part-start : (m : Form) (p : Part) → has_part m.format p ≡ true → (plane_of (tight_at m 0) p).start ≡ begin_of m p + length (plane_head m p)
part-start m p h = ap (λ (q : Plane). q.start) (tight-part m p h)

pub part-stride : (m : Form) (p : Part) → has_part m.format p ≡ true → (plane_of (tight_at m 0) p).stride ≡ row_size m p
part-stride m p h = ap (λ (q : Plane). q.stride) (tight-part m p h)

-- a part's bytes end inside the record
begin-size : (m : Form) (p : Part) → begin_of m p + plane_size m p ≤ size_of m
unfolding begin_of size_of
begin-size m Luma = omega arith
begin-size m Cb = omega arith
begin-size m Cr = omega arith
begin-size m Alpha = omega arith

pub part_end : (m : Form) (p : Part) → has_part m.format p ≡ true → (plane_of (tight_at m 0) p).start + rows_of m p * row_size m p ≤ size_of m
unfolding plane_size
part_end m p h = let b : plane_size m p ≡ length (plane_head m p) + rows_of m p * row_size m p = pick_true _ _ _ h in omega (arith, part-start m p h, begin-size m p)
