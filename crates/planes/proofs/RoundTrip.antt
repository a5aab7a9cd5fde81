-- What was encoded reads back: the tight record of a picture is taken, and shows the picture.
use Rattle.std.specs.Prelude.{Ok}
use mathlib.Core.Bool.{Bool, false, true}
use mathlib.Core.List.{List, [], ◌++◌, ◌∷◌, append_assoc, append-nil}
use mathlib.Core.Path.{◌∙◌, ◌≡◌, ap, ap₂, refl, sym}
use Prim.Native.Nat.{◌%◌, ◌*◌, ◌+◌, ◌-◌, ◌/◌, ◌<◌, ◌^◌, ◌≤◌, suc, zero, ℕ}
use native.Mathlib.Nat.{mul_comm, not-suc-le-zero, suc-mul}
use native.Mathlib.Omega.{arith}
use lib.ListN.{drop, length, length-append, length-drop, take}
use lib.Seq.{take_at}
use borrow.Author.Tests.{eq-eqb, le-ltb, ne_eqb}
use Rattle.laws.proofs.Order.{by_equal, by-test, pick-false, pick_true}
use Rattle.laws.proofs.Out.{refuse-no, then-done}
use Rattle.laws.proofs.Span.{item-at, length-span-all, span-cong}
use Rattle.laws.specs.Out.{fitted}
use Rattle.laws.specs.Pick.{pick}
use Rattle.numbers.proofs.Number.{at_head, number_at, past-append}
use Rattle.numbers.specs.Number.{number_bytes, on_number}
use Rattle.image.proofs.FormLaws.{bytes-few, height-le, row-le, rows-some, size-le, width-le}
use Rattle.image.proofs.JudgedLaws.{form-taken}
use Rattle.image.specs.Format.{bytes_of, columns_of, has_part, row_size, rows_of}
use Rattle.records.specs.Record.{data_of, head_at, head_of, part_at, past, plane_at, plane_of, planes_at, record_at, record_of}
use Rattle.image.specs.Sound.{FormSound}
use Rattle.image.specs.declared.format.Form.{Form}
use Rattle.image.specs.declared.format.Part.{Part}
use Rattle.image.specs.declared.format.Part.TheVariants.{Alpha, Cb, Cr, Luma}
use Rattle.records.specs.declared.record.Plane.{Plane}
use Rattle.planes.proofs.ByteLaws.{length-sample_bytes, length-samples_of, sample-one, sample-two}
use Rattle.planes.specs.Bytes.{decode, encode, head_bytes, placed, plane_bytes, plane_head, plane_size, row_bytes, rows_bytes, sample_at, sample_bytes, sample_in, samples_of, size_of, tight_at}
use Rattle.planes.specs.inner.InRange.{InRange}
use Rattle.planes.specs.Picture.{Agree, Pic}

-- ---- how long a tight record is, by its form alone

pub length-row_bytes : (P : Pic) (p : Part) (y : ℕ) → length (row_bytes P p y) ≡ row_size P.form p
unfolding row_bytes row_size
length-row_bytes P p y = let b = bytes-few P.form.format in length-samples_of (bytes_of P.form.format) (λ x. P.at p x y) (columns_of P.form p) b.0 b.1

pub length-rows_bytes : (P : Pic) (p : Part) → length (rows_bytes P p) ≡ rows_of P.form p * row_size P.form p
unfolding rows_bytes
length-rows_bytes P p = length-span-all (row_bytes P p) (row_size P.form p) (rows_of P.form p) (length-row_bytes P p)

pub length-plane_bytes : (P : Pic) (p : Part) → length (plane_bytes P p) ≡ plane_size P.form p
unfolding plane_bytes plane_size pick
length-plane_bytes P p = go (has_part P.form.format p)
  where
    go : (t : Bool) → length (pick t (plane_head P.form p ++ rows_bytes P p) []) ≡ pick t (length (plane_head P.form p) + rows_of P.form p * row_size P.form p) 0
    go true = length-append (plane_head P.form p) (rows_bytes P p) ∙ ap (λ (n : ℕ). length (plane_head P.form p) + n) (length-rows_bytes P p)
    go false = refl

pub length-encode : (P : Pic) → length (encode P) ≡ size_of P.form
unfolding encode size_of
length-encode P = simp (length-append, length-plane_bytes)

-- ---- the parts of a record in turn

pub plane-some : (P : Pic) (p : Part) → has_part P.form.format p ≡ true → plane_bytes P p ≡ plane_head P.form p ++ rows_bytes P p
unfolding plane_bytes
plane-some P p h = pick_true _ _ _ h

pub plane-none : (P : Pic) (p : Part) → has_part P.form.format p ≡ false → plane_bytes P p ≡ []
unfolding plane_bytes
plane-none P p h = pick-false _ _ _ h

pub placed-some : (m : Form) (p : Part) (at : ℕ) → has_part m.format p ≡ true → placed m p at ≡ record { start = at + length (plane_head m p); len = rows_of m p * row_size m p; stride = row_size m p }
unfolding placed
placed-some m p at h = pick_true _ _ _ h

pub placed-none : (m : Form) (p : Part) (at : ℕ) → has_part m.format p ≡ false → placed m p at ≡ record { start = at; len = 0; stride = 0 }
unfolding placed
placed-none m p at h = pick-false _ _ _ h

module _ (P : Pic) (ok : FormSound P.form) where
  -- a plane that is there: its two numbers are read, and its rows stand past them
  plane-back : (s : List ℕ) (at : ℕ) (p : Part) (rest : List ℕ) → drop at s ≡ (plane_head P.form p ++ rows_bytes P p) ++ rest
      → (plane_at s at (rows_of P.form p) (row_size P.form p) ≡ Ok (record { start = at + length (plane_head P.form p); len = rows_of P.form p * row_size P.form p; stride = row_size P.form p }))
      × (drop (at + length (plane_head P.form p)) s ≡ rows_bytes P p ++ rest)
  unfolding plane_at on_number plane_head
  plane-back s at p rest e =
      let row = row_size P.form p in
      let rows = rows_of P.form p in
      let a = number_bytes row in
      let b = number_bytes (rows * row) in
      let e1 : drop at s ≡ a ++ (b ++ (rows_bytes P p ++ rest)) = e ∙ simp append_assoc in
      let e2 = past-append s at a (b ++ (rows_bytes P p ++ rest)) e1 in
      let e3 = past-append s (at + length a) b (rows_bytes P p ++ rest) e2 in
      let r1 = number_at s at row _ e1 (omega (arith, row-le P.form ok p)) in
      let r2 = number_at s (at + length a) (rows * row) _ e2 (omega (arith, size-le P.form ok p)) in
      let q : at + length a + length b ≡ at + length (a ++ b) = omega (arith, length-append a b) in
      let t2 : row * (rows - 1) + row ≤ rows * row = tight rows row (rows-some P.form ok p) in
      let t3 : rows * row ≤ length s - (at + length a + length b) = omega (arith, sym (length-drop (at + length a + length b) s) ∙ ap length e3, length-append (rows_bytes P p) rest, length-rows_bytes P p) in (
        simp (r1, r2) (refuse-no _ _ (le-ltb row row (omega arith)) ∙ refuse-no _ _ (le-ltb (rows * row) (row * (rows - 1) + row) t2) ∙ refuse-no _ _ (le-ltb (length s - (at + length a + length b)) (rows * row) t3)
            ∙ ap (λ (n : ℕ). Ok (record { start = n; len = rows * row; stride = row })) q),
        ap (λ (n : ℕ). drop n s) (sym q) ∙ e3,
      )
    where
      tight : (a b : ℕ) → 1 ≤ a → b * (a - 1) + b ≤ a * b
      tight zero b h = absurd (not-suc-le-zero h)
      tight (suc a) b h =
          let x : suc a - 1 ≡ a = omega arith in
          let y = suc-mul a b in
          let z = mul_comm b a in
          rw x (omega arith)

  pub part-back : (s : List ℕ) (at : ℕ) (p : Part) (rest : List ℕ) → drop at s ≡ plane_bytes P p ++ rest
      → (part_at s at P.form p ≡ Ok (placed P.form p at)) × (drop (past (placed P.form p at)) s ≡ rest)
  unfolding part_at past
  part-back s at p rest e =
      by-test (has_part P.form.format p)
      (λ h.
      let b = plane-back s at p rest (e ∙ ap (λ (l : List ℕ). l ++ rest) (plane-some P p h)) in
      let l : length (rows_bytes P p) ≡ rows_of P.form p * row_size P.form p = length-rows_bytes P p in (
        pick_true _ _ _ h ∙ b.0 ∙ ap Ok (sym (placed-some P.form p at h)),
        ap (λ (q : Plane). drop (q.start + q.len) s) (placed-some P.form p at h)
            ∙ ap (λ (n : ℕ). drop (at + length (plane_head P.form p) + n) s) (sym l) ∙ past-append s _ (rows_bytes P p) rest b.1,
      ))
      (λ h.
      let z : at + 0 ≡ at = omega arith in (
        pick-false _ _ _ h ∙ ap Ok (sym (placed-none P.form p at h)),
        ap (λ (q : Plane). drop (q.start + q.len) s) (placed-none P.form p at h) ∙ ap (λ (n : ℕ). drop n s) z ∙ e ∙ ap (λ (l : List ℕ). l ++ rest) (plane-none P p h),
      ))

-- a plane's own bytes
pub data-back : (P : Pic) → FormSound P.form → (s : List ℕ) (at : ℕ) (p : Part) (rest : List ℕ) → has_part P.form.format p ≡ true
    → drop at s ≡ plane_bytes P p ++ rest → data_of s (placed P.form p at) ≡ rows_bytes P p
unfolding data_of
data-back P ok s at p rest h e =
    let b = plane-back P ok s at p rest (e ∙ ap (λ (l : List ℕ). l ++ rest) (plane-some P p h)) in
    ap (λ (q : Plane). take q.len (drop q.start s)) (placed-some P.form p at h)
    ∙ ap (take (rows_of P.form p * row_size P.form p)) b.1 ∙ take_at (rows_bytes P p) rest _ (length-rows_bytes P p)

-- ---- the header

pub head-back : (m : Form) → FormSound m → (s : List ℕ) (at : ℕ) (rest : List ℕ) → drop at s ≡ head_bytes m ++ rest
    → (head_at s at ≡ Ok ((m, at + length (head_bytes m)))) × (drop (at + length (head_bytes m)) s ≡ rest)
unfolding head_at head_of head_bytes on_number
head-back m ok s at rest e =
    let f = m.format in
    let a = number_bytes m.width in
    let b = number_bytes m.height in
    let c = number_bytes f.chroma in
    let d = number_bytes f.depth in
    let g = number_bytes f.alpha in
    let e0 : drop at s ≡ a ++ (b ++ (c ++ (d ++ (g ++ rest)))) = e ∙ simp append_assoc in
    let e1 = past-append s at a (b ++ (c ++ (d ++ (g ++ rest)))) e0 in
    let e2 = past-append s (at + length a) b (c ++ (d ++ (g ++ rest))) e1 in
    let e3 = past-append s (at + length a + length b) c (d ++ (g ++ rest)) e2 in
    let e4 = past-append s (at + length a + length b + length c) d (g ++ rest) e3 in
    let e5 = past-append s (at + length a + length b + length c + length d) g rest e4 in
    let r0 = number_at s at m.width _ e0 (omega (arith, width-le m ok)) in
    let r1 = number_at s (at + length a) m.height _ e1 (omega (arith, height-le m ok)) in
    let r2 = number_at s (at + length a + length b) f.chroma _ e2 (omega (arith, ok.chroma)) in
    let r3 = number_at s (at + length a + length b + length c) f.depth _ e3 (omega (arith, ok.high)) in
    let r4 = number_at s (at + length a + length b + length c + length d) f.alpha _ e4 (omega (arith, ok.alpha)) in
    let q : at + length a + length b + length c + length d + length g ≡ at + length (a ++ (b ++ (c ++ (d ++ g)))) = simp length-append (omega arith) in (
      simp (r0, r1, r2, r3, r4) (then-done _ (form-taken m ok) ∙ ap (λ (n : ℕ). Ok ((m, n))) q),
      ap (λ (n : ℕ). drop n s) (sym q) ∙ e5,
    )

-- ---- the record

-- its planes, one after the other
pub tight-planes : (m : Form) (at a : ℕ) (luma cb cr alpha : Plane) → a ≡ at + length (head_bytes m) → luma ≡ placed m Luma a → cb ≡ placed m Cb (past luma)
    → cr ≡ placed m Cr (past cb) → alpha ≡ placed m Alpha (past cr) → record { form = m; luma = luma; cb = cb; cr = cr; alpha = alpha; end = past alpha } ≡ tight_at m at
unfolding tight_at
tight-planes m at a luma cb cr alpha e p q r t = rw (← e, ← p, ← q, ← r, ← t)

-- the tight record of a picture is taken where it stands, its planes hold the picture's rows, and what follows it stands past its end
pub record Back (P : Pic) (s : List ℕ) (at : ℕ) (rest : List ℕ) : Type 0 where
  pub taken : record_at s at ≡ Ok (tight_at P.form at)
  pub rows : (p : Part) → has_part P.form.format p ≡ true → data_of s (plane_of (tight_at P.form at) p) ≡ rows_bytes P p
  pub stride : (p : Part) → has_part P.form.format p ≡ true → (plane_of (tight_at P.form at) p).stride ≡ row_size P.form p
  pub after : drop (tight_at P.form at).end s ≡ rest

pub record-back : (P : Pic) → FormSound P.form → (s : List ℕ) (at : ℕ) (rest : List ℕ) → drop at s ≡ encode P ++ rest → Back P s at rest
unfolding record_at planes_at encode tight_at plane_of
record-back P ok s at rest e =
    record {
      taken = then-done _ k0.0 ∙ then-done _ k1.0 ∙ then-done _ k2.0 ∙ then-done _ k3.0 ∙ then-done _ k4.0;
      rows = rows;
      stride = stride;
      after = k4.1;
    }
  where
    b : List ℕ
    b = plane_bytes P Cb

    r : List ℕ
    r = plane_bytes P Cr

    a : List ℕ
    a = plane_bytes P Alpha

    k0 : (head_at s at ≡ Ok ((P.form, at + length (head_bytes P.form)))) × (drop (at + length (head_bytes P.form)) s ≡ plane_bytes P Luma ++ (b ++ (r ++ (a ++ rest))))
    k0 = head-back P.form ok s at (plane_bytes P Luma ++ (b ++ (r ++ (a ++ rest)))) (e ∙ simp append_assoc)

    l : Plane
    l = placed P.form Luma (at + length (head_bytes P.form))

    k1 : (part_at s (at + length (head_bytes P.form)) P.form Luma ≡ Ok l) × (drop (past l) s ≡ b ++ (r ++ (a ++ rest)))
    k1 = part-back P ok s _ Luma (b ++ (r ++ (a ++ rest))) k0.1

    c : Plane
    c = placed P.form Cb (past l)

    k2 : (part_at s (past l) P.form Cb ≡ Ok c) × (drop (past c) s ≡ r ++ (a ++ rest))
    k2 = part-back P ok s _ Cb (r ++ (a ++ rest)) k1.1

    d : Plane
    d = placed P.form Cr (past c)

    k3 : (part_at s (past c) P.form Cr ≡ Ok d) × (drop (past d) s ≡ a ++ rest)
    k3 = part-back P ok s _ Cr (a ++ rest) k2.1

    k4 : (part_at s (past d) P.form Alpha ≡ Ok (placed P.form Alpha (past d))) × (drop (past (placed P.form Alpha (past d))) s ≡ rest)
    k4 = part-back P ok s _ Alpha rest k3.1

    rows : (p : Part) → has_part P.form.format p ≡ true → data_of s (plane_of (tight_at P.form at) p) ≡ rows_bytes P p
    rows Luma h = data-back P ok s _ Luma _ h k0.1
    rows Cb h = data-back P ok s _ Cb _ h k1.1
    rows Cr h = data-back P ok s _ Cr _ h k2.1
    rows Alpha h = data-back P ok s _ Alpha _ h k3.1

    stride : (p : Part) → has_part P.form.format p ≡ true → (plane_of (tight_at P.form at) p).stride ≡ row_size P.form p
    stride Luma h = ap (λ (q : Plane). q.stride) (placed-some P.form Luma _ h)
    stride Cb h = ap (λ (q : Plane). q.stride) (placed-some P.form Cb _ h)
    stride Cr h = ap (λ (q : Plane). q.stride) (placed-some P.form Cr _ h)
    stride Alpha h = ap (λ (q : Plane). q.stride) (placed-some P.form Alpha _ h)

-- alone: it is the record, and nothing is left over
pub encode-back : (P : Pic) → FormSound P.form → record_of (encode P) ≡ Ok (tight_at P.form 0)
unfolding record_of
encode-back P ok =
    let k = record-back P ok (encode P) 0 [] (sym (append-nil (encode P))) in
    let n : length (encode P) ≤ (tight_at P.form 0).end = over _ _ (sym (length-drop _ (encode P)) ∙ ap length k.after) in
    then-done _ k.taken ∙ refuse-no _ _ (le-ltb _ _ n)
  where
    over : (n i : ℕ) → n - i ≡ 0 → n ≤ i
    over n i q = omega arith

-- ---- its samples

-- a picture whose samples fit their bytes
pub record Small (P : Pic) : Type 0 where
  pub small : (p : Part) (x y : ℕ) → x < columns_of P.form p → y < rows_of P.form p → P.at p x y < 256 ^ bytes_of P.form.format

sample-back : (s : List ℕ) (bytes i v : ℕ) (rest : List ℕ) → 1 ≤ bytes → bytes ≤ 2 → drop i s ≡ sample_bytes bytes v ++ rest → v < 256 ^ bytes → sample_at s bytes i ≡ v
unfolding sample_at
sample-back s bytes i v rest l h e small =
    by_equal bytes 1
    (λ q.
    let a = at_head s i (v % 256) rest (e ∙ ap (λ (t : List ℕ). t ++ rest) (sample-one bytes v q)) in
    let k : v < 256 ^ 1 = rw q at small in
    let b = a.1 in
    pick_true _ _ _ (eq-eqb bytes 1 q) ∙ omega arith)
    (λ q.
    let a = at_head s i (v % 256) (v / 256 % 256 ∷ rest) (e ∙ ap (λ (t : List ℕ). t ++ rest) (sample-two bytes v q)) in
    let b = at_head s (i + 1) (v / 256 % 256) rest a.2 in
    let two : bytes ≡ 2 = omega arith in
    let k : v < 256 ^ 2 = rw two at small in
    let x = a.1 in
    let y = b.1 in
    let z : v / 256 % 256 ≡ v / 256 = omega arith in
    pick-false _ _ _ (ne_eqb bytes 1 q) ∙ omega arith)

-- a sample of a plane's own bytes
pub sample-rows : (P : Pic) → Small P → (p : Part) (x y : ℕ) → x < columns_of P.form p → y < rows_of P.form p
    → sample_in (rows_bytes P p) (bytes_of P.form.format) (row_size P.form p) x y ≡ P.at p x y
unfolding sample_in rows_bytes row_bytes samples_of
sample-rows P k p x y hx hy =
    let few = bytes-few P.form.format in
    let bytes = bytes_of P.form.format in
    let row = row_size P.form p in
    let s = rows_bytes P p in
    let r = item-at s 0 (row_bytes P p) row (rows_of P.form p) [] (length-row_bytes P p) (sym (append-nil s)) y hy in
    let c = item-at s (0 + y * row) (λ i. sample_bytes bytes (P.at p i y)) bytes (columns_of P.form p) _ (λ i. length-sample_bytes bytes (P.at p i y) few.0 few.1) r x hx in
    let z : 0 + y * row + x * bytes ≡ y * row + x * bytes = omega arith in
    sample-back s bytes (y * row + x * bytes) (P.at p x y) _ few.0 few.1 (ap (λ (n : ℕ). drop n s) (sym z) ∙ c) (k.small p x y hx hy)

-- ---- pictures that agree where they have samples

pub agree-self : (P : Pic) → Agree P P
agree-self P = record { form = refl; reads = λ p h x y a b. refl }

pub agree-sym : (P Q : Pic) → Agree P Q → Agree Q P
agree-sym P Q a =
    let e = sym a.form in
    record {
      form = e;
      reads = λ p h x y i j.
          sym (a.reads p (ap (λ (m : Form). has_part m.format p) a.form ∙ h) x y
          (rw (← e) i) (rw (← e) j));
    }

pub agree_trans : (P Q R : Pic) → Agree P Q → Agree Q R → Agree P R
agree_trans P Q R a b =
    let e = a.form in
    record {
      form = a.form ∙ b.form;
      reads = λ p h x y i j. a.reads p h x y i j ∙ b.reads p (ap (λ (m : Form). has_part m.format p) (sym e) ∙ h) x y (rw (← e) i) (rw (← e) j);
    }

pub agree-in-range : (P Q : Pic) → Agree P Q → InRange P → InRange Q
agree-in-range P Q a k =
    let b = agree-sym P Q a in
    let e = b.form in
    record {
      sound = rw e k.sound;
      small = λ p h x y i j.
          let s = k.small p (ap (λ (m : Form). has_part m.format p) a.form ∙ h) x y (rw (← e) i) (rw (← e) j) in
          rw (b.reads p h x y i j, e) s;
    }

module _ (m : Form) (f g : Part → ℕ → ℕ → ℕ) where
  pub plane-agree : (p : Part) → ((x y : ℕ) → has_part m.format p ≡ true → x < columns_of m p → y < rows_of m p → f p x y ≡ g p x y)
      → plane_bytes (record { form = m; at = f }) p ≡ plane_bytes (record { form = m; at = g }) p
  unfolding plane_bytes rows_bytes row_bytes samples_of
  plane-agree p h = by-test (has_part m.format p)
      (λ t.
      pick_true _ _ _ t
      ∙ ap (λ (l : List ℕ). plane_head m p ++ l)
      (span-cong _ _ 0 (rows_of m p) (λ y a b. span-cong _ _ 0 (columns_of m p) (λ x c d. ap (sample_bytes (bytes_of m.format)) (h x y t d b))))
      ∙ sym (pick_true _ _ _ t))
      (λ t. pick-false _ _ _ t ∙ sym (pick-false _ _ _ t))

-- an encoding depends on the form and on the samples in range alone
pub encode-agree : (P Q : Pic) → Agree P Q → encode P ≡ encode Q
unfolding encode
encode-agree P Q a = go ∙ ap (λ (m : Form). encode (record { form = m; at = Q.at })) a.form
  where
    each : (p : Part) → plane_bytes P p ≡ plane_bytes (record { form = P.form; at = Q.at }) p
    each p = plane-agree P.form P.at Q.at p (λ x y t c d. a.reads p t x y c d)

    go : encode P ≡ encode (record { form = P.form; at = Q.at })
    go = rw (each Luma, each Cb, each Cr, each Alpha)

-- a run ends as the picture that agrees with its own
pub drawn-as : (room : ℕ) (A B : Pic) → Agree A B → fitted room (encode B) ≡ fitted room (encode A)
drawn-as room A B a = ap (fitted room) (sym (encode-agree A B a))

-- THE READ-BACK LAW: what was encoded is taken where it stands, and shows the picture
pub decode-encode : (P : Pic) → FormSound P.form → Small P → (s : List ℕ) (at : ℕ) (rest : List ℕ) → drop at s ≡ encode P ++ rest
    → (record_at s at ≡ Ok (tight_at P.form at)) × Agree (decode s (tight_at P.form at)) P
unfolding decode tight_at
decode-encode P ok k s at rest e =
    let b = record-back P ok s at rest e in (
      b.taken,
      record {
        form = refl;
        reads = λ p t x y hx hy.
            ap₂ (λ (d : List ℕ) (n : ℕ). sample_in d (bytes_of P.form.format) n x y) (b.rows p t) (b.stride p t) ∙ sample-rows P k p x y hx hy;
      },
    )
