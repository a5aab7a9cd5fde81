-- What holds of a record that was taken.
use Rattle.std.specs.Prelude.{Ok, Err}
use mathlib.Core.Bool.{Bool, true}
use mathlib.Core.List.{List}
use mathlib.Core.Path.{◌∙◌, ◌≡◌, ap, refl, sym}
use Prim.Native.Nat.{◌*◌, ◌+◌, ◌-◌, ◌<◌, ◌^◌, ◌≤◌, ℕ}
use native.Mathlib.Nat.{mul_comm, mul-le-mul_right}
use native.Mathlib.Omega.{arith}
use lib.Dec.{ltb}
use lib.ListN.{drop, length, length-drop}
use lib.Seq.{length-take-le}
use borrow.Author.Tests.{ltb-false}
use Rattle.laws.proofs.Order.{by-test, item-within, pick-false, pick_true}
use Rattle.laws.proofs.Out.{and_then-done, done-same, not_done, refuse-done}
use Rattle.laws.specs.Out.{Out}
use Rattle.laws.specs.Pick.{pick}
use Rattle.numbers.proofs.Number.{read-bounds}
use Rattle.numbers.specs.Number.{on_number}
use Rattle.image.proofs.JudgedLaws.{form-sound}
use Rattle.image.specs.Format.{bytes_of, columns_of, has_part, row_size, rows_of}
use Rattle.image.specs.Sound.{FormSound}
use Rattle.image.specs.declared.format.Form.{Form}
use Rattle.image.specs.declared.format.Part.{Part}
use Rattle.image.specs.declared.format.Part.TheVariants.{Alpha, Cb, Cr, Luma}
use Rattle.records.specs.Record.{data_of, head_at, head_of, part_at, past, plane_at, plane_of, planes_at, record_at, record_of}
use Rattle.records.specs.declared.record.Frame.{Frame}
use Rattle.records.specs.declared.record.Plane.{Plane}
use Rattle.records.specs.inner.Placed.{PlaneSound, Sound}

-- a number that was read, and what went on with it
pub on-number : {A : Type 0} (r : Out (ℕ × ℕ)) (k : ℕ → ℕ → Out A) (a : A) → on_number r k ≡ Ok a → (v : ℕ) × (n : ℕ) × (r ≡ Ok (v, n)) × (k v n ≡ Ok a)
unfolding on_number
on-number (Ok (v, n)) k a e = (v, n, refl, e)
on-number (Err r) k a e = not_done _ a e

-- ---- the header

pub head-sound : (s : List ℕ) (at : ℕ) (h : Form × ℕ) → head_at s at ≡ Ok h → FormSound h.0 × (h.1 ≤ length s)
unfolding head_at head_of
head-sound s at h e =
    let a = on-number _ _ h e in
    let b = on-number _ _ h a.3 in
    let c = on-number _ _ h b.3 in
    let d = on-number _ _ h c.3 in
    let f = on-number _ _ h d.3 in
    let g = and_then-done _ _ h f.3 in
    rw (← done-same _ h g.2) (form-sound _ _ _ _ _ _ g.1, (read-bounds s _ _ _ f.2).1)

-- ---- a plane

pub plane-sound : (s : List ℕ) (at rows row : ℕ) (q : Plane) → plane_at s at rows row ≡ Ok q
    → (q.start + q.len ≤ length s) × (row ≤ q.stride) × (q.stride * (rows - 1) + row ≤ q.len) × (q.stride < 2 ^ 32)
unfolding plane_at
plane-sound s at rows row q e =
    let a = on-number _ _ q e in
    let b = on-number _ _ q a.3 in
    let c = refuse-done (ltb a.0 row) 5 _ q b.3 in
    let d = refuse-done (ltb b.0 (a.0 * (rows - 1) + row)) 5 _ q c.1 in
    let f = refuse-done (ltb (length s - b.1) b.0) 5 _ q d.1 in
    let x = ltb-false _ _ f.0 in
    rw (← done-same _ q f.1) (inside b.0 b.1 (length s) (read-bounds s _ _ _ b.2).1 x, ltb-false _ _ c.0, ltb-false _ _ d.0, (read-bounds s _ _ _ a.2).0)
  where
    inside : (v n l : ℕ) → n ≤ l → v ≤ l - n → n + v ≤ l
    inside v n l h k = omega arith

pub part_sound : (s : List ℕ) (at : ℕ) (m : Form) (p : Part) (q : Plane) → part_at s at m p ≡ Ok q → has_part m.format p ≡ true → PlaneSound s m p q
unfolding part_at
part_sound s at m p q e h =
    let r = plane-sound s at (rows_of m p) (row_size m p) q (sym (pick_true _ _ _ h) ∙ e) in
    record { inside = r.0; stride = r.1; rows = r.2; small = r.3 }

-- its length is a number that was read
plane-len : (s : List ℕ) (at rows row : ℕ) (q : Plane) → plane_at s at rows row ≡ Ok q → q.len < 2 ^ 32
unfolding plane_at
plane-len s at rows row q e =
    let a = on-number _ _ q e in
    let b = on-number _ _ q a.3 in
    let c = refuse-done (ltb a.0 row) 5 _ q b.3 in
    let d = refuse-done (ltb b.0 (a.0 * (rows - 1) + row)) 5 _ q c.1 in
    let f = refuse-done (ltb (length s - b.1) b.0) 5 _ q d.1 in
    rw (← done-same _ q f.1) (read-bounds s _ _ _ b.2).0

-- a part's plane, by numbers that are the part's
pub part-as : (s : List ℕ) (at : ℕ) (m : Form) (p : Part) (has : Bool) (rows row : ℕ) → has ≡ has_part m.format p → rows ≡ rows_of m p → row ≡ row_size m p
    → pick has (plane_at s at rows row) (Ok (record { start = at; len = 0; stride = 0 })) ≡ part_at s at m p
unfolding part_at
part-as s at m p has rows row e f g = rw (e, f, g)

part-len : (s : List ℕ) (at : ℕ) (m : Form) (p : Part) (q : Plane) → part_at s at m p ≡ Ok q → q.len < 2 ^ 32
unfolding part_at
part-len s at m p q e =
    by-test (has_part m.format p)
    (λ h. plane-len s at (rows_of m p) (row_size m p) q (sym (pick_true _ _ _ h) ∙ e))
    (λ h. rw (← done-same _ q (sym (pick-false _ _ _ h) ∙ e)) (omega arith))

-- the next plane begins inside
pub part-past : (s : List ℕ) (at : ℕ) (m : Form) (p : Part) (q : Plane) → part_at s at m p ≡ Ok q → at ≤ length s → past q ≤ length s
unfolding past part_at
part-past s at m p q e l =
    by-test (has_part m.format p)
    (λ h. (plane-sound s at (rows_of m p) (row_size m p) q (sym (pick_true _ _ _ h) ∙ e)).0)
    (λ h. rw (← done-same _ q (sym (pick-false _ _ _ h) ∙ e)) (omega arith))

-- ---- a record

pub planes-sound : (s : List ℕ) (at : ℕ) (m : Form) (fr : Frame) → FormSound m → at ≤ length s → planes_at s at m ≡ Ok fr → Sound s fr
unfolding planes_at plane_of
planes-sound s at m fr ok l e =
    let a = and_then-done _ _ fr e in
    let b = and_then-done _ _ fr a.2 in
    let c = and_then-done _ _ fr b.2 in
    let d = and_then-done _ _ fr c.2 in
    let pa = part-past s at m Luma a.0 a.1 l in
    let pb = part-past s (past a.0) m Cb b.0 b.1 pa in
    let pc = part-past s (past b.0) m Cr c.0 c.1 pb in
    let pd = part-past s (past c.0) m Alpha d.0 d.1 pc in
    rw (← done-same _ fr d.2) (record { form = ok; planes = each a.0 b.0 c.0 d.0 a.1 b.1 c.1 d.1; end = pd })
  where
    each : (q t u v : Plane) → part_at s at m Luma ≡ Ok q → part_at s (past q) m Cb ≡ Ok t → part_at s (past t) m Cr ≡ Ok u → part_at s (past u) m Alpha ≡ Ok v
        → (p : Part) → has_part m.format p ≡ true
        → PlaneSound s m p (plane_of (record { form = m; luma = q; cb = t; cr = u; alpha = v; end = past v }) p)
    each q t u v eq et eu ev Luma h = part_sound s at m Luma q eq h
    each q t u v eq et eu ev Cb h = part_sound s (past q) m Cb t et h
    each q t u v eq et eu ev Cr h = part_sound s (past t) m Cr u eu h
    each q t u v eq et eu ev Alpha h = part_sound s (past u) m Alpha v ev h

pub record-sound : (s : List ℕ) (at : ℕ) (fr : Frame) → record_at s at ≡ Ok fr → Sound s fr
unfolding record_at
record-sound s at fr e =
    let h = and_then-done _ _ fr e in
    let k = head-sound s at h.0 h.1 in
    planes-sound s h.0.1 h.0.0 fr k.0 k.1 h.2

-- a record alone ends where its bytes do
pub whole-sound : (s : List ℕ) (fr : Frame) → record_of s ≡ Ok fr → Sound s fr × (record_at s 0 ≡ Ok fr) × (fr.end ≡ length s)
unfolding record_of
whole-sound s fr e =
    let a = and_then-done _ _ fr e in
    let b = refuse-done (ltb a.0.end (length s)) 5 _ fr a.2 in
    let g : a.0 ≡ fr = done-same _ fr b.1 in
    let f : record_at s 0 ≡ Ok fr = a.1 ∙ ap Ok g in
    let o = record-sound s 0 fr f in
    (o, f, ends a.0.end fr.end (length s) (ltb-false a.0.end (length s) b.0) (ap (λ (k : Frame). k.end) g) o.end)
  where
    ends : (x y n : ℕ) → n ≤ x → x ≡ y → y ≤ n → y ≡ n
    ends x y n h q l = omega arith

-- every plane's length fits a number
pub record-lens : (s : List ℕ) (fr : Frame) → record_of s ≡ Ok fr → (p : Part) → (plane_of fr p).len < 2 ^ 32
unfolding record_at planes_at plane_of
record-lens s fr e p =
    let h = and_then-done _ _ fr (whole-sound s fr e).1 in
    let a = and_then-done _ _ fr h.2 in
    let b = and_then-done _ _ fr a.2 in
    let c = and_then-done _ _ fr b.2 in
    let d = and_then-done _ _ fr c.2 in
    rw (← done-same _ fr d.2) (each h.0.0 (past d.0) a.0 b.0 c.0 d.0 (part-len s _ _ _ _ a.1) (part-len s _ _ _ _ b.1) (part-len s _ _ _ _ c.1) (part-len s _ _ _ _ d.1) p)
  where
    each : (m : Form) (n : ℕ) (q t u v : Plane) → q.len < 2 ^ 32 → t.len < 2 ^ 32 → u.len < 2 ^ 32 → v.len < 2 ^ 32 → (k : Part)
        → (plane_of (record { form = m; luma = q; cb = t; cr = u; alpha = v; end = n }) k).len < 2 ^ 32
    each m n q t u v eq et eu ev Luma = eq
    each m n q t u v eq et eu ev Cb = et
    each m n q t u v eq et eu ev Cr = eu
    each m n q t u v eq et eu ev Alpha = ev

-- ---- a sample of a plane

pub length-data : (s : List ℕ) (q : Plane) → q.start + q.len ≤ length s → length (data_of s q) ≡ q.len
unfolding data_of
length-data s q h = length-take-le q.len (drop q.start s) (omega (arith, length-drop q.start s))

pub sample-inside : (s : List ℕ) (m : Form) (p : Part) (q : Plane) → PlaneSound s m p q → (x y : ℕ) → x < columns_of m p → y < rows_of m p
    → y * q.stride + x * bytes_of m.format + bytes_of m.format ≤ length (data_of s q)
unfolding row_size
sample-inside s m p q k x y hx hy =
    let b = bytes_of m.format in
    let l : length (data_of s q) ≡ q.len = length-data s q k.inside in
    let c : x * b + b ≤ columns_of m p * b = item-within x (columns_of m p) b hx in
    let r : y * q.stride ≤ (rows_of m p - 1) * q.stride = mul-le-mul_right q.stride (omega arith) in
    let e : q.stride * (rows_of m p - 1) ≡ (rows_of m p - 1) * q.stride = mul_comm q.stride (rows_of m p - 1) in
    omega (arith, k.rows)
