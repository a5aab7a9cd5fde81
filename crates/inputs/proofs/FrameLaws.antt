-- Laws of records in turn, and of the search through them.
use Rattle.laws.specs.declared.Item.TheVariants.{Record}
use Rattle.std.specs.Prelude.{Ok, Err}
use mathlib.Core.Bool.{Bool, ◌&&◌, ◌||◌, false, true}
use mathlib.Core.List.{List, [], ◌∷◌}
use mathlib.Core.Path.{◌∙◌, ◌≡◌, ap, ap₂, refl, sym}
use Prim.Native.Nat.{◌*◌, ◌+◌, ◌-◌, ◌<◌, ◌^◌, ◌≤◌, suc, zero, ℕ}
use native.Mathlib.Nat.{not-suc-le-zero}
use native.Mathlib.Omega.{arith}
use lib.Dec.{eqb, leb, ltb}
use lib.ListN.{length}
use borrow.Author.Tests.{eq-eqb, le-ltb, lt-leb, lt-ltb, ne_eqb}
use Rattle.laws.proofs.Order.{by_equal, by_order, by-test, pick-false, pick-le, pick_true, true-and}
use Rattle.laws.proofs.Out.{about-done, after-done, and_then-done, done-same, refuse-done}
use Rattle.laws.specs.Any.{any_below}
use Rattle.laws.specs.Out.{Out}
use Rattle.laws.specs.Pick.{pick}
use Rattle.laws.specs.Puts.{Bytes}
use Rattle.laws.specs.declared.Refusal.{Refusal}
use Rattle.image.proofs.FormLaws.{bytes-few}
use Rattle.records.proofs.RecordLaws.{head-sound, part-past, record-sound, sample-inside}
use Rattle.image.specs.Format.{bytes_of, columns_of, halved, has_alpha, has_part, rows_of, side_of}
use Rattle.records.specs.Record.{data_of, past, plane_of, planes_at, record_at}
use Rattle.records.specs.Tray.{frames_at}
use Rattle.image.specs.declared.format.Form.{Form}
use Rattle.image.specs.declared.format.Part.{Part}
use Rattle.image.specs.declared.format.Part.TheVariants.{Alpha, Cb, Cr, Luma}
use Rattle.records.specs.declared.record.Frame.{Frame}
use Rattle.records.specs.declared.record.Plane.{Plane}
use Rattle.records.specs.inner.Frames.{frames_from, onward}
use Rattle.records.specs.inner.Placed.{InSlice}
use Rattle.planes.proofs.ByteLaws.{sample-small}
use Rattle.planes.specs.Bytes.{decode, sample_in}
use Rattle.inputs.specs.Inputs.{alpha_above, first_form}
use Rattle.inputs.specs.declared.alpha_check.AlphaPlane.{AlphaPlane}
use Rattle.inputs.specs.inner.Summary.{alpha_plane, alpha_plane_at, no_alpha, searched_rows}
use Rattle.inputs.specs.inner.Sought.{found_at}
use Rattle.inputs.proofs.FoundLaws.{found_here, found-next, none_found}

-- ---- records in turn

pub from-read : (n : ℕ) (s : List ℕ) (at : ℕ) (fr : Frame) → record_at s at ≡ Ok fr → frames_from (suc n) s at ≡ fr ∷ frames_from n s fr.end
unfolding frames_from onward
from-read n s at fr e = rw e

pub from-refused : (n : ℕ) (s : List ℕ) (at : ℕ) (r : Refusal) → record_at s at ≡ Err r → frames_from n s at ≡ []
unfolding frames_from onward
from-refused zero s at r e = refl
from-refused (suc n) s at r e = rw e

-- one less
pub from_next : (n : ℕ) (s : List ℕ) (at : ℕ) (fr : Frame) → 0 < n → record_at s at ≡ Ok fr → frames_from n s at ≡ fr ∷ frames_from (n - 1) s fr.end
from_next n s at fr h e =
    let k : suc (n - 1) ≡ n = omega arith in
    ap (λ (m : ℕ). frames_from m s at) (sym k) ∙ from-read (n - 1) s at fr e

-- those that were taken
pub frames-from : (n : ℕ) (s : List ℕ) (at : ℕ) (frs : List Frame) → frames_at n s at ≡ Ok frs → frs ≡ frames_from n s at
unfolding frames_at frames_from onward
frames-from zero s at frs e = sym (done-same [] frs (refuse-done (ltb at (length s)) 5 (Ok []) frs e).1)
frames-from (suc n) s at frs e =
    let a = and_then-done _ _ frs e in
    let b = and_then-done _ _ frs a.2 in
    sym (done-same _ frs b.2) ∙ ap (λ (l : List Frame). a.0 ∷ l) (frames-from n s a.0.end b.0 (after-done 1 _ _ b.1)) ∙ sym (from-read n s at a.0 (about-done Record 0 _ _ a.1))

-- no more than were asked for
pub from-few : (n : ℕ) (s : List ℕ) (at : ℕ) → length (frames_from n s at) ≤ n
unfolding frames_from onward
from-few zero s at = omega arith
from-few (suc n) s at = go (record_at s at) (λ fr. from-few n s fr.end)
  where
    go : (o : Out Frame) → ((fr : Frame) → length (frames_from n s fr.end) ≤ n) → length (onward o (λ fr. frames_from n s fr.end)) ≤ suc n
    go (Err r) k = omega arith
    go (Ok fr) k = omega (arith, k fr)

-- the first of them
pub frames-first : (n : ℕ) (s : List ℕ) (at : ℕ) (fr : Frame) (frs : List Frame) → 0 < n → record_at s at ≡ Ok fr → frames_at n s at ≡ Ok frs → first_form frs ≡ fr.form
unfolding first_form
frames-first n s at fr frs h e k = ap first_form (frames-from n s at frs k ∙ from_next n s at fr h e)

each : (s : List ℕ) (m : Form) (q t u v : Plane) → past q ≤ length s → past t ≤ length s → past u ≤ length s → past v ≤ length s
    → (p : Part) → (plane_of (record { form = m; luma = q; cb = t; cr = u; alpha = v; end = past v }) p).start + (plane_of (record { form = m; luma = q; cb = t; cr = u; alpha = v; end = past v }) p).len ≤ length s
unfolding plane_of past
each s m q t u v a b c d Luma = a
each s m q t u v a b c d Cb = b
each s m q t u v a b c d Cr = c
each s m q t u v a b c d Alpha = d

-- a record that was read lies in the slice, with every plane
pub record-inside : (s : List ℕ) (at : ℕ) (fr : Frame) → record_at s at ≡ Ok fr → InSlice s fr
unfolding record_at planes_at
record-inside s at fr e =
    let h = and_then-done _ _ fr e in
    let k = head-sound s at h.0 h.1 in
    let a = and_then-done _ _ fr h.2 in
    let b = and_then-done _ _ fr a.2 in
    let c = and_then-done _ _ fr b.2 in
    let d = and_then-done _ _ fr c.2 in
    let pa = part-past s _ _ Luma a.0 a.1 k.1 in
    let pb = part-past s _ _ Cb b.0 b.1 pa in
    let pc = part-past s _ _ Cr c.0 c.1 pb in
    let pd = part-past s _ _ Alpha d.0 d.1 pc in
    record { sound = record-sound s at fr e; planes = rw (← done-same _ fr d.2) (each s h.0.0 a.0 b.0 c.0 d.0 pa pb pc pd) }

-- ---- whether one passes a test

pub below-yes : (n k : ℕ) (t : ℕ → Bool) → k < n → t k ≡ true → any_below n t ≡ true
unfolding any_below
below-yes zero k t h e = absurd (not-suc-le-zero h)
below-yes (suc n) k t h e =
    by_equal k n (λ q. ap (λ (b : Bool). b || any_below n t) (ap t (sym q) ∙ e))
    (λ q. ap (λ (b : Bool). t n || b) (below-yes n k t (omega arith) e) ∙ or-true (t n))
  where
    or-true : (b : Bool) → (b || true) ≡ true
    or-true true = refl
    or-true false = refl

pub below-no : (n : ℕ) (t : ℕ → Bool) → ((k : ℕ) → k < n → t k ≡ false) → any_below n t ≡ false
unfolding any_below
below-no zero t f = refl
below-no (suc n) t f = ap (λ (b : Bool). b || any_below n t) (f n (omega arith)) ∙ below-no n t (λ k h. f k (omega arith))

-- ---- a record's alpha plane

abbrev pub shown : List ℕ → AlphaPlane → ℕ → ℕ → ℕ
shown s q x y = sample_in (data_of s q.plane) q.bytes q.plane.stride x y

module _ (s : List ℕ) (fr : Frame) where
  pub wide : (n : ℕ) → n < fr.form.width → n < columns_of fr.form Alpha
  unfolding columns_of halved side_of
  wide n h = h

  pub tall : (n : ℕ) → n < fr.form.height → n < rows_of fr.form Alpha
  unfolding rows_of halved side_of
  tall n h = h

  pub plane-some : has_alpha fr.form.format ≡ true → alpha_plane fr ≡ record { plane = fr.alpha; bytes = bytes_of fr.form.format; columns = fr.form.width; rows = fr.form.height; end = fr.end }
  unfolding alpha_plane
  plane-some e = pick_true _ _ _ e

  pub plane-none : has_alpha fr.form.format ≡ false → alpha_plane fr ≡ no_alpha fr.end
  unfolding alpha_plane
  plane-none e = pick-false _ _ _ e

  pub plane-end : (alpha_plane fr).end ≡ fr.end
  unfolding no_alpha
  plane-end = by-test (has_alpha fr.form.format) (λ e. ap (λ (q : AlphaPlane). q.end) (plane-some e)) (λ e. ap (λ (q : AlphaPlane). q.end) (plane-none e))

  -- it lies in the slice, and its samples in it
  pub plane-inside : InSlice s fr → (alpha_plane fr).plane.start + (alpha_plane fr).plane.len ≤ length s
  unfolding no_alpha plane_of
  plane-inside k =
      by-test (has_alpha fr.form.format) (λ e. rw (plane-some e) (k.planes Alpha))
      (λ e. rw (plane-none e) (omega arith))

  pub shown-inside : InSlice s fr → (x y : ℕ) → x < (alpha_plane fr).columns → y < (alpha_plane fr).rows
      → (1 ≤ (alpha_plane fr).bytes) × ((alpha_plane fr).bytes ≤ 2) × (y * (alpha_plane fr).plane.stride + x * (alpha_plane fr).bytes + (alpha_plane fr).bytes ≤ length (data_of s (alpha_plane fr).plane))
  unfolding no_alpha has_part plane_of
  shown-inside k x y hx hy =
      by-test (has_alpha fr.form.format)
      (λ e. rw (plane-some e) (
        (bytes-few fr.form.format).0,
        (bytes-few fr.form.format).1,
        sample-inside s fr.form Alpha fr.alpha (k.sound.planes Alpha e) x y (wide x (rw (plane-some e) at hx)) (tall y (rw (plane-some e) at hy)),
      ))
      (λ e. absurd (none x (rw (plane-none e) at hx)))
    where
      none : (n : ℕ) → n < 0 → ⊥
      none n h = omega arith

  -- a sample above top, or none
  pub plane-above : (top x y : ℕ) → x < (alpha_plane fr).columns → y < (alpha_plane fr).rows → top < shown s (alpha_plane fr) x y → alpha_above s top fr ≡ true
  unfolding alpha_above no_alpha decode plane_of
  plane-above top x y hx hy l =
      by-test (has_alpha fr.form.format)
      (λ e. true-and _ _ e (below-yes _ y _ (rw (plane-some e) at hy) (below-yes _ x _ (rw (plane-some e) at hx) (lt-ltb _ _ (rw (plane-some e) at l)))))
      (λ e. absurd (none x (rw (plane-none e) at hx)))
    where
      none : (n : ℕ) → n < 0 → ⊥
      none n h = omega arith

  pub plane-clear : (top : ℕ) → ((y : ℕ) → y < (alpha_plane fr).rows → (x : ℕ) → x < (alpha_plane fr).columns → shown s (alpha_plane fr) x y ≤ top) → alpha_above s top fr ≡ false
  unfolding alpha_above decode plane_of
  plane-clear top f =
      by-test (has_alpha fr.form.format)
      (λ e. ap₂ (λ (a b : Bool). a && b) e (below-no _ _ (λ y hy. below-no _ _ (λ x hx. le-ltb _ _ (clear e y hy x hx)))))
      (λ e. ap (λ (a : Bool). a && any_below fr.form.height (λ y. any_below fr.form.width (λ x. ltb top ((decode s fr).at Alpha x y)))) e)
    where
      clear : (e : has_alpha fr.form.format ≡ true) (y : ℕ) → y < fr.form.height → (x : ℕ) → x < fr.form.width → sample_in (data_of s fr.alpha) (bytes_of fr.form.format) fr.alpha.stride x y ≤ top
      clear e y hy x hx = rw (plane-some e) at f y hy x hx

-- ---- the search

module _ (s : List ℕ) (at top : ℕ) where
  abbrev q : AlphaPlane
  q = alpha_plane_at at (record_at s at)

  -- the first record with a sample above top: of n from the place on, i before them; k where there is none
  abbrev seen : ℕ → ℕ → ℕ → ℕ
  seen i n k = found_at i (alpha_above s top) (frames_from n s at) k

  cases : {X : Type 0} → ((r : Refusal) → record_at s at ≡ Err r → X) → ((fr : Frame) → record_at s at ≡ Ok fr → X) → X
  cases {X} f g = go (record_at s at) refl
    where
      go : (o : Out Frame) → record_at s at ≡ o → X
      go (Err r) e = f r e
      go (Ok fr) e = g fr e

  q-refused : (r : Refusal) → record_at s at ≡ Err r → q ≡ no_alpha at
  unfolding alpha_plane_at
  q-refused r e = ap (alpha_plane_at at) e

  q-done : (fr : Frame) → record_at s at ≡ Ok fr → q ≡ alpha_plane fr
  unfolding alpha_plane_at
  q-done fr e = ap (alpha_plane_at at) e

  pub hunt-inside : q.plane.start + q.plane.len ≤ length s
  unfolding no_alpha
  hunt-inside = cases (λ r e. rw (q-refused r e) (omega arith)) (λ fr e. rw (q-done fr e) (plane-inside s fr (record-inside s at fr e)))

  none : (n : ℕ) → n < 0 → ⊥
  none n h = omega arith

  pub hunt-shown : (x y : ℕ) → x < q.columns → y < q.rows → (1 ≤ q.bytes) × (q.bytes ≤ 2) × (y * q.plane.stride + x * q.bytes + q.bytes ≤ length (data_of s q.plane))
  unfolding no_alpha
  hunt-shown x y hx hy =
      cases (λ r e. absurd (none x (rw (q-refused r e) at hx)))
      (λ fr e. rw (q-done fr e) (shown-inside s fr (record-inside s at fr e) x y (rw (q-done fr e) at hx) (rw (q-done fr e) at hy)))

  -- found
  pub hunt-found : (i n k x y : ℕ) → 0 < n → x < q.columns → y < q.rows → top < shown s q x y → seen i n k ≡ i
  unfolding no_alpha
  hunt-found i n k x y h hx hy l =
      cases (λ r e. absurd (none x (rw (q-refused r e) at hx)))
      (λ fr e. rw (from_next n s at fr h e) (found_here (alpha_above s top) i fr _ k (plane-above s fr top x y (rw (q-done fr e) at hx) (rw (q-done fr e) at hy) (rw (q-done fr e) at l))))

  -- not in this one
  pub hunt-clear : (i n k : ℕ) → 0 < n → ((y : ℕ) → y < q.rows → (x : ℕ) → x < q.columns → shown s q x y ≤ top) → seen i n k ≡ found_at (i + 1) (alpha_above s top) (frames_from (n - 1) s q.end) k
  unfolding no_alpha
  hunt-clear i n k h f =
      cases (λ r e. rw (q-refused r e, from-refused n s at r e, from-refused (n - 1) s at r e) (none_found (alpha_above s top) i k ∙ sym (none_found (alpha_above s top) (i + 1) k)))
      (λ fr e. rw (q-done fr e, plane-end s fr, from_next n s at fr h e) (found-next (alpha_above s top) i fr _ k (plane-clear s fr top (rw (q-done fr e) at f))))

-- ---- what is found at a place

pub found-refused : (s : List ℕ) (at : ℕ) (r : Refusal) → record_at s at ≡ Err r → alpha_plane_at at (record_at s at) ≡ no_alpha at
unfolding alpha_plane_at
found-refused s at r e = ap (alpha_plane_at at) e

pub found_none : (s : List ℕ) (at : ℕ) (fr : Frame) → record_at s at ≡ Ok fr → has_alpha fr.form.format ≡ false → alpha_plane_at at (record_at s at) ≡ no_alpha fr.end
unfolding alpha_plane_at
found_none s at fr e h = ap (alpha_plane_at at) e ∙ plane-none s fr h

pub found_some : (s : List ℕ) (at : ℕ) (fr : Frame) (b : ℕ) → record_at s at ≡ Ok fr → has_alpha fr.form.format ≡ true → b ≡ bytes_of fr.form.format
    → alpha_plane_at at (record_at s at) ≡ record { plane = fr.alpha; bytes = b; columns = fr.form.width; rows = fr.form.height; end = fr.end }
unfolding alpha_plane_at
found_some s at fr b e h k = ap (alpha_plane_at at) e ∙ plane-some s fr h ∙ ap (λ (n : ℕ). record { plane = fr.alpha; bytes = n; columns = fr.form.width; rows = fr.form.height; end = fr.end }) (sym k)

-- ---- rows that are searched

pub searched-few : (rows bytes top : ℕ) → searched_rows rows bytes top ≤ rows
unfolding searched_rows
searched-few rows bytes top = pick-le _ _ _ rows (pick-le _ 0 rows rows (omega arith) (omega arith)) (pick-le _ 0 rows rows (omega arith) (omega arith))

-- where they hold nothing above top, no row does
pub searched-all : (d : List ℕ) (rows bytes top stride x y : ℕ) → Bytes d → 1 ≤ bytes → bytes ≤ 2 → y < rows → (y < searched_rows rows bytes top → sample_in d bytes stride x y ≤ top) → sample_in d bytes stride x y ≤ top
unfolding searched_rows sample_in
searched-all d rows bytes top stride x y small l h g f =
    let few = sample-small d bytes (y * stride + x * bytes) small l h in
    by_equal bytes 1
    (λ e. by_order top 255
    (λ t. f (rw (pick_true _ (pick (leb 255 top) 0 rows) (pick (eqb top 65535) 0 rows) (eq-eqb bytes 1 e), pick-false _ 0 rows (lt-leb 255 top t)) g))
    (λ t. let k : 256 ^ bytes ≡ 256 ^ 1 = ap (λ (n : ℕ). 256 ^ n) e in omega (arith, few, k)))
    (λ e. by_equal top 65535
    (λ t. let b : bytes ≡ 2 = omega arith in let k : 256 ^ bytes ≡ 256 ^ 2 = ap (λ (n : ℕ). 256 ^ n) b in omega (arith, few, k))
    (λ t. f (rw (pick-false _ (pick (leb 255 top) 0 rows) (pick (eqb top 65535) 0 rows) (ne_eqb bytes 1 e), pick-false _ 0 rows (ne_eqb top 65535 t)) g)))

-- ---- the search, by what a place's plane was found to be

pub some-none : (t : Frame → Bool) (i n : ℕ) (s : List ℕ) (at k : ℕ) → n ≤ 0 → found_at i t (frames_from n s at) k ≡ k
unfolding frames_from
some-none t i n s at k h = let e : n ≡ 0 = omega arith in rw e (none_found t i k)

-- the search for a record, i of k behind
module _ (t : Frame → Bool) (i k : ℕ) (s : List ℕ) (at : ℕ) where
  pub sought-refused : (r : Refusal) → record_at s at ≡ Err r → found_at i t (frames_from (k - i) s at) k ≡ k
  sought-refused r e = rw (from-refused (k - i) s at r e) (none_found t i k)

  module _ (fr : Frame) (h : i < k) (e : record_at s at ≡ Ok fr) where
    pub sought-here : t fr ≡ true → found_at i t (frames_from (k - i) s at) k ≡ i
    sought-here q = rw (from_next (k - i) s at fr (omega arith) e) (found_here t i fr _ k q)

    pub sought-next : t fr ≡ false → found_at i t (frames_from (k - i) s at) k ≡ found_at (i + 1) t (frames_from (k - (i + 1)) s fr.end) k
    sought-next q = let z : k - i - 1 ≡ k - (i + 1) = omega arith in rw (from_next (k - i) s at fr (omega arith) e) (found-next t i fr _ k q ∙ rw z)

module _ (s : List ℕ) (at top : ℕ) (r : AlphaPlane) (d : List ℕ) (e : r ≡ alpha_plane_at at (record_at s at)) (g : d ≡ data_of s r.plane) where
  pub seen-inside : r.plane.start + r.plane.len ≤ length s
  seen-inside = rw e (hunt-inside s at top)

  pub seen-shown : (x y : ℕ) → x < r.columns → y < r.rows → (1 ≤ r.bytes) × (r.bytes ≤ 2) × (y * r.plane.stride + x * r.bytes + r.bytes ≤ length d)
  seen-shown x y hx hy = rw (g, e) (hunt-shown s at top x y (rw e at hx) (rw e at hy))

  pub seen-found : (i n k x y : ℕ) → 0 < n → x < r.columns → y < r.rows → top < sample_in d r.bytes r.plane.stride x y → found_at i (alpha_above s top) (frames_from n s at) k ≡ i
  seen-found i n k x y h hx hy l = hunt-found s at top i n k x y h (rw e at hx) (rw e at hy) (rw (g, e) at l)

  pub seen-clear : (i n k : ℕ) → 0 < n → ((y : ℕ) → y < r.rows → (x : ℕ) → x < r.columns → sample_in d r.bytes r.plane.stride x y ≤ top)
      → found_at i (alpha_above s top) (frames_from n s at) k ≡ found_at (i + 1) (alpha_above s top) (frames_from (n - 1) s r.end) k
  seen-clear i n k h f = rw e (hunt-clear s at top i n k h (rw (g, e) at f))
