-- Laws of samples as bytes, and of a tight record's parts and their lengths.
use mathlib.Core.List.{List, [], ◌++◌, ◌∷◌}
use mathlib.Core.Path.{◌∙◌, ◌≡◌, ap, ap₂, refl, sym}
use Prim.Native.Nat.{◌%◌, ◌*◌, ◌+◌, ◌-◌, ◌/◌, ◌<◌, ◌^◌, ◌≤◌, suc, zero, ℕ}
use native.Mathlib.Nat.{suc-mul}
use native.Mathlib.Numerals.{add-one}
use native.Mathlib.Omega.{arith}
use lib.ListN.{get_or-eq_default, drop, get_or, length, length-take, set, take}
use lib.Seq.{drop-cons, drop-drop, get_or-drop, get_or-take, set-set, take-add}
use borrow.Author.Tests.{eq-eqb, ne_eqb}
use Rattle.laws.proofs.Order.{by_equal, by_order, pick-false, pick_true}
use Rattle.laws.proofs.Span.{length-span-all, span-cong}
use Rattle.laws.specs.Pick.{pick}
use Rattle.laws.specs.Puts.{puts, Bytes}
use Rattle.laws.specs.Span.{run, span}
use Rattle.records.specs.Record.{data_of}
use Rattle.planes.specs.Bytes.{sample_at, sample_bytes, samples_of}
use Rattle.planes.specs.inner.Promoted.{even_bytes}
use Rattle.planes.specs.inner.Line.{line_bytes, place_on}
use Rattle.records.specs.declared.record.Plane.{Plane}
use Rattle.planes.specs.declared.samples.Line.{Line}

pub sample-one : (bytes v : ℕ) → bytes ≡ 1 → sample_bytes bytes v ≡ v % 256 ∷ []
unfolding sample_bytes pick
sample-one bytes v e = simp (eq-eqb bytes 1 e)

pub sample-two : (bytes v : ℕ) → (bytes ≡ 1 → ⊥) → sample_bytes bytes v ≡ v % 256 ∷ v / 256 % 256 ∷ []
unfolding sample_bytes pick
sample-two bytes v e = simp (ne_eqb bytes 1 e)

pub length-sample_bytes : (bytes v : ℕ) → 1 ≤ bytes → bytes ≤ 2 → length (sample_bytes bytes v) ≡ bytes
length-sample_bytes bytes v l h = by_equal bytes 1 (λ e. rw (sample-one bytes v e) (omega arith)) (λ e. rw (sample-two bytes v e) (omega arith))

-- a sample's bytes are those that it was read from; where there is one, it is the first and the last
pub sample-stored : (d s : List ℕ) (bytes i j : ℕ) → Bytes s → 1 ≤ bytes → bytes ≤ 2
    → puts d i (sample_bytes bytes (sample_at s bytes j)) ≡ set (set d i (get_or s j 0)) (i + (bytes - 1)) (get_or s (j + (bytes - 1)) 0)
unfolding sample_at pick puts Bytes
sample-stored d s bytes i j small l h =
    by_equal bytes 1
    (λ e.
    let z : (k : ℕ) → k + (bytes - 1) ≡ k = λ k. omega arith in
    let b : get_or s j 0 % 256 ≡ get_or s j 0 = omega (arith, small j) in
    simp (eq-eqb bytes 1 e, sample-one bytes (get_or s j 0) e, b, z, set-set))
    (λ e.
    let z : (k : ℕ) → k + (bytes - 1) ≡ k + 1 = λ k. omega arith in
    let v : ℕ = get_or s j 0 + 256 * get_or s (j + 1) 0 in
    let a : v % 256 ≡ get_or s j 0 = omega (arith, small j) in
    let q : v / 256 ≡ get_or s (j + 1) 0 = omega (arith, small j) in
    let b : v / 256 % 256 ≡ get_or s (j + 1) 0 = ap (λ (n : ℕ). n % 256) q ∙ omega (arith, small (j + 1)) in
    simp (ne_eqb bytes 1 e, z) (ap (puts d i) (sample-two bytes v e) ∙ simp (a, b)))

pub length-samples_of : (bytes : ℕ) (f : ℕ → ℕ) (n : ℕ) → 1 ≤ bytes → bytes ≤ 2 → length (samples_of bytes f n) ≡ n * bytes
unfolding samples_of
length-samples_of bytes f n l h = length-span-all (λ x. sample_bytes bytes (f x)) bytes n (λ x. length-sample_bytes bytes (f x) l h)

pub samples-same : (bytes : ℕ) (f g : ℕ → ℕ) (n : ℕ) → ((j : ℕ) → j < n → f j ≡ g j) → samples_of bytes f n ≡ samples_of bytes g n
unfolding samples_of
samples-same bytes f g n h = span-cong _ _ 0 n (λ j a b. ap (sample_bytes bytes) (h j b))

pub length-line_bytes : (d : List ℕ) (bytes : ℕ) (l : Line) (n : ℕ) → 1 ≤ bytes → bytes ≤ 2 → length (line_bytes d bytes l n) ≡ n * bytes
unfolding line_bytes
length-line_bytes d bytes l n a b = length-samples_of bytes (λ k. sample_at d bytes (place_on l k)) n a b

-- ---- rows that are plain copies

-- a sample's bytes are the plane's
pub sample-taken : (d : List ℕ) (bytes j : ℕ) → Bytes d → 1 ≤ bytes → bytes ≤ 2 → j + bytes ≤ length d → sample_bytes bytes (sample_at d bytes j) ≡ take bytes (drop j d)
unfolding sample_at Bytes
sample-taken d bytes j small l h k =
    by_equal bytes 1
    (λ e.
    let b : get_or d j 0 % 256 ≡ get_or d j 0 = omega (arith, small j) in
    ap (sample_bytes bytes) (pick_true _ _ _ (eq-eqb bytes 1 e)) ∙ sample-one bytes (get_or d j 0) e
    ∙ rw (b, e, drop-cons d j 0 (omega arith)))
    (λ e.
    let two : bytes ≡ 2 = omega arith in
    let v : ℕ = get_or d j 0 + 256 * get_or d (j + 1) 0 in
    let a : v % 256 ≡ get_or d j 0 = omega (arith, small j) in
    let q : v / 256 ≡ get_or d (j + 1) 0 = omega (arith, small j) in
    let b : v / 256 % 256 ≡ get_or d (j + 1) 0 = ap (λ (n : ℕ). n % 256) q ∙ omega (arith, small (j + 1)) in
    ap (sample_bytes bytes) (pick-false _ _ _ (ne_eqb bytes 1 e)) ∙ sample-two bytes v e
    ∙ rw (a, b) (rw (two, drop-cons d j 0 (omega arith), drop-cons d (suc j) 0 (omega arith)) (ap (λ (n : ℕ). get_or d j 0 ∷ get_or d n 0 ∷ []) (add-one j))))

run-taken : (d : List ℕ) (bytes i k n : ℕ) → Bytes d → 1 ≤ bytes → bytes ≤ 2 → i + k * bytes + n * bytes ≤ length d
    → run (λ x. sample_bytes bytes (sample_at d bytes (i + x * bytes))) k n ≡ take (n * bytes) (drop (i + k * bytes) d)
unfolding run
run-taken d bytes i k zero small l h r = let z : 0 * bytes ≡ 0 = omega arith in rw z
run-taken d bytes i k (suc n) small l h r =
    let e : suc n * bytes ≡ bytes + n * bytes = omega (arith, suc-mul n bytes) in
    let f : i + k * bytes + bytes ≡ i + (k + 1) * bytes = omega arith in
    ap₂ (λ (a b : List ℕ). a ++ b) (sample-taken d bytes (i + k * bytes) small l h (omega arith)) (run-taken d bytes i (k + 1) n small l h (omega arith))
    ∙ ap (λ (q : List ℕ). take bytes (drop (i + k * bytes) d) ++ take (n * bytes) q) (ap (λ (q : ℕ). drop q d) (sym f) ∙ sym (drop-drop bytes (i + k * bytes) d))
    ∙ sym (take-add bytes (n * bytes) (drop (i + k * bytes) d)) ∙ ap (λ (q : ℕ). take q (drop (i + k * bytes) d)) (sym e)

-- n samples one after the other
pub samples-taken : (d : List ℕ) (bytes i n : ℕ) → Bytes d → 1 ≤ bytes → bytes ≤ 2 → i + n * bytes ≤ length d
    → samples_of bytes (λ x. sample_at d bytes (i + x * bytes)) n ≡ take (n * bytes) (drop i d)
unfolding samples_of span
samples-taken d bytes i n small l h r =
    let z : n - 0 ≡ n = omega arith in
    let y : i + 0 * bytes ≡ i = omega arith in
    ap (run _ 0) z ∙ run-taken d bytes i 0 n small l h (omega arith) ∙ ap (λ (q : ℕ). take (n * bytes) (drop q d)) y

-- ---- everything encoded is bytes, and a sample of bytes is small

pub sample-small : (d : List ℕ) (bytes i : ℕ) → Bytes d → 1 ≤ bytes → bytes ≤ 2 → sample_at d bytes i < 256 ^ bytes
unfolding sample_at Bytes
sample-small d bytes i small l h =
    by_equal bytes 1
    (λ e. rw (pick_true _ (get_or d i 0) (get_or d i 0 + 256 * get_or d (i + 1) 0) (eq-eqb bytes 1 e), e) (small i))
    (λ e. let two : bytes ≡ 2 = omega arith in rw (pick-false _ (get_or d i 0) (get_or d i 0 + 256 * get_or d (i + 1) 0) (ne_eqb bytes 1 e), two) (omega (arith, small i, small (i + 1))))

pub bytes_take : (n : ℕ) (l : List ℕ) → Bytes l → Bytes (take n l)
unfolding Bytes
bytes_take n l f i = by_order i n (λ h. rw (get_or-take n l i 0 h) (f i)) (λ h. rw (get_or-eq_default (take n l) 0 {n = i} (omega (arith, length-take n l))) (omega arith))

pub bytes_drop : (n : ℕ) (l : List ℕ) → Bytes l → Bytes (drop n l)
unfolding Bytes
bytes_drop n l f i = rw (get_or-drop n l i 0) (f (n + i))

pub data-bytes : (s : List ℕ) (q : Plane) → Bytes s → Bytes (data_of s q)
unfolding data_of
data-bytes s q b = bytes_take q.len (drop q.start s) (bytes_drop q.start s b)

-- ---- the same sample again and again

pub length-even : (b : List ℕ) (n : ℕ) → length (even_bytes b n) ≡ n * length b
unfolding even_bytes
length-even b n = length-span-all (λ x. b) (length b) n (λ i. refl)

pub even-one : (bytes v n : ℕ) → bytes ≡ 1 → samples_of bytes (λ x. v) n ≡ even_bytes (v % 256 ∷ []) n
unfolding samples_of even_bytes
even-one bytes v n e = span-cong _ _ 0 n (λ i a b. sample-one bytes v e)

pub even-two : (bytes v n : ℕ) → (bytes ≡ 1 → ⊥) → v < 65536 → samples_of bytes (λ x. v) n ≡ even_bytes (v % 256 ∷ v / 256 ∷ []) n
unfolding samples_of even_bytes
even-two bytes v n e h =
    let q : v / 256 % 256 ≡ v / 256 = omega arith in
    span-cong _ _ 0 n (λ i a b. sample-two bytes v e ∙ ap (λ (k : ℕ). v % 256 ∷ k ∷ []) q)
