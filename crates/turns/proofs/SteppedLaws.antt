-- Laws of samples that stand so many bytes apart, and of runs of them stored one after the other.
use mathlib.Core.List.{List, [], ◌++◌, ◌∷◌, append-nil}
use mathlib.Core.Path.{◌∙◌, ◌≡◌, ap, ap₂, refl, sym}
use Prim.Native.Nat.{◌%◌, ◌*◌, ◌+◌, ◌-◌, ◌<◌, ◌≤◌, suc, ℕ}
use native.Mathlib.Nat.{add-mul, suc-mul}
use native.Mathlib.Omega.{arith}
use lib.ListN.{get_or, length, set}
use Rattle.laws.proofs.Order.{by_order, positive}
use Rattle.laws.proofs.Puts.{puts-append}
use Rattle.laws.proofs.Span.{span-cong, span-end, span-shift, span-split}
use Rattle.laws.specs.Pick.{pick}
use Rattle.laws.specs.Puts.{Bytes, puts}
use Rattle.laws.specs.Span.{run, span}
use Rattle.planes.proofs.ByteLaws.{length-samples_of, sample-one, sample-stored}
use Rattle.planes.specs.Bytes.{sample_at, sample_bytes, samples_of}
use Rattle.turns.proofs.StoreLaws.{puts-before}
use Rattle.turns.specs.inner.Stepped.{SteppedFits, step_to, stepped}

pub length-stepped : (s : List ℕ) (b from f g n : ℕ) → 1 ≤ b → b ≤ 2 → length (stepped s b from f g n) ≡ n * b
unfolding stepped
length-stepped s b from f g n l h = length-samples_of b _ n l h

pub step-on : (from f g a k : ℕ) → a * g ≤ from + a * f → step_to from f g (a + k) ≡ step_to (step_to from f g a) f g k
unfolding step_to
step-on from f g a k h = omega (arith, add-mul a k f, add-mul a k g)

pub stepped-split : (s : List ℕ) (b from f g a n : ℕ) → (0 < n → a * g ≤ from + a * f) → stepped s b from f g (a + n) ≡ stepped s b from f g a ++ stepped s b (step_to from f g a) f g n
unfolding stepped samples_of
stepped-split s b from f g a n h =
    span-split _ 0 a (a + n) (omega arith) (omega arith)
    ∙ ap (λ (q : List ℕ). span (λ k. sample_bytes b (sample_at s b (step_to from f g k))) 0 a ++ q)
    (span-shift _ a n ∙ span-cong _ _ 0 n (λ k p q. ap (λ (i : ℕ). sample_bytes b (sample_at s b i)) (step-on from f g a k (h (omega arith)))))

module _ (d s : List ℕ) (at b from f g a n : ℕ) (l : 1 ≤ b) (h : b ≤ 2) (behind : 0 < n → a * g ≤ from + a * f)
    {i from' total : ℕ} (place : i ≡ at + a * b) (on : from' ≡ from + a * f - a * g) (whole : total ≡ a + n) where
  joined : stepped s b from f g total ≡ stepped s b from f g a ++ stepped s b from' f g n
  unfolding step_to
  joined = ap (stepped s b from f g) whole ∙ stepped-split s b from f g a n behind ∙ ap (λ (k : ℕ). stepped s b from f g a ++ stepped s b k f g n) (sym on)

  long : at + length (stepped s b from f g a) ≡ i
  long = ap (λ (k : ℕ). at + k) (length-stepped s b from f g a l h) ∙ sym place

  -- n more behind the first a
  pub stepped-more : puts (puts d at (stepped s b from f g a)) i (stepped s b from' f g n) ≡ puts d at (stepped s b from f g total)
  stepped-more =
      ap (λ (k : ℕ). puts (puts d at (stepped s b from f g a)) k (stepped s b from' f g n)) (sym long)
      ∙ sym (puts-append d at (stepped s b from f g a) (stepped s b from' f g n)) ∙ ap (puts d at) (sym joined)

  -- a more before the last n
  pub stepped-before : puts (puts d i (stepped s b from' f g n)) at (stepped s b from f g a) ≡ puts d at (stepped s b from f g total)
  stepped-before = puts-before d i (stepped s b from' f g n) at (stepped s b from f g a) long ∙ ap (puts d at) (sym joined)

-- ---- no sample, one, four

pub stepped-none : (d s : List ℕ) (i b from f g n : ℕ) → n ≡ 0 → puts d i (stepped s b from f g n) ≡ d
unfolding stepped samples_of puts
stepped-none d s i b from f g n e = ap (puts d i) (span-end _ 0 n (omega arith))

stepped-single : (s : List ℕ) (b from f g : ℕ) → stepped s b from f g 1 ≡ sample_bytes b (sample_at s b from)
unfolding stepped samples_of span run step_to
stepped-single s b from f g =
    let e : from + 0 * f - 0 * g ≡ from = omega arith in
    append-nil _ ∙ ap (λ (i : ℕ). sample_bytes b (sample_at s b i)) e

pub stepped-sample : (d s : List ℕ) (i b j f g : ℕ) → Bytes s → 1 ≤ b → b ≤ 2
    → puts d i (stepped s b j f g 1) ≡ set (set d i (get_or s j 0)) (i + (b - 1)) (get_or s (j + (b - 1)) 0)
stepped-sample d s i b j f g small l h = ap (puts d i) (stepped-single s b j f g) ∙ sample-stored d s b i j small l h

byte_one : (s : List ℕ) (j : ℕ) → Bytes s → sample_bytes 1 (sample_at s 1 j) ≡ get_or s j 0 ∷ []
unfolding sample_at pick Bytes
byte_one s j small = let b : get_or s j 0 % 256 ≡ get_or s j 0 = omega (arith, small j) in sample-one 1 (get_or s j 0) refl ∙ ap (λ (v : ℕ). v ∷ []) b

pub stepped-byte : (d s : List ℕ) (i j f g : ℕ) → Bytes s → puts d i (stepped s 1 j f g 1) ≡ set d i (get_or s j 0)
unfolding puts
stepped-byte d s i j f g small = ap (puts d i) (stepped-single s 1 j f g ∙ byte_one s j small)

-- four samples of two bytes, each behind the last
pub stepped-four : (d s : List ℕ) (i j : ℕ) → Bytes s
    → puts d i (stepped s 2 (j + 6) 0 2 4)
    ≡ set (set (set (set (set (set (set (set d i (get_or s (j + 6) 0)) (i + 1) (get_or s (j + 7) 0)) (i + 2) (get_or s (j + 4) 0)) (i + 3) (get_or s (j + 5) 0))
    (i + 4) (get_or s (j + 2) 0)) (i + 5) (get_or s (j + 3) 0)) (i + 6) (get_or s j 0)) (i + 7) (get_or s (j + 1) 0)
stepped-four d s i j small =
    sym (more 3 (i + 6) j (omega arith) (omega arith) (omega arith))
    ∙ one _ (i + 6) j (i + 7) (j + 1) (omega arith) (omega arith)
    ∙ ap (λ (q : List ℕ). set (set q (i + 6) (get_or s j 0)) (i + 7) (get_or s (j + 1) 0))
    (sym (more 2 (i + 4) (j + 2) (omega arith) (omega arith) (omega arith))
    ∙ one _ (i + 4) (j + 2) (i + 5) (j + 3) (omega arith) (omega arith)
    ∙ ap (λ (q : List ℕ). set (set q (i + 4) (get_or s (j + 2) 0)) (i + 5) (get_or s (j + 3) 0))
    (sym (more 1 (i + 2) (j + 4) (omega arith) (omega arith) (omega arith))
    ∙ one _ (i + 2) (j + 4) (i + 3) (j + 5) (omega arith) (omega arith)
    ∙ ap (λ (q : List ℕ). set (set q (i + 2) (get_or s (j + 4) 0)) (i + 3) (get_or s (j + 5) 0))
    (one d i (j + 6) (i + 1) (j + 7) (omega arith) (omega arith))))
  where
    more : (a p k : ℕ) → a ≤ 3 → p ≡ i + a * 2 → k ≡ j + 6 + a * 0 - a * 2 → puts (puts d i (stepped s 2 (j + 6) 0 2 a)) p (stepped s 2 k 0 2 1) ≡ puts d i (stepped s 2 (j + 6) 0 2 (a + 1))
    more a p k l e on = stepped-more d s i 2 (j + 6) 0 2 a 1 (omega arith) (omega arith) (λ z. omega arith) e on refl

    one : (q : List ℕ) (p k p' k' : ℕ) → p' ≡ p + 1 → k' ≡ k + 1 → puts q p (stepped s 2 k 0 2 1) ≡ set (set q p (get_or s k 0)) p' (get_or s k' 0)
    one q p k p' k' e on = stepped-sample q s p 2 k 0 2 small (omega arith) (omega arith) ∙ ap₂ (λ (x y : ℕ). set (set q p (get_or s k 0)) x (get_or s y 0)) (sym e) (sym on)

-- ---- a row from its last sample back

pub row_inside : (d : List ℕ) (b from n : ℕ) → SteppedFits d b from 0 b n → (n ≡ 0 → ⊥) → (from + b ≤ length d) × (n * b ≤ from + b)
row_inside d b from n ok some =
    let l : 0 < n = positive n some in
    let k : suc (n - 1) ≡ n = omega arith in
    let e : (n - 1) * b + b ≡ n * b = omega (arith, suc-mul (n - 1) b, ap (λ (x : ℕ). x * b) k) in
    (omega (arith, ok.inside 0 l), omega (arith, ok.behind (n - 1) (omega arith)))

-- a sample that has not one byte has two
pub two_bytes : {d : List ℕ} {b from f g n : ℕ} → SteppedFits d b from f g n → (b ≡ 1 → ⊥) → b ≡ 2
two_bytes {b = b} k h = by_order b 2 (λ l. absurd (h (omega (arith, l, k.positive)))) (λ l. omega (arith, l, k.bounded))
