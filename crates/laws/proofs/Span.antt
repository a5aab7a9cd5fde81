-- Laws of lists that are made item by item.
use mathlib.Core.Path.{◌≡◌, refl, sym, ap, ap₂, ◌∙◌}
use mathlib.Core.List.{List, [], ◌++◌, append_assoc}
use Prim.Native.Nat.{ℕ, zero, suc, ◌+◌, ◌-◌, ◌*◌, ◌≤◌, ◌<◌}
use native.Mathlib.Nat.{zero-mul, suc-mul}
use native.Mathlib.Omega.{arith}
use lib.ListN.{length, drop, length-append}
use lib.Seq.{drop-drop, drop-append_seam}
use Rattle.laws.specs.Span.{run, span}

pub span-step : (f : ℕ → List ℕ) (i n : ℕ) → i < n → span f i n ≡ f i ++ span f (i + 1) n
unfolding span run
span-step f i n h =
    let e : n - i ≡ suc (n - (i + 1)) = omega arith in
    ap (run f i) e

pub span-end : (f : ℕ → List ℕ) (i n : ℕ) → n ≤ i → span f i n ≡ []
unfolding span run
span-end f i n h = let e : n - i ≡ 0 = omega arith in ap (run f i) e

length_run : (f : ℕ → List ℕ) (m k n : ℕ) → ((i : ℕ) → length (f i) ≡ m) → length (run f k n) ≡ n * m
unfolding run
length_run f m k zero h = sym (zero-mul m)
length_run f m k (suc n) h =
    length-append (f k) (run f (k + 1) n)
    ∙ (let a = h k in let b = length_run f m (k + 1) n h in let d = suc-mul n m in omega arith)

-- items of one length
pub length-span : (f : ℕ → List ℕ) (m k n : ℕ) → ((i : ℕ) → length (f i) ≡ m) → length (span f k n) ≡ (n - k) * m
unfolding span
length-span f m k n h = length_run f m k (n - k) h

pub length-span-all : (f : ℕ → List ℕ) (m n : ℕ) → ((i : ℕ) → length (f i) ≡ m) → length (span f 0 n) ≡ n * m
length-span-all f m n h = let e : n - 0 ≡ n = omega arith in length-span f m 0 n h ∙ ap (λ (k : ℕ). k * m) e

run-cong : (f g : ℕ → List ℕ) (k n : ℕ) → ((i : ℕ) → k ≤ i → i < k + n → f i ≡ g i) → run f k n ≡ run g k n
unfolding run
run-cong f g k zero h = refl
run-cong f g k (suc n) h = ap₂ (λ (a b : List ℕ). a ++ b) (h k (omega arith) (omega arith)) (run-cong f g (k + 1) n (λ i p q. h i (omega arith) (omega arith)))

-- the same items
pub span-cong : (f g : ℕ → List ℕ) (k n : ℕ) → ((i : ℕ) → k ≤ i → i < n → f i ≡ g i) → span f k n ≡ span g k n
unfolding span
span-cong f g k n h = run-cong f g k (n - k) (λ i p q. h i p (omega arith))

run-split : (f : ℕ → List ℕ) (k a b : ℕ) → run f k (a + b) ≡ run f k a ++ run f (k + a) b
unfolding run
run-split f k zero b = let e : 0 + b ≡ b = omega arith in let z : k + 0 ≡ k = omega arith in rw (e, z)
run-split f k (suc a) b =
    let e : suc a + b ≡ suc (a + b) = omega arith in
    let z : k + 1 + a ≡ k + suc a = omega arith in
    ap (run f k) e ∙ ap (λ (l : List ℕ). f k ++ l) (run-split f (k + 1) a b ∙ ap (λ (j : ℕ). run f (k + 1) a ++ run f j b) z)
    ∙ sym (append_assoc (f k) (run f (k + 1) a) (run f (k + suc a) b))

-- in two
pub span-split : (f : ℕ → List ℕ) (k i n : ℕ) → k ≤ i → i ≤ n → span f k n ≡ span f k i ++ span f i n
unfolding span
span-split f k i n h l =
    let e : n - k ≡ (i - k) + (n - i) = omega arith in
    let z : k + (i - k) ≡ i = omega arith in
    ap (run f k) e ∙ run-split f k (i - k) (n - i) ∙ ap (λ (j : ℕ). run f k (i - k) ++ run f j (n - i)) z

run-shift : (f : ℕ → List ℕ) (a k n : ℕ) → run f (a + k) n ≡ run (λ i. f (a + i)) k n
unfolding run
run-shift f a k zero = refl
run-shift f a k (suc n) = let e : a + k + 1 ≡ a + (k + 1) = omega arith in ap (λ (q : List ℕ). f (a + k) ++ q) (ap (λ (j : ℕ). run f j n) e ∙ run-shift f a (k + 1) n)

-- n items from item a on
pub span-shift : (f : ℕ → List ℕ) (a n : ℕ) → span f a (a + n) ≡ span (λ i. f (a + i)) 0 n
unfolding span
span-shift f a n =
    let e : a + n - a ≡ n = omega arith in
    let z : n - 0 ≡ n = omega arith in
    let o : a ≡ a + 0 = omega arith in
    ap₂ (run f) o e ∙ run-shift f a 0 n ∙ ap (run (λ i. f (a + i)) 0) (sym z)

-- item i of a list of items of m bytes that stands in s from a place on
pub item-at : (s : List ℕ) (at : ℕ) (f : ℕ → List ℕ) (m n : ℕ) (rest : List ℕ) → ((i : ℕ) → length (f i) ≡ m) → drop at s ≡ span f 0 n ++ rest
    → (i : ℕ) → i < n → drop (at + i * m) s ≡ f i ++ (span f (i + 1) n ++ rest)
item-at s at f m n rest h e i l =
    let a : span f 0 n ≡ span f 0 i ++ span f i n = span-split f 0 i n (omega arith) (omega arith) in
    let b : length (span f 0 i) ≡ i * m = length-span-all f m i h in
    sym (drop-drop (i * m) at s) ∙ ap (drop (i * m)) (e ∙ ap (λ (l : List ℕ). l ++ rest) a ∙ append_assoc (span f 0 i) (span f i n) rest)
    ∙ rw (← b) (drop-append_seam (span f 0 i) (span f i n ++ rest))
    ∙ ap (λ (l : List ℕ). l ++ rest) (span-step f i n l) ∙ append_assoc (f i) (span f (i + 1) n) rest
