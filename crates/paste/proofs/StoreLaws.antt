-- Laws of rows and samples stored in the middle of others.
use mathlib.Core.Bool.{Bool, false, true}
use mathlib.Core.List.{List, ◌++◌, append_assoc}
use mathlib.Core.Path.{◌∙◌, ◌≡◌, ap, ap₂, refl, sym}
use Prim.Native.Nat.{◌*◌, ◌+◌, ◌-◌, ◌<◌, ◌≤◌, suc, zero, ℕ}
use native.Mathlib.Nat.{add-mul}
use native.Mathlib.Omega.{arith}
use lib.Dec.{eqb}
use lib.ListN.{drop, length, length-append, length-drop, take, take-append-drop}
use lib.Seq.{drop-drop, length-take-le}
use borrow.Author.Tests.{eq-eqb, ne_eqb}
use Rattle.laws.proofs.Order.{by_equal, by_order, pick-both, pick-false, pick_true, within, within-no, within-yes}
use Rattle.laws.proofs.Puts.{length-puts, puts-middle, puts-split}
use Rattle.laws.proofs.Span.{length-span, length-span-all, span-cong, span-shift, span-split, span-step}
use Rattle.laws.specs.Pick.{pick}
use Rattle.laws.specs.Puts.{puts}
use Rattle.laws.specs.Span.{span}
use Rattle.planes.proofs.ByteLaws.{length-sample_bytes}
use Rattle.planes.specs.Bytes.{sample_bytes, samples_of}
use Rattle.paste.proofs.RowLaws.{length-store_rows}
use Rattle.paste.specs.Stored.{store_rows}

-- ---- in the middle of a list

-- bytes stored where they stand
pub puts-there : (d : List ℕ) (i n : ℕ) (vs : List ℕ) → i + n ≤ length d → vs ≡ take n (drop i d) → puts d i vs ≡ d
puts-there d i n vs l e =
    let k : length vs ≡ n = ap length e ∙ length-take-le n (drop i d) (omega (arith, length-drop i d)) in
    puts-split d i vs (omega (arith, k))
    ∙ ap₂ (λ (u w : List ℕ). take i d ++ (u ++ w)) e (ap (λ (m : ℕ). drop (i + m) d) k ∙ sym (drop-drop n i d))
    ∙ ap (λ (q : List ℕ). take i d ++ q) (take-append-drop n (drop i d)) ∙ take-append-drop i d

pub puts-inside : (a b c bs : List ℕ) (i : ℕ) → i + length bs ≤ length b → puts (a ++ (b ++ c)) (length a + i) bs ≡ a ++ (puts b i bs ++ c)
puts-inside a b c bs i h =
    ap (λ (q : List ℕ). puts (a ++ (q ++ c)) (length a + i) bs) split
    ∙ ap (λ (q : List ℕ). puts q (length a + i) bs) there
    ∙ puts-middle (a ++ u) v (w ++ c) bs (length a + i) (length-append a u ∙ ap (λ (n : ℕ). length a + n) front) middle
    ∙ back ∙ ap (λ (q : List ℕ). a ++ (q ++ c)) (sym (puts-split b i bs h))
  where
    u : List ℕ
    u = take i b

    v : List ℕ
    v = take (length bs) (drop i b)

    w : List ℕ
    w = drop (i + length bs) b

    split : b ≡ u ++ (v ++ w)
    split = sym (take-append-drop i b) ∙ ap (λ (q : List ℕ). u ++ q) (sym (take-append-drop (length bs) (drop i b)) ∙ ap (λ (q : List ℕ). v ++ q) (drop-drop (length bs) i b))

    front : length u ≡ i
    front = length-take-le i b (omega arith)

    middle : length v ≡ length bs
    middle = length-take-le (length bs) (drop i b) (omega (arith, length-drop i b))

    there : a ++ ((u ++ (v ++ w)) ++ c) ≡ (a ++ u) ++ (v ++ (w ++ c))
    there = simp append_assoc

    back : (a ++ u) ++ (bs ++ (w ++ c)) ≡ a ++ ((u ++ (bs ++ w)) ++ c)
    back = simp append_assoc

-- rows one below the other
pub rows_inside : (a b c : List ℕ) (i stride : ℕ) (f : ℕ → List ℕ) (k : ℕ) → ((y : ℕ) → y < k → i + y * stride + length (f y) ≤ length b)
    → store_rows (a ++ (b ++ c)) (length a + i) stride f k ≡ a ++ (store_rows b i stride f k ++ c)
unfolding store_rows
rows_inside a b c i stride f zero h = refl
rows_inside a b c i stride f (suc k) h =
    let e : length a + i + k * stride ≡ length a + (i + k * stride) = omega arith in
    ap₂ (λ (q : List ℕ) (n : ℕ). puts q n (f k)) (rows_inside a b c i stride f k (λ y l. h y (omega arith))) e
    ∙ puts-inside a (store_rows b i stride f k) c (f k) (i + k * stride) (omega (arith, h k (omega arith), length-store_rows b i stride f k))

-- ---- in the middle of samples

-- k items of one length in the place of as many
pub span-patch : (f g : ℕ → List ℕ) (m n a k : ℕ) → ((i : ℕ) → length (f i) ≡ m) → ((i : ℕ) → length (g i) ≡ m) → a + k ≤ n
    → puts (span f 0 n) (a * m) (span g 0 k) ≡ span (λ x. pick (within a k x) (g (x - a)) (f x)) 0 n
span-patch f g m n a k hf hg l =
    ap (λ (q : List ℕ). puts q (a * m) (span g 0 k)) (three f)
    ∙ puts-middle (span f 0 a) (span f a (a + k)) (span f (a + k) n) (span g 0 k) (a * m) (length-span-all f m a hf) (length-span f m a (a + k) hf ∙ width ∙ sym (length-span-all g m k hg))
    ∙ ap₂ (λ (p q : List ℕ). p ++ (span g 0 k ++ q)) before after ∙ ap (λ (q : List ℕ). span h 0 a ++ (q ++ span h (a + k) n)) inside ∙ sym (three h)
  where
    h : ℕ → List ℕ
    h x = pick (within a k x) (g (x - a)) (f x)

    three : (e : ℕ → List ℕ) → span e 0 n ≡ span e 0 a ++ (span e a (a + k) ++ span e (a + k) n)
    three e = span-split e 0 a n (omega arith) (omega arith) ∙ ap (λ (q : List ℕ). span e 0 a ++ q) (span-split e a (a + k) n (omega arith) (omega arith))

    width : (a + k - a) * m ≡ k * m
    width = let e : a + k - a ≡ k = omega arith in ap (λ (j : ℕ). j * m) e

    before : span f 0 a ≡ span h 0 a
    before = span-cong f h 0 a (λ i p q. sym (pick-false _ _ _ (within-no a k i (λ u v. omega arith))))

    after : span f (a + k) n ≡ span h (a + k) n
    after = span-cong f h (a + k) n (λ i p q. sym (pick-false _ _ _ (within-no a k i (λ u v. omega arith))))

    inside : span g 0 k ≡ span h a (a + k)
    inside =
        span-cong g (λ i. h (a + i)) 0 k
        (λ i p q. let e : a + i - a ≡ i = omega arith in sym (pick_true _ _ _ (within-yes a k (a + i) (omega arith) (omega arith)) ∙ ap g e))
        ∙ sym (span-shift h a k)

pick-ap : (e : ℕ → List ℕ) (b : Bool) (x y : ℕ) → e (pick b x y) ≡ pick b (e x) (e y)
unfolding pick
pick-ap e true x y = refl
pick-ap e false x y = refl

-- samples in the middle of a row
pub samples-patch : (bytes : ℕ) (f g : ℕ → ℕ) (n a k : ℕ) → 1 ≤ bytes → bytes ≤ 2 → a + k ≤ n
    → puts (samples_of bytes f n) (a * bytes) (samples_of bytes g k) ≡ samples_of bytes (λ x. pick (within a k x) (g (x - a)) (f x)) n
unfolding samples_of
samples-patch bytes f g n a k some few l =
    span-patch (λ x. sample_bytes bytes (f x)) (λ x. sample_bytes bytes (g x)) bytes n a k (λ i. length-sample_bytes bytes (f i) some few) (λ i. length-sample_bytes bytes (g i) some few) l
    ∙ span-cong _ _ 0 n (λ x p q. sym (pick-ap (sample_bytes bytes) (within a k x) (g (x - a)) (f x)))

-- ---- in the middle of rows

-- one row
row-patch : (f : ℕ → List ℕ) (m n y c : ℕ) (bs : List ℕ) → ((i : ℕ) → length (f i) ≡ m) → y < n → c + length bs ≤ m
    → puts (span f 0 n) (y * m + c) bs ≡ span (λ k. pick (eqb k y) (puts (f k) c bs) (f k)) 0 n
row-patch f m n y c bs h l r =
    ap₂ (λ (q : List ℕ) (i : ℕ). puts q (i + c) bs) (three f) (sym (length-span-all f m y h))
    ∙ puts-inside (span f 0 y) (f y) (span f (y + 1) n) bs c (rw (h y) r)
    ∙ ap₂ (λ (p q : List ℕ). p ++ (puts (f y) c bs ++ q)) before after ∙ ap (λ (q : List ℕ). span g 0 y ++ (q ++ span g (y + 1) n)) here ∙ sym (three g)
  where
    g : ℕ → List ℕ
    g k = pick (eqb k y) (puts (f k) c bs) (f k)

    three : (e : ℕ → List ℕ) → span e 0 n ≡ span e 0 y ++ (e y ++ span e (y + 1) n)
    three e = span-split e 0 y n (omega arith) (omega arith) ∙ ap (λ (q : List ℕ). span e 0 y ++ q) (span-step e y n l)

    other : (i : ℕ) → (i ≡ y → ⊥) → f i ≡ g i
    other i d = sym (pick-false _ _ _ (ne_eqb i y d))

    before : span f 0 y ≡ span g 0 y
    before = span-cong f g 0 y (λ i p q. other i (λ e. omega arith))

    after : span f (y + 1) n ≡ span g (y + 1) n
    after = span-cong f g (y + 1) n (λ i p q. other i (λ e. omega arith))

    here : puts (f y) c bs ≡ g y
    here = sym (pick_true _ _ _ (eq-eqb y y refl))

nearer : (a k y : ℕ) → y < a + k → within a k y ≡ within a (suc k) y
nearer a k y u = by_order y a (λ v. within-no a k y (λ p q. omega arith) ∙ sym (within-no a (suc k) y (λ p q. omega arith))) (λ v. within-yes a k y v u ∙ sym (within-yes a (suc k) y v (omega arith)))

-- k rows, each c bytes in
pub rows-patch : (f : ℕ → List ℕ) (m n a c : ℕ) (g : ℕ → List ℕ) (k : ℕ) → ((i : ℕ) → length (f i) ≡ m) → ((i : ℕ) → c + length (g i) ≤ m) → a + k ≤ n
    → store_rows (span f 0 n) (a * m + c) m g k ≡ span (λ y. pick (within a k y) (puts (f y) c (g (y - a))) (f y)) 0 n
unfolding store_rows
rows-patch f m n a c g zero h r l = span-cong f _ 0 n (λ y p q. sym (pick-false _ _ _ (within-no a 0 y (λ u v. omega arith))))
rows-patch f m n a c g (suc k) h r l =
    ap₂ (λ (q : List ℕ) (i : ℕ). puts q i (g k)) (rows-patch f m n a c g k h r (omega arith)) place
    ∙ row-patch e m n (a + k) c (g k) (λ i. pick-both (λ (q : List ℕ). length q ≡ m) (within a k i) _ _ (length-puts (f i) c (g (i - a)) ∙ h i) (h i)) (omega arith) (r k)
    ∙ span-cong _ _ 0 n (λ y p q. step y)
  where
    e : ℕ → List ℕ
    e y = pick (within a k y) (puts (f y) c (g (y - a))) (f y)

    place : a * m + c + k * m ≡ (a + k) * m + c
    place = omega (arith, add-mul a k m)

    step : (y : ℕ) → pick (eqb y (a + k)) (puts (e y) c (g k)) (e y) ≡ pick (within a (suc k) y) (puts (f y) c (g (y - a))) (f y)
    step y =
        by_equal y (a + k)
        (λ q.
        let z : y - a ≡ k = omega arith in
        pick_true _ _ _ (eq-eqb y (a + k) q) ∙ ap₂ (λ (s : List ℕ) (i : ℕ). puts s c (g i)) (pick-false _ _ _ (within-no a k y (λ u v. omega arith))) (sym z)
        ∙ sym (pick_true _ _ _ (within-yes a (suc k) y (omega arith) (omega arith))))
        (λ d.
        pick-false _ _ _ (ne_eqb y (a + k) d)
        ∙ by_order y (a + k)
        (λ u. ap (λ (b : Bool). pick b (puts (f y) c (g (y - a))) (f y)) (nearer a k y u))
        (λ u. pick-false _ _ _ (within-no a k y (λ v w. omega arith)) ∙ sym (pick-false _ _ _ (within-no a (suc k) y (λ v w. omega arith)))))
