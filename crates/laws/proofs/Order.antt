-- Proofs by cases on an order or on a test, and bounds of products.
use mathlib.Core.Path.{◌≡◌, refl, sym, ◌∙◌}
use mathlib.Core.Bool.{Bool, true, false, ◌&&◌, ◌||◌}
use Prim.Native.Nat.{ℕ, ◌+◌, ◌*◌, ◌≤◌, ◌<◌}
use native.Mathlib.Nat.{lt_of_not-le, mul-le-mul, mul-le-mul_right, suc-mul}
use native.Mathlib.Decide.{dec_le, ℕ_discrete}
use native.Mathlib.Omega.{arith}
use lib.Dec.{leb, ltb}
use borrow.Author.Tests.{le-leb, le-ltb, lt-leb, lt-ltb}
use Rattle.laws.specs.Pick.{pick}

pub by_order {ℓ} : {X : Type ℓ} (a b : ℕ) → (a < b → X) → (b ≤ a → X) → X
by_order a b f g = elim (dec_le b a) [ yes h ↦ g h | no h ↦ f (lt_of_not-le h) ]

pub by_equal {ℓ} : {X : Type ℓ} (a b : ℕ) → (a ≡ b → X) → ((a ≡ b → ⊥) → X) → X
by_equal a b f g = elim (ℕ_discrete a b) [ yes h ↦ f h | no h ↦ g h ]

pub by-test {ℓ} : {X : Type ℓ} (b : Bool) → (b ≡ true → X) → (b ≡ false → X) → X
by-test true f g = f refl
by-test false f g = g refl

-- two constructors, told apart by `cc` as 0 and 1
pub apart {ℓ} : {X : Type ℓ} → ◌≡◌ {A = ℕ} 0 1 → X
apart e = absurd (go e)
  where
    go : ◌≡◌ {A = ℕ} 0 1 → ⊥
    go q = omega arith

pub pick_true {ℓ} : {A : Type ℓ} (b : Bool) (x y : A) → b ≡ true → pick b x y ≡ x
unfolding pick
pick_true b x y e = rw e

pub pick-false {ℓ} : {A : Type ℓ} (b : Bool) (x y : A) → b ≡ false → pick b x y ≡ y
unfolding pick
pick-false b x y e = rw e

pub pick-le : (b : Bool) (x y n : ℕ) → x ≤ n → y ≤ n → pick b x y ≤ n
unfolding pick
pick-le true x y n h k = h
pick-le false x y n h k = k

-- what holds of both holds of the choice
pub pick-both {ℓ ℓ'} : {A : Type ℓ} (P : A → Type ℓ') (b : Bool) (x y : A) → P x → P y → P (pick b x y)
unfolding pick
pick-both P true x y p q = p
pick-both P false x y p q = q

pub or_left : (a b : Bool) → (a || b) ≡ false → a ≡ false
or_left true b e = e
or_left false b e = refl

pub or_right : (a b : Bool) → (a || b) ≡ false → b ≡ false
or_right true b e = cc
or_right false b e = e

pub and-true : (b c : Bool) → (b && c) ≡ true → (b ≡ true) × (c ≡ true)
and-true true c e = (refl, e)
and-true false c e = (e, cc)

pub true-and : (b c : Bool) → b ≡ true → c ≡ true → (b && c) ≡ true
true-and b c p q = rw (p, q)

pub and_no : (a : Bool) {b : Bool} → b ≡ false → (a && b) ≡ false
and_no true e = e
and_no false e = refl

pub bool_same : (a b : Bool) → (a ≡ true → b ≡ true) → (b ≡ true → a ≡ true) → a ≡ b
bool_same true b f g = sym (f refl)
bool_same false true f g = g refl
bool_same false false f g = refl

-- a product of two bounded numbers
pub mul-below : (x y a b : ℕ) → a ≤ x → b ≤ y → a * b ≤ x * y
mul-below x y a b h k = mul-le-mul h k

-- item i of n items of m ends within them
pub item-within : (i n m : ℕ) → i < n → i * m + m ≤ n * m
item-within i n m h =
    let e : (i + 1) * m ≡ i * m + m = omega (arith, suc-mul i m) in
    rw (← e) (mul-le-mul_right m (omega arith))

pub positive : (n : ℕ) → (n ≡ 0 → ⊥) → 1 ≤ n
positive n h = omega arith

-- ---- n places from a on

unfoldable pub within : ℕ → ℕ → ℕ → Bool
within a n x = leb a x && ltb x (a + n)

pub within-yes : (a n x : ℕ) → a ≤ x → x < a + n → within a n x ≡ true
unfolding within
within-yes a n x h l = true-and _ _ (le-leb a x h) (lt-ltb x (a + n) l)

pub within-no : (a n x : ℕ) → (a ≤ x → x < a + n → ⊥) → within a n x ≡ false
unfolding within
within-no a n x h = by_order x a (λ l. rw (lt-leb a x l)) (λ l. by_order x (a + n) (λ m. absurd (h l m)) (λ m. rw (le-leb a x l, le-ltb x (a + n) m)))

pub within_none : (a x : ℕ) → within a 0 x ≡ false
within_none a x = within-no a 0 x (λ p q. omega arith)

not-both {ℓ} : {X : Type ℓ} → ◌≡◌ {A = Bool} false true → X
not-both q = apart (cc)

pub within-true : (a n x : ℕ) → within a n x ≡ true → (a ≤ x) × (x < a + n)
within-true a n x e =
    by_order x a (λ l. not-both (sym (within-no a n x (λ p q. omega arith)) ∙ e))
    (λ l. by_order x (a + n) (λ m. (l, m)) (λ m. not-both (sym (within-no a n x (λ p q. omega arith)) ∙ e)))
