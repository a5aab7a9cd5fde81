-- Laws of decimal text.
use mathlib.Core.List.{List, [], ◌++◌, ◌∷◌}
use mathlib.Core.Path.{◌∙◌, ◌≡◌, ap, refl, sym}
use Prim.Native.Nat.{◌%◌, ◌*◌, ◌+◌, ◌-◌, ◌/◌, ◌<◌, ◌^◌, ◌≤◌, suc, zero, ℕ}
use native.Mathlib.Nat.{div-add-mod, div-lt_iff_lt-mul, mod-lt, pow-suc}
use native.Mathlib.Omega.{arith}
use lib.Dec.{lit<}
use lib.ListN.{get_or, length}
use borrow.Author.Tests.{le-leb, le-ltb, lt-ltb}
use mathlib.Core.Bool.{false}
use Rattle.laws.proofs.Order.{by_order, pick-false, pick_true, true-and}
use Rattle.laws.specs.Pick.{pick}
use Rattle.numbers.specs.Decimal.{decimal, digits_after, digits_onto, is_digit, read_decimal}

digits_last : (k n : ℕ) (after : List ℕ) → n < 10 → digits_onto k n after ≡ (48 + n) ∷ after
unfolding digits_onto pick
digits_last zero n after h = refl
digits_last (suc k) n after h = simp (lt-ltb n 10 h)

digits_more : (k n : ℕ) (after : List ℕ) → 10 ≤ n → digits_onto (suc k) n after ≡ digits_onto k (n / 10) ((48 + n % 10) ∷ after)
unfolding digits_onto pick
digits_more k n after h = simp (le-ltb n 10 h)

tenth : (k n : ℕ) → n < 10 ^ suc k → n / 10 < 10 ^ k
tenth k n h = let e : n < 10 ^ k * 10 = rw pow-suc at h in (div-lt_iff_lt-mul (lit< tt)).1 e

-- one digit more than is needed changes nothing
digits-fuel : (k n : ℕ) (after : List ℕ) → n < 10 ^ suc k → digits_onto k n after ≡ digits_onto (suc k) n after
digits-fuel zero n after h = digits_last 0 n after h ∙ sym (digits_last 1 n after h)
digits-fuel (suc k) n after h =
    by_order n 10 (λ l. digits_last (suc k) n after l ∙ sym (digits_last (suc (suc k)) n after l))
    (λ g.
    digits_more k n after g ∙ digits-fuel k (n / 10) ((48 + n % 10) ∷ after) (tenth (suc k) n h) ∙ sym (digits_more (suc k) n after g))

pub onto-last : (n : ℕ) (after : List ℕ) → n < 10 → digits_onto 19 n after ≡ (48 + n) ∷ after
onto-last n after h = digits_last 19 n after h

pub onto-more : (n : ℕ) (after : List ℕ) → 10 ≤ n → n < 2 ^ 64 → digits_onto 19 n after ≡ digits_onto 19 (n / 10) ((48 + n % 10) ∷ after)
onto-more n after h l = digits_more 18 n after h ∙ digits-fuel 18 (n / 10) ((48 + n % 10) ∷ after) (omega arith)

pub length_digits : (k n : ℕ) (after : List ℕ) → (length after < length (digits_onto k n after)) × (length (digits_onto k n after) ≤ suc k + length after)
unfolding digits_onto
length_digits zero n after = omega arith
length_digits (suc k) n after =
    by_order n 10 (λ l. rw (digits_last (suc k) n after l) (omega arith))
    (λ g. let r = length_digits k (n / 10) ((48 + n % 10) ∷ after) in rw (digits_more k n after g) (omega arith))

pub decimal-short : (n : ℕ) → length (decimal n) ≤ 20
unfolding decimal
decimal-short n = (length_digits 19 n []).1

digits-few : (j k n : ℕ) (after : List ℕ) → n < 10 ^ suc k → length (digits_onto j n after) ≤ suc k + length after
unfolding digits_onto
digits-few zero k n after h = omega arith
digits-few (suc j) zero n after h = rw (digits_last (suc j) n after h) (omega arith)
digits-few (suc j) (suc k) n after h =
    by_order n 10 (λ l. rw (digits_last (suc j) n after l) (omega arith))
    (λ g. let r = digits-few j k (n / 10) ((48 + n % 10) ∷ after) (tenth (suc k) n h) in rw (digits_more j n after g) (omega arith))

-- a number below a power of ten
pub decimal-few : (k n : ℕ) → n < 10 ^ suc k → length (decimal n) ≤ suc k
unfolding decimal
decimal-few k n h = let r = digits-few 19 k n [] h in omega arith

-- ---- read back

digit-next : (v d : ℕ) (s : List ℕ) → d < 10 → digits_after v ((48 + d) ∷ s) ≡ digits_after (v * 10 + d) s
unfolding digits_after is_digit
digit-next v d s h =
    let e : 48 + d - 48 ≡ d = omega arith in
    pick_true _ _ _ (true-and _ _ (le-leb 48 (48 + d) (omega arith)) (lt-ltb (48 + d) 58 (omega arith))) ∙ ap (λ (k : ℕ). digits_after (v * 10 + k) s) e

digit-first : (n : ℕ) (s : List ℕ) → n < 10 → digits_after 0 ((48 + n) ∷ s) ≡ digits_after n s
digit-first n s h = let e : 0 * 10 + n ≡ n = omega arith in digit-next 0 n s h ∙ ap (λ (v : ℕ). digits_after v s) e

digits-back : (k n : ℕ) (s : List ℕ) → n < 10 ^ suc k → digits_after 0 (digits_onto k n s) ≡ digits_after n s
unfolding digits_onto
digits-back zero n s h = digit-first n s h
digits-back (suc k) n s h =
    by_order n 10 (λ l. ap (digits_after 0) (digits_last (suc k) n s l) ∙ digit-first n s l)
    (λ g.
    let m : n % 10 < 10 = mod-lt n (lit< tt) in
    let e : n / 10 * 10 + n % 10 ≡ n = omega (arith, div-add-mod n 10) in
    ap (digits_after 0) (digits_more k n s g)
    ∙ digits-back k (n / 10) ((48 + n % 10) ∷ s) (tenth (suc k) n h)
    ∙ digit-next (n / 10) (n % 10) s m
    ∙ ap (λ (v : ℕ). digits_after v s) e)

digits_append : (k n : ℕ) (s t : List ℕ) → digits_onto k n s ++ t ≡ digits_onto k n (s ++ t)
unfolding digits_onto
digits_append zero n s t = refl
digits_append (suc k) n s t =
    by_order n 10 (λ l. ap (λ (q : List ℕ). q ++ t) (digits_last (suc k) n s l) ∙ sym (digits_last (suc k) n (s ++ t) l))
    (λ g. ap (λ (q : List ℕ). q ++ t) (digits_more k n s g) ∙ digits_append k (n / 10) ((48 + n % 10) ∷ s) t ∙ sym (digits_more k n (s ++ t) g))

digits-end : (v : ℕ) (s : List ℕ) → is_digit (get_or s 0 0) ≡ false → digits_after v s ≡ v
unfolding digits_after
digits-end v [] h = refl
digits-end v (c ∷ s) h = pick-false _ _ _ h

-- whatever follows that does not begin with a digit
pub decimal-back : (n : ℕ) (after : List ℕ) → n < 10 ^ 20 → is_digit (get_or after 0 0) ≡ false → read_decimal (decimal n ++ after) ≡ n
unfolding decimal read_decimal
decimal-back n after h e = ap (digits_after 0) (digits_append 19 n [] after) ∙ digits-back 19 n after h ∙ digits-end n after e
