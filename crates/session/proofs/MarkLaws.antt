-- Laws of marks: one bit set by an `or` with a power of two, and the searches word by word and cell by cell.
use mathlib.Core.Bool.{Bool, cond, false, not, true}
use mathlib.Core.List.{List}
use mathlib.Core.Logic.{◌⊎◌, inl, inr}
use mathlib.Core.Path.{◌∙◌, ◌≡◌, ap, refl, sym}
use Prim.Native.Nat.{◌%◌, ◌*◌, ◌+◌, ◌-◌, ◌/◌, ◌<◌, ◌^◌, ◌≤◌, suc, zero, ℕ}
use native.Mathlib.Decide.{dec_lt, ℕ_discrete}
use native.Mathlib.Nat.{div-eq_of_lt, div_self, mod-eq_of_lt, mod-lt, mul-div_cancel, one-mul}
use native.Mathlib.Omega.{arith}
use lib.Bits.{and_mask, bit_and, bit_or, or_mod, or_shr, or_zero_r, shifted_even}
use lib.Dec.{eqb}
use lib.ListN.{get_or, length, length-set, replicate, set}
use lib.Pow.{pow-add, pow-lt, pow_pos}
use lib.Seq.{get_or-set_other, get_or-set_same}
use borrow.Author.Tests.{eq-eqb, eqb-true, ne_eqb, not-false}
use Rattle.laws.proofs.Order.{and-true, by_equal, by-test, or_left, or_right, pick-false, pick_true, true-and}
use Rattle.laws.specs.Pick.{pick}
use Rattle.session.specs.Marks.{all_marked, any_word, bit_of, clear_from, is_marked, mark_of, no_marks}

-- ---- bit i of 2 ^ j

above : (i j : ℕ) → j < i → 2 ^ j / 2 ^ i % 2 ≡ 0
above i j h = ap (λ (x : ℕ). x % 2) (div-eq_of_lt (pow-lt h))

under : (i j : ℕ) → i < j → 2 ^ j / 2 ^ i % 2 ≡ 0
under i j h =
    let d = j - suc i in
    let e : j ≡ suc d + i = omega arith in
    ap (λ (x : ℕ). 2 ^ x / 2 ^ i % 2) e
    ∙ ap (λ (x : ℕ). x / 2 ^ i % 2) (pow-add 2 (suc d) i)
    ∙ ap (λ (x : ℕ). x % 2) (mul-div_cancel (2 ^ suc d) (pow_pos i) ∙ sym (one-mul (2 ^ suc d)))
    ∙ shifted_even 1 d

same : (i : ℕ) → 2 ^ i / 2 ^ i % 2 ≡ 1
same i = ap (λ (x : ℕ). x % 2) (div_self (pow_pos i))

-- ---- the bits of an `or`

or-bit : (a b i : ℕ) → bit_or a b / 2 ^ i % 2 ≡ bit_or (a / 2 ^ i % 2) (b / 2 ^ i % 2)
or-bit a b i = ap (λ (x : ℕ). x % 2) (or_shr a b i) ∙ or_mod (a / 2 ^ i) (b / 2 ^ i) 1

or-one : (x : ℕ) → x < 2 → bit_or x 1 ≡ 1
or-one x h = go (split x h)
  where
    split : (x : ℕ) → x < 2 → (x ≡ 0) ⊎ (x ≡ 1)
    split zero h = inl refl
    split (suc zero) h = inr refl
    split (suc (suc x)) h = absurd (omega arith)

    go : (x ≡ 0) ⊎ (x ≡ 1) → bit_or x 1 ≡ 1
    go (inl e) = ap (λ (z : ℕ). bit_or z 1) e
    go (inr e) = ap (λ (z : ℕ). bit_or z 1) e

set_own : (a i : ℕ) → bit_or a (2 ^ i) / 2 ^ i % 2 ≡ 1
set_own a i = or-bit a (2 ^ i) i ∙ ap (bit_or (a / 2 ^ i % 2)) (same i) ∙ or-one (a / 2 ^ i % 2) (mod-lt (a / 2 ^ i) (omega arith))

set_other : (a i j : ℕ) → (i ≡ j → ⊥) → bit_or a (2 ^ j) / 2 ^ i % 2 ≡ a / 2 ^ i % 2
set_other a i j n = or-bit a (2 ^ j) i ∙ ap (bit_or (a / 2 ^ i % 2)) (go (less i j n)) ∙ or_zero_r (a / 2 ^ i % 2)
  where
    less : (i j : ℕ) → (i ≡ j → ⊥) → (i < j) ⊎ (j < i)
    less i j n = elim (dec_lt i j) [ yes h ↦ inl h | no h ↦ inr (omega arith) ]

    go : (i < j) ⊎ (j < i) → 2 ^ j / 2 ^ i % 2 ≡ 0
    go (inl h) = under i j h
    go (inr h) = above i j h

-- ---- a mark

power : (j : ℕ) → j < 64 → 1 * 2 ^ j % 2 ^ 64 ≡ 2 ^ j
power j h = ap (λ (x : ℕ). x % 2 ^ 64) (one-mul (2 ^ j)) ∙ mod-eq_of_lt (pow-lt h)

pub mark-is : (ms : List ℕ) (i : ℕ) → set ms (i / 64) (bit_or (get_or ms (i / 64) 0) (1 * 2 ^ (i % 64) % 2 ^ 64)) ≡ mark_of ms i
unfolding mark_of
mark-is ms i = let l : i % 64 < 64 = omega arith in ap (λ (w : ℕ). set ms (i / 64) (bit_or (get_or ms (i / 64) 0) w)) (power (i % 64) l)

apart-cells : (c k : ℕ) → (k ≡ c → ⊥) → k / 64 ≡ c / 64 → k % 64 ≡ c % 64 → ⊥
apart-cells c k n e f = n (omega arith)

-- only its own bit changes
pub mark-bits : (ms : List ℕ) (c k : ℕ) → c / 64 < length ms → bit_of (mark_of ms c) k ≡ cond (eqb k c) 1 (bit_of ms k)
unfolding bit_of mark_of
mark-bits ms c k h = go (ℕ_discrete k c) (ℕ_discrete (k / 64) (c / 64))
  where
    w : ℕ
    w = bit_or (get_or ms (c / 64) 0) (2 ^ (c % 64))

    go : Dec (k ≡ c) → Dec (k / 64 ≡ c / 64) → get_or (set ms (c / 64) w) (k / 64) 0 / 2 ^ (k % 64) % 2 ≡ cond (eqb k c) 1 (get_or ms (k / 64) 0 / 2 ^ (k % 64) % 2)
    go (yes e) d =
        simp (e, eq-eqb c c refl, get_or-set_same ms (c / 64) w 0 h) (set_own (get_or ms (c / 64) 0) (c % 64))
    go (no n) (yes e) =
        simp (ne_eqb k c n, e, get_or-set_same ms (c / 64) w 0 h) (set_other (get_or ms (c / 64) 0) (k % 64) (c % 64) (apart-cells c k n e))
    go (no n) (no d) = simp (ne_eqb k c n, get_or-set_other ms (c / 64) (k / 64) w 0 d)

-- ---- the test

pub test-is : (ms : List ℕ) (c : ℕ) → eqb (bit_and (get_or ms (c / 64) 0 / 2 ^ (c % 64)) 1) 1 ≡ is_marked ms c
unfolding is_marked bit_of
test-is ms c = ap (λ (x : ℕ). eqb x 1) (and_mask (get_or ms (c / 64) 0 / 2 ^ (c % 64)) 1)

-- ---- the searches

less_by : (i n : ℕ) → i < n → n - i ≡ suc (n - (i + 1))
less_by i n h = omega arith

no_more : (i n : ℕ) → n ≤ i → n - i ≡ 0
no_more i n h = omega arith

pub all-missing : (ms : List ℕ) (i n : ℕ) → i < n → is_marked ms i ≡ false → all_marked ms i (n - i) ≡ false
all-missing ms i n h e = ap (all_marked ms i) (less_by i n h) ∙ step (n - (i + 1))
  where
    step : (k : ℕ) → all_marked ms i (suc k) ≡ false
    step k = unfold all_marked in simp e

pub all-onward : (ms : List ℕ) (i n : ℕ) → i < n → is_marked ms i ≡ true → all_marked ms i (n - i) ≡ all_marked ms (i + 1) (n - (i + 1))
all-onward ms i n h e = ap (all_marked ms i) (less_by i n h) ∙ step (n - (i + 1))
  where
    step : (k : ℕ) → all_marked ms i (suc k) ≡ all_marked ms (i + 1) k
    step k = unfold all_marked in simp e

pub all_end : (ms : List ℕ) (i n : ℕ) → n ≤ i → all_marked ms i (n - i) ≡ true
unfolding all_marked
all_end ms i n h = ap (all_marked ms i) (no_more i n h)

pub any_here : (ms : List ℕ) (i n : ℕ) → i < n → (get_or ms i 0 ≡ 0 → ⊥) → any_word ms i (n - i) ≡ true
any_here ms i n h e = ap (any_word ms i) (less_by i n h) ∙ step (n - (i + 1))
  where
    step : (k : ℕ) → any_word ms i (suc k) ≡ true
    step k = unfold any_word in simp (ne_eqb _ _ e)

pub any-onward : (ms : List ℕ) (i n : ℕ) → i < n → get_or ms i 0 ≡ 0 → any_word ms i (n - i) ≡ any_word ms (i + 1) (n - (i + 1))
any-onward ms i n h e = ap (any_word ms i) (less_by i n h) ∙ step (n - (i + 1))
  where
    step : (k : ℕ) → any_word ms i (suc k) ≡ any_word ms (i + 1) k
    step k = unfold any_word in simp (eq-eqb _ _ e)

pub any-end : (ms : List ℕ) (i n : ℕ) → n ≤ i → any_word ms i (n - i) ≡ false
unfolding any_word
any-end ms i n h = ap (any_word ms i) (no_more i n h)

pub clear-not : (ms : List ℕ) (count i n : ℕ) → i < n → (get_or ms i 0 / 2 ^ (count - i * 64) ≡ 0 → ⊥) → clear_from ms count i (n - i) ≡ false
clear-not ms count i n h e = ap (clear_from ms count i) (less_by i n h) ∙ step (n - (i + 1))
  where
    step : (k : ℕ) → clear_from ms count i (suc k) ≡ false
    step k = unfold clear_from in simp (ne_eqb _ _ e)

pub clear-onward : (ms : List ℕ) (count i n : ℕ) → i < n → get_or ms i 0 / 2 ^ (count - i * 64) ≡ 0 → clear_from ms count i (n - i) ≡ clear_from ms count (i + 1) (n - (i + 1))
clear-onward ms count i n h e = ap (clear_from ms count i) (less_by i n h) ∙ step (n - (i + 1))
  where
    step : (k : ℕ) → clear_from ms count i (suc k) ≡ clear_from ms count (i + 1) k
    step k = unfold clear_from in simp (eq-eqb _ _ e)

pub clear-end : (ms : List ℕ) (count i n : ℕ) → n ≤ i → clear_from ms count i (n - i) ≡ true
unfolding clear_from
clear-end ms count i n h = ap (clear_from ms count i) (no_more i n h)

-- ---- what the searches say of each word

pub clear-get : (ms : List ℕ) (count k n : ℕ) → clear_from ms count k n ≡ true → (i : ℕ) → k ≤ i → i < k + n → get_or ms i 0 / 2 ^ (count - i * 64) ≡ 0
unfolding clear_from
clear-get ms count k zero e i a b = absurd (omega arith)
clear-get ms count k (suc n) e i a b =
    let h = and-true _ _ e in
    by_equal k i
    (λ q. ap (λ (j : ℕ). get_or ms j 0 / 2 ^ (count - j * 64)) (sym q) ∙ eqb-true _ _ h.0)
    (λ d. clear-get ms count (k + 1) n h.1 i (omega arith) (omega arith))

pub clear-all : (ms : List ℕ) (count k n : ℕ) → ((i : ℕ) → k ≤ i → i < k + n → get_or ms i 0 / 2 ^ (count - i * 64) ≡ 0) → clear_from ms count k n ≡ true
unfolding clear_from
clear-all ms count k zero f = refl
clear-all ms count k (suc n) f = true-and _ _ (eq-eqb _ _ (f k (omega arith) (omega arith))) (clear-all ms count (k + 1) n (λ i a b. f i (omega arith) (omega arith)))

pub any-get : (ms : List ℕ) (k n : ℕ) → any_word ms k n ≡ false → (i : ℕ) → k ≤ i → i < k + n → get_or ms i 0 ≡ 0
unfolding any_word
any-get ms k zero e i a b = absurd (omega arith)
any-get ms k (suc n) e i a b =
    by_equal k i
    (λ q. ap (λ (j : ℕ). get_or ms j 0) (sym q) ∙ eqb-true _ _ (not-false _ (or_left (not (eqb (get_or ms k 0) 0)) (any_word ms (k + 1) n) e)))
    (λ d. any-get ms (k + 1) n (or_right (not (eqb (get_or ms k 0) 0)) (any_word ms (k + 1) n) e) i (omega arith) (omega arith))

pub any_none : (ms : List ℕ) (k n : ℕ) → ((i : ℕ) → get_or ms i 0 ≡ 0) → any_word ms k n ≡ false
unfolding any_word
any_none ms k zero f = refl
any_none ms k (suc n) f = simp (eq-eqb _ _ (f k), any_none ms (k + 1) n f)

pub any_some : (ms : List ℕ) (k n j : ℕ) → k ≤ j → j < k + n → (get_or ms j 0 ≡ 0 → ⊥) → any_word ms k n ≡ true
any_some ms k n j a b d = by-test (any_word ms k n) (λ e. e) (λ e. absurd (d (any-get ms k n e j a b)))

-- ---- a mark, and the words

pub length-mark : (ms : List ℕ) (c : ℕ) → length (mark_of ms c) ≡ length ms
unfolding mark_of
length-mark ms c = length-set ms (c / 64) _

-- a cell below `count` leaves the words clear from there on
pub mark-clear : (ms : List ℕ) (c count i : ℕ) → c / 64 < length ms → c < count → get_or ms i 0 / 2 ^ (count - i * 64) ≡ 0 → get_or (mark_of ms c) i 0 / 2 ^ (count - i * 64) ≡ 0
unfolding mark_of
mark-clear ms c count i h l e =
    by_equal i (c / 64)
    (λ q.
    let low : c % 64 < count - i * 64 = omega arith in
    ap (λ (v : ℕ). v / 2 ^ (count - i * 64)) (ap (λ (j : ℕ). get_or (set ms (c / 64) (bit_or (get_or ms (c / 64) 0) (2 ^ (c % 64)))) j 0) q ∙ get_or-set_same ms (c / 64) _ 0 h)
    ∙ or_shr (get_or ms (c / 64) 0) (2 ^ (c % 64)) (count - i * 64)
    ∙ ap (λ (v : ℕ). bit_or v (2 ^ (c % 64) / 2 ^ (count - i * 64))) (ap (λ (j : ℕ). get_or ms j 0 / 2 ^ (count - i * 64)) (sym q) ∙ e)
    ∙ div-eq_of_lt (pow-lt low))
    (λ d. ap (λ (v : ℕ). v / 2 ^ (count - i * 64)) (get_or-set_other ms (c / 64) i _ 0 d) ∙ e)

-- its own word has a mark
pub mark-some : (ms : List ℕ) (c : ℕ) → c / 64 < length ms → get_or (mark_of ms c) (c / 64) 0 ≡ 0 → ⊥
unfolding mark_of
mark-some ms c h e = no (sym (set_own (get_or ms (c / 64) 0) (c % 64)) ∙ ap (λ (v : ℕ). v / 2 ^ (c % 64) % 2) (sym (get_or-set_same ms (c / 64) _ 0 h) ∙ e) ∙ none)
  where
    none : 0 / 2 ^ (c % 64) % 2 ≡ 0
    none = ap (λ (v : ℕ). v % 2) (div-eq_of_lt (pow_pos (c % 64)))

    no : ◌≡◌ {A = ℕ} 1 0 → ⊥
    no q = omega arith

-- which cells are marked
pub mark-marks : (ms : List ℕ) (c k : ℕ) → c / 64 < length ms → is_marked (mark_of ms c) k ≡ pick (eqb c k) true (is_marked ms k)
unfolding is_marked
mark-marks ms c k h =
    by_equal c k
    (λ q. ap (λ (v : ℕ). eqb v 1) (mark-bits ms c k h ∙ ap (λ (b : Bool). cond b 1 (bit_of ms k)) (eq-eqb k c (sym q))) ∙ sym (pick_true _ _ _ (eq-eqb c k q)))
    (λ d. ap (λ (v : ℕ). eqb v 1) (mark-bits ms c k h ∙ ap (λ (b : Bool). cond b 1 (bit_of ms k)) (ne_eqb k c (λ e. d (sym e)))) ∙ sym (pick-false _ _ _ (ne_eqb c k d)))

pub zero-words : (n i : ℕ) → get_or {A = ℕ} (replicate n 0) i 0 ≡ 0
zero-words zero i = refl
zero-words (suc n) zero = refl
zero-words (suc n) (suc i) = zero-words n i

pub none-marked : (i : ℕ) → is_marked no_marks i ≡ false
unfolding is_marked bit_of no_marks
none-marked i = ap (λ (v : ℕ). eqb (v / 2 ^ (i % 64) % 2) 1) (zero-words 1024 (i / 64)) ∙ ap (λ (v : ℕ). eqb (v % 2) 1) (div-eq_of_lt (pow_pos (i % 64)))

-- each cell marked is all marked
pub all_of : (ms : List ℕ) (k n : ℕ) → ((i : ℕ) → k ≤ i → i < k + n → is_marked ms i ≡ true) → all_marked ms k n ≡ true
unfolding all_marked
all_of ms k zero f = refl
all_of ms k (suc n) f = true-and _ _ (f k (omega arith) (omega arith)) (all_of ms (k + 1) n (λ i a b. f i (omega arith) (omega arith)))
