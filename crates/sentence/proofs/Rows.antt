-- Laws of the table's rows: which numbers have one, where it stands, and how long its texts are.
use Rattle.std.specs.Prelude.{Ok, Err}
use mathlib.Core.Bool.{Bool, ◌&&◌, true}
use mathlib.Core.List.{List, [], ◌∷◌}
use mathlib.Core.Path.{◌∙◌, ◌≡◌, ap, refl, sym}
use Prim.Native.Nat.{◌+◌, ◌<◌, ◌≤◌, suc, zero, ℕ}
use native.Mathlib.Nat.{le_of_suc-le-suc, not-suc-le-zero}
use native.Mathlib.Omega.{arith}
use lib.Dec.{eqb, leb}
use lib.ListN.{get_or, length}
use borrow.Author.Tests.{eq-eqb, eqb-true, leb-true, ne_eqb}
use Rattle.laws.proofs.Order.{and-true, by_order, by-test, pick-both, pick-false, pick_true}
use Rattle.laws.proofs.Out.{done-same, not_done}
use Rattle.laws.specs.Out.{reason}
use Rattle.laws.specs.Pick.{pick}
use Rattle.laws.specs.Utf8.{character_bytes, utf8}
use Rattle.sentence.specs.Sentence.{in_language, row_of}
use Rattle.sentence.specs.Table.{Row, reasons, sorts}
use Rattle.sentence.specs.inner.Texts.{no_row}

-- ---- the row of a number

pub row_number : (n : ℕ) (rows : List Row) (r : Row) → row_of n rows ≡ Ok r → r.number ≡ n
unfolding row_of
row_number n [] r e = not_done (reason 5) r e
row_number n (q ∷ rows) r e =
    by-test (eqb n q.number)
    (λ h. ap (λ (x : Row). x.number) (sym (done-same q r (sym (pick_true _ _ _ h) ∙ e))) ∙ sym (eqb-true n q.number h))
    (λ h. row_number n rows r (sym (pick-false _ _ _ h) ∙ e))

-- the rows have the numbers from n on
unfoldable pub numbered : ℕ → List Row → Bool
numbered n [] = true
numbered n (r ∷ rows) = eqb r.number n && numbered (n + 1) rows

numbered_next : (n : ℕ) (r : Row) (rows : List Row) → numbered n (r ∷ rows) ≡ true → (r.number ≡ n) × (numbered (n + 1) rows ≡ true)
unfolding numbered
numbered_next n r rows t = let a = and-true (eqb r.number n) (numbered (n + 1) rows) t in (eqb-true r.number n a.0, a.1)

-- row k of them
pub row_at : (rows : List Row) (n k : ℕ) → numbered n rows ≡ true → k < length rows → row_of (n + k) rows ≡ Ok (get_or rows k no_row)
unfolding row_of
row_at [] n k t h = absurd (not-suc-le-zero h)
row_at (r ∷ rows) n zero t h = pick_true _ _ _ (eq-eqb (n + 0) r.number (omega (arith, (numbered_next n r rows t).0)))
row_at (r ∷ rows) n (suc k) t h =
    let a = numbered_next n r rows t in
    let e : n + suc k ≡ n + 1 + k = omega arith in
    pick-false _ _ _ (ne_eqb (n + suc k) r.number (λ q. omega (arith, a.0))) ∙ ap (λ (m : ℕ). row_of m rows) e
    ∙ row_at rows (n + 1) k a.1 (le_of_suc-le-suc h)

-- no other number has a row
pub row-none : (rows : List Row) (n m : ℕ) → numbered n rows ≡ true → (n ≤ m → m < n + length rows → ⊥) → row_of m rows ≡ Err (reason 5)
unfolding row_of
row-none [] n m t h = refl
row-none (r ∷ rows) n m t h =
    let a = numbered_next n r rows t in
    pick-false _ _ _ (ne_eqb m r.number (λ q. h (omega (arith, a.0)) (omega (arith, a.0))))
    ∙ row-none rows (n + 1) m a.1 (λ p q. h (omega arith) (omega arith))

pub row_within : (rows : List Row) (n m : ℕ) (r : Row) → numbered n rows ≡ true → row_of m rows ≡ Ok r → (n ≤ m) × (m < n + length rows)
row_within rows n m r t e =
    by_order m n (λ l. not_done (reason 5) r (sym (row-none rows n m t (λ a b. omega arith)) ∙ e))
    (λ l. by_order m (n + length rows) (λ h. (l, h)) (λ h. not_done (reason 5) r (sym (row-none rows n m t (λ a b. omega arith)) ∙ e)))

-- ---- the two tables

pub reasons-numbered : numbered 1 reasons ≡ true
unfolding numbered reasons
reasons-numbered = refl

pub sorts-numbered : numbered 0 sorts ≡ true
unfolding numbered sorts
sorts-numbered = refl

-- ---- how long the texts are

unfoldable pub short_texts : ℕ → List Row → Bool
short_texts n [] = true
short_texts n (r ∷ rows) = leb (length (utf8 r.german)) n && (leb (length (utf8 r.english)) n && short_texts n rows)

pub row-short : (rows : List Row) (n k language : ℕ) → short_texts n rows ≡ true → k < length rows → length (in_language language (get_or rows k no_row)) ≤ n
unfolding short_texts in_language
row-short [] n k language t h = absurd (not-suc-le-zero h)
row-short (r ∷ rows) n k language t h =
    let a = and-true (leb (length (utf8 r.german)) n) (leb (length (utf8 r.english)) n && short_texts n rows) t in
    let b = and-true (leb (length (utf8 r.english)) n) (short_texts n rows) a.1 in
    go k h (leb-true _ _ a.0) (leb-true _ _ b.0) (λ j l. row-short rows n j language b.1 l)
  where
    go : (j : ℕ) → j < length (r ∷ rows) → length (utf8 r.german) ≤ n → length (utf8 r.english) ≤ n
        → ((i : ℕ) → i < length rows → length (in_language language (get_or rows i no_row)) ≤ n) → length (in_language language (get_or (r ∷ rows) j no_row)) ≤ n
    go zero l p q f = pick-both (λ (bs : List ℕ). length bs ≤ n) (eqb language 0) (utf8 r.german) (utf8 r.english) p q
    go (suc j) l p q f = f j (le_of_suc-le-suc l)

pub reasons-short : short_texts 128 reasons ≡ true
unfolding short_texts reasons utf8 character_bytes pick
reasons-short = refl

pub sorts-short : short_texts 10 sorts ≡ true
unfolding short_texts sorts utf8 character_bytes pick
sorts-short = refl
