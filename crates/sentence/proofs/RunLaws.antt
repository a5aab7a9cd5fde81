-- Laws of the sentence's run: which numbers, sorts and languages have a sentence, and how long it is at most.
use Rattle.std.specs.Prelude.{Ok, Err}
use mathlib.Core.Bool.{true}
use mathlib.Core.List.{List, [], ◌++◌, append_assoc}
use mathlib.Core.Path.{◌∙◌, ◌≡◌, ap, refl}
use Prim.Native.Nat.{◌+◌, ◌-◌, ◌<◌, ◌≤◌, ℕ}
use native.Mathlib.Omega.{arith}
use lib.Dec.{eqb}
use lib.ListN.{get_or, length, length-append}
use borrow.Author.Tests.{eq-eqb, le-ltb, lt-ltb, ltb-false, ne_eqb}
use Rattle.laws.proofs.Order.{pick-both, pick-false, pick_true}
use Rattle.laws.proofs.Out.{and_then-done, done-yes, fitted-room, refuse-done, refuse-no, refuse-yes, then-done, then-refused}
use Rattle.laws.specs.Out.{fitted, is_done, reason}
use Rattle.laws.specs.Pick.{pick}
use Rattle.laws.specs.Utf8.{character_bytes, utf8}
use Rattle.numbers.proofs.Decimal.{decimal-few, decimal-short}
use Rattle.numbers.specs.Decimal.{decimal}
use Rattle.sentence.proofs.Rows.{reasons-numbered, reasons-short, row_at, row-none, row_number, row-short, row_within, sorts-numbered, sorts-short}
use Rattle.sentence.specs.Sentence.{head, in_language, item, row_of, sentence, sentence_run}
use Rattle.sentence.specs.Table.{reasons, sorts}
use Rattle.sentence.specs.inner.Texts.{Known, item_at, last_number, last_sort, no_row, reason_text_of, sentence_at, sort_text_of}

reasons-count : length reasons ≡ last_number
unfolding reasons
reasons-count = refl

sorts-count : length sorts ≡ last_sort + 1
unfolding sorts
sorts-count = refl

-- the marks between the parts
marks : (length (utf8 ": ") ≡ 2) × (length (utf8 ")") ≡ 1) × (length (utf8 ".") ≡ 1)
unfolding utf8 character_bytes pick
marks = (refl, refl, refl)

-- ---- the rows of a known number and sort

module _ (number : ℕ) (least : 1 ≤ number) (most : number ≤ last_number) where
  reason-row : row_of number reasons ≡ Ok (get_or reasons (number - 1) no_row)
  reason-row =
      let e : number ≡ 1 + (number - 1) = omega arith in
      ap (λ (n : ℕ). row_of n reasons) e ∙ row_at reasons 1 (number - 1) reasons-numbered (omega (arith, reasons-count))

module _ (sort : ℕ) (most : sort ≤ last_sort) where
  sort-row : row_of sort sorts ≡ Ok (get_or sorts sort no_row)
  sort-row = let e : sort ≡ 0 + sort = omega arith in ap (λ (n : ℕ). row_of n sorts) e ∙ row_at sorts 0 sort sorts-numbered (omega (arith, sorts-count))

-- ---- the item: nothing for sort 0

pub item-none : (sort index language : ℕ) → sort ≡ 0 → item_at sort index language ≡ []
unfolding item_at
item-none sort index language h = pick_true _ _ _ (eq-eqb sort 0 h)

pub item-some : (sort index language : ℕ) → (sort ≡ 0 → ⊥) → item_at sort index language ≡ sort_text_of sort language ++ (decimal index ++ utf8 ")")
unfolding item_at
item-some sort index language h = pick-false _ _ _ (ne_eqb sort 0 h)

-- ---- the run by number, sort and language

module _ (number sort index language : ℕ) (known : Known number sort language) where
  sentence-at : sentence language (get_or reasons (number - 1) no_row) (get_or sorts sort no_row) index ≡ sentence_at number sort index language
  unfolding sentence sentence_at head item item_at reason_text_of sort_text_of
  sentence-at =
      let why = get_or reasons (number - 1) no_row in
      let of = get_or sorts sort no_row in
      let tail = item language of index ++ utf8 "." in
      let n : why.number ≡ number = row_number number reasons why (reason-row number known.least known.most) in
      let s : of.number ≡ sort = row_number sort sorts of (sort-row sort known.listed) in
      append_assoc (decimal why.number) (utf8 ": " ++ in_language language why) tail
      ∙ ap (λ (bs : List ℕ). decimal why.number ++ bs) (append_assoc (utf8 ": ") (in_language language why) tail)
      ∙ rw (n, s) refl

  pub run-known : (room : ℕ) → sentence_run number sort index language room ≡ fitted room (sentence_at number sort index language)
  unfolding sentence_run
  run-known room =
      then-done _ (reason-row number known.least known.most) ∙ then-done _ (sort-row sort known.listed)
      ∙ refuse-no 5 _ (le-ltb 1 language known.spoken) ∙ ap (fitted room) sentence-at

  item-short : length (item_at sort index language) ≤ 31
  unfolding item_at sort_text_of
  item-short =
      let w = row-short sorts 10 sort language sorts-short (omega (arith, known.listed, sorts-count)) in
      pick-both (λ (bs : List ℕ). length bs ≤ 31) (eqb sort 0) [] (sort_text_of sort language ++ (decimal index ++ utf8 ")")) (omega arith)
      (simp length-append (omega (arith, decimal-short index, marks)))

  -- the longest has 164 bytes: the reason of 18 in German, with an entry's index of 20 digits
  pub sentence-short : length (sentence_at number sort index language) ≤ 164
  unfolding sentence_at reason_text_of
  sentence-short =
      let t = row-short reasons 128 (number - 1) language reasons-short (omega (arith, known.least, known.most, reasons-count)) in
      simp length-append (omega (arith, item-short, marks, decimal-few 1 number (omega (arith, known.most))))

module _ (number sort index language room : ℕ) where
  pub run-no-number : (1 ≤ number → number ≤ last_number → ⊥) → sentence_run number sort index language room ≡ Err (reason 5)
  unfolding sentence_run
  run-no-number h = then-refused _ (row-none reasons 1 number reasons-numbered (λ a b. h a (omega (arith, reasons-count))))

  pub run-no-sort : 1 ≤ number → number ≤ last_number → (sort ≤ last_sort → ⊥) → sentence_run number sort index language room ≡ Err (reason 5)
  unfolding sentence_run
  run-no-sort l m h = then-done _ (reason-row number l m) ∙ then-refused _ (row-none sorts 0 sort sorts-numbered (λ a b. h (omega (arith, sorts-count))))

  pub run-no-language : 1 ≤ number → number ≤ last_number → sort ≤ last_sort → 1 < language → sentence_run number sort index language room ≡ Err (reason 5)
  unfolding sentence_run
  run-no-language l m s h = then-done _ (reason-row number l m) ∙ then-done _ (sort-row sort s) ∙ refuse-yes 5 _ (lt-ltb 1 language h)

  -- ---- WHAT HAS A SENTENCE

  -- both languages have one for every number with every sort, and 192 bytes are room enough
  pub sentence-fits : 1 ≤ number → number ≤ 19 → sort ≤ 2 → language ≤ 1 → 192 ≤ room → is_done (sentence_run number sort index language room) ≡ true
  sentence-fits a b s l h =
      let known : Known number sort language = record { least = a; most = b; listed = s; spoken = l } in
      done-yes _ _
      (run-known number sort index language known room ∙ fitted-room room _ (omega (arith, sentence-short number sort index language known)))

  -- and nothing else has
  pub sentence-known : (bs : List ℕ) → sentence_run number sort index language room ≡ Ok bs → (1 ≤ number) × (number ≤ 19) × (sort ≤ 2) × (language ≤ 1)
  unfolding sentence_run
  sentence-known bs e =
      let a = and_then-done _ _ bs e in
      let b = and_then-done _ _ bs a.2 in
      let n = row_within reasons 1 number a.0 reasons-numbered a.1 in
      let s = row_within sorts 0 sort b.0 sorts-numbered b.1 in
      let l = ltb-false 1 language (refuse-done _ 5 _ bs b.2).0 in
      (n.0, omega (arith, n.1, reasons-count), omega (arith, s.1, sorts-count), l)
