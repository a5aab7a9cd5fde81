-- From a sentence alone, language, number, sort and index are read back.
use Rattle.std.specs.Prelude.{Ok}
use mathlib.Core.Bool.{Bool, ◌&&◌, false, true}
use mathlib.Core.List.{List, [], ◌++◌, ◌∷◌, append_assoc, append-nil}
use mathlib.Core.Path.{◌∙◌, ◌≡◌, ap, refl, sym}
use Prim.Native.Nat.{◌<◌, ◌^◌, ◌≤◌, suc, zero, ℕ}
use native.Mathlib.Omega.{arith}
use lib.Dec.{eqb}
use lib.ListN.{get_or}
use borrow.Author.Tests.{eq-eqb, ltb-false}
use Rattle.laws.proofs.Order.{and-true, apart, by-test, pick-false, pick_true}
use Rattle.laws.proofs.Out.{and_then-done, done-same, not_done, refuse-done}
use Rattle.laws.specs.Out.{fitted, reason}
use Rattle.laws.specs.Pick.{pick}
use Rattle.laws.specs.Utf8.{character_bytes, utf8}
use Rattle.numbers.proofs.Decimal.{decimal-back}
use Rattle.numbers.specs.Decimal.{decimal, digits_onto, is_digit, read_decimal}
use Rattle.sentence.proofs.Rows.{row_number}
use Rattle.sentence.specs.Sentence.{head, in_language, item, row_of, sentence, sentence_run}
use Rattle.sentence.specs.Table.{Row, reasons, sorts}
use Rattle.sentence.specs.Told.{Key, Told, keys, on_key, on_start, opening, read_back, told, word}

-- ---- a start, and another

start-same : (p s : List ℕ) (f : List ℕ → Told) (other : Told) → on_start p (p ++ s) f other ≡ f s
unfolding on_start
start-same [] s f other = refl
start-same (a ∷ p) s f other = pick_true _ _ _ (eq-eqb a a refl) ∙ start-same p s f other

-- they differ at a place that both have
unfoldable differ : List ℕ → List ℕ → Bool
differ [] q = false
differ (a ∷ p) [] = false
differ (a ∷ p) (b ∷ q) = pick (eqb a b) (differ p q) true

start-other : (p q s : List ℕ) (f : List ℕ → Told) (other : Told) → differ p q ≡ true → on_start p (q ++ s) f other ≡ other
unfolding on_start differ
start-other [] q s f other e = apart (cc)
start-other (a ∷ p) [] s f other e = apart (cc)
start-other (a ∷ p) (b ∷ q) s f other e =
    by-test (eqb a b) (λ h. pick_true _ _ _ h ∙ start-other p q s f other (sym (pick_true _ _ _ h) ∙ e)) (λ h. pick-false _ _ _ h)

-- ---- one of many keys whose texts differ

unfoldable differs_from : (Key → List ℕ) → List ℕ → List Key → Bool
differs_from text p [] = true
differs_from text p (k ∷ ks) = differ p (text k) && differs_from text p ks

unfoldable all_differ : (Key → List ℕ) → List Key → Bool
all_differ text [] = true
all_differ text (k ∷ ks) = differs_from text (text k) ks && all_differ text ks

data Among (k : Key) : List Key → Type 0 where
  here : {ks : List Key} → Among k (k ∷ ks)
  there : {j : Key} {ks : List Key} → Among k ks → Among k (j ∷ ks)

differs-one : (text : Key → List ℕ) (p : List ℕ) (k : Key) (ks : List Key) → Among k ks → differs_from text p ks ≡ true → differ p (text k) ≡ true
unfolding differs_from
differs-one text p k _ (here {ks = ks}) e = (and-true (differ p (text k)) (differs_from text p ks) e).0
differs-one text p k _ (there {j = j} {ks = ks} a) e = differs-one text p k ks a (and-true (differ p (text j)) (differs_from text p ks) e).1

key_back : (text : Key → List ℕ) (k : Key) (ks : List Key) (s : List ℕ) (f : Key → List ℕ → Told) → all_differ text ks ≡ true → Among k ks → on_key text ks (text k ++ s) f ≡ f k s
unfolding on_key all_differ
key_back text k _ s f e (here {ks = ks}) = start-same (text k) s (f k) (on_key text ks (text k ++ s) f)
key_back text k _ s f e (there {j = j} {ks = ks} a) =
    let b = and-true (differs_from text (text j) ks) (all_differ text ks) e in
    start-other (text j) (text k) s (f j) (on_key text ks (text k ++ s) f) (differs-one text (text j) k ks a b.0) ∙ key_back text k ks s f b.1 a

-- ---- the keys of the tables

among-keys : (n language : ℕ) (rows : List Row) (r : Row) → row_of n rows ≡ Ok r → Among (record { language = language; row = r }) (keys language rows)
unfolding row_of keys
among-keys n language [] r e = not_done (reason 5) r e
among-keys n language (q ∷ rows) r e =
    by-test (eqb n q.number) (λ h. rw (← done-same q r (sym (pick_true _ _ _ h) ∙ e)) here)
    (λ h. there (among-keys n language rows r (sym (pick-false _ _ _ h) ∙ e)))

among-left : (k : Key) (ks js : List Key) → Among k ks → Among k (ks ++ js)
among-left k _ js (here {ks = ks}) = here
among-left k _ js (there {j = j} {ks = ks} a) = there (among-left k ks js a)

among-right : (k : Key) (ks js : List Key) → Among k js → Among k (ks ++ js)
among-right k [] js a = a
among-right k (j ∷ ks) js a = there (among-right k ks js a)

among-both : (language : ℕ) (r : Row) (rows : List Row) → language ≤ 1 → Among (record { language = language; row = r }) (keys language rows)
    → Among (record { language = language; row = r }) (keys 0 rows ++ keys 1 rows)
among-both zero r rows h a = among-left _ (keys 0 rows) (keys 1 rows) a
among-both (suc zero) r rows h a = among-right _ (keys 0 rows) (keys 1 rows) a
among-both (suc (suc n)) r rows h a = absurd (omega arith)

-- every two openings differ, in one language or two
openings-differ : all_differ opening (keys 0 reasons ++ keys 1 reasons) ≡ true
unfolding all_differ differs_from differ opening head in_language pick reasons keys utf8 character_bytes decimal digits_onto
openings-differ = refl

-- every two words of a language do
words-differ : (language : ℕ) → language ≤ 1 → all_differ word (keys language sorts) ≡ true
unfolding all_differ differs_from differ word in_language pick sorts keys utf8 character_bytes
words-differ zero h = refl
words-differ (suc zero) h = refl
words-differ (suc (suc n)) h = absurd (omega arith)

-- ---- what follows the reason

unfoldable index_end : ℕ → ℕ → List ℕ
index_end sort index = pick (eqb sort 0) [] (decimal index ++ (utf8 ")" ++ utf8 "."))

item-split : (language index : ℕ) (r : Row) → item language r index ++ utf8 "." ≡ word (record { language = language; row = r }) ++ index_end r.number index
unfolding item word index_end pick
item-split language index r = by-test (eqb r.number 0) (λ e. simp e (sym (append-nil (utf8 ".")))) (λ e. simp (e, append_assoc))

bracket-ends : is_digit (get_or (utf8 ")" ++ utf8 ".") 0 0) ≡ false
unfolding is_digit utf8 character_bytes pick
bracket-ends = refl

index_back : (sort index : ℕ) → index < 10 ^ 20 → pick (eqb sort 0) 0 (read_decimal (index_end sort index)) ≡ pick (eqb sort 0) 0 index
unfolding index_end pick
index_back sort index h = by-test (eqb sort 0) (λ e. simp e) (λ e. simp e (decimal-back index (utf8 ")" ++ utf8 ".") h bracket-ends))

-- ---- THE SENTENCE READ BACK

back : (language index : ℕ) (why of : Row) → index < 10 ^ 20 → language ≤ 1 → Among (record { language = language; row = why }) (keys language reasons)
    → Among (record { language = language; row = of }) (keys language sorts)
    → read_back (sentence language why of index) ≡ told language why.number of.number (pick (eqb of.number 0) 0 index)
unfolding read_back sentence opening
back language index why of h l a b =
    key_back opening (record { language = language; row = why }) (keys 0 reasons ++ keys 1 reasons) _ _ openings-differ (among-both language why reasons l a)
    ∙ rw (item-split language index of)
    (key_back word (record { language = language; row = of }) (keys language sorts) _ _ (words-differ language l) b
    ∙ ap (told language why.number of.number) (index_back of.number index h))

pub sentence-back : (number sort index language room : ℕ) (bs : List ℕ) → index < 2 ^ 64 → sentence_run number sort index language room ≡ Ok bs
    → read_back bs ≡ told language number sort (pick (eqb sort 0) 0 index)
unfolding sentence_run fitted
sentence-back number sort index language room bs h e =
    let a = and_then-done _ _ bs e in
    let b = and_then-done _ _ bs a.2 in
    let c = refuse-done _ 5 _ bs b.2 in
    let d = refuse-done _ 17 _ bs c.1 in
    ap read_back (sym (done-same _ bs d.1))
    ∙ back language index a.0 b.0 (omega arith) (ltb-false 1 language c.0) (among-keys number language reasons a.0 a.1) (among-keys sort language sorts b.0 b.1)
    ∙ rw (row_number number reasons a.0 a.1, row_number sort sorts b.0 b.1) refl
