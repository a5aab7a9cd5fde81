-- The item that a refusal names is the one that is refused.
use Rattle.std.specs.Prelude.{Ok, Err, Some}
use mathlib.Core.Bool.{Bool, ◌||◌, false, true}
use mathlib.Core.List.{List, [], ◌++◌, ◌∷◌}
use mathlib.Core.Logic.{◌⊎◌, inl, inr}
use mathlib.Core.Path.{◌∙◌, ◌≡◌, ap, refl, sym}
use Prim.Native.Nat.{◌+◌, suc, zero, ℕ}
use native.Mathlib.Omega.{arith}
use lib.Dec.{ltb}
use lib.ListN.{length}
use borrow.Author.Tests.{ltb-true}
use Rattle.laws.proofs.Order.{apart, by-test, pick-false, pick_true}
use Rattle.laws.proofs.Out.{done-about, done-after, item-no, item-yes, not_done, refuse-no, refuse-yes, refused-about, refused-after, then-done, then-refused}
use Rattle.laws.specs.Any.{any, first_at}
use Rattle.laws.specs.Out.{Out, about, after, and_then, later, later_item, own_reason, own_refusal, refuse, refuse_item}
use Rattle.laws.specs.Pick.{pick}
use Rattle.laws.specs.declared.Item.{Item}
use Rattle.laws.specs.declared.Item.TheVariants.{Entry, Record}
use Rattle.laws.specs.declared.Refusal.{Refusal}
use Rattle.image.specs.declared.format.Form.{Form}
use Rattle.records.specs.Record.{record_at}
use Rattle.records.specs.Tray.{frames_at}
use Rattle.records.specs.declared.record.Frame.{Frame}
use Rattle.props.specs.Chain.{applies, entries_at, fold_chain}
use Rattle.props.specs.Entry.{entry_at}
use Rattle.props.specs.declared.entry.Property.{Property}
use Rattle.props.specs.declared.entry.PropertyEntry.{PropertyEntry}
use Rattle.tiles.specs.Tiles.{alike_from, held_to}
use Rattle.items.specs.Items.{FirstItem, LeftOver, OwnItem, OwnStep, past_entry, past_record, stands_at}

refused-same : {A : Type 0} (q r : Refusal) → ◌≡◌ {A = Out A} (Err q) (Err r) → q ≡ r
refused-same q r e = cc

-- how a run ended
ended : {A X : Type 0} (o : Out A) → ((r : Refusal) → o ≡ Err r → X) → ((a : A) → o ≡ Ok a → X) → X
ended (Err r) f g = f r refl
ended (Ok a) f g = g a refl

-- an item that is refused behind another counts one more
abbrev Counts : (ℕ → Item) → Type 0
Counts sort = (i : ℕ) → later_item 1 (Some (sort i)) ≡ Some (sort (suc i))

record-counts : (i : ℕ) → later_item 1 (Some (Record i)) ≡ Some (Record (suc i))
unfolding later_item
record-counts i = let e : 1 + i ≡ suc i = omega arith in ap (λ (k : ℕ). Some (Record k)) e

entry-counts : (i : ℕ) → later_item 1 (Some (Entry i)) ≡ Some (Entry (suc i))
unfolding later_item
entry-counts i = let e : 1 + i ≡ suc i = omega arith in ap (λ (k : ℕ). Some (Entry k)) e

-- ---- one after the other in bytes

-- X is what an item is read as, next the place past it
module _ {X A : Type 0} (item : ℕ → Out X) (next : X → ℕ) (keep : X → A) (sort : ℕ → Item) (end : ℕ) (counts : Counts sort) (items : ℕ → ℕ → Out (List A))
    (none : (at : ℕ) → items zero at ≡ refuse (ltb at end) 5 (Ok []))
    (more : (n at : ℕ) → items (suc n) at ≡ and_then (about sort 0 (item at)) (λ x. and_then (after 1 (items n (next x))) (λ xs. Ok (keep x ∷ xs)))) where
  abbrev past : ℕ → Out ℕ
  past at = and_then (item at) (λ x. Ok (next x))

  abbrev Named : ℕ → ℕ → Refusal → Type 0
  Named n at r = OwnItem past sort n at r ⊎ LeftOver past n at end r

  -- the first is refused
  first-own : (n at : ℕ) (q : Refusal) → item at ≡ Err q → Named (suc n) at (own_refusal q.reason (sort 0))
  unfolding stands_at
  first-own n at q e = inl (record { index = 0; names = refl; there = omega arith; place = at; stands = refl; why = q; refuses = then-refused _ e; number = refl })

  -- one behind it
  rest-own : (n at : ℕ) (x : X) (q : Refusal) → item at ≡ Ok x → Named n (next x) q → Named (suc n) at (later 1 q)
  unfolding stands_at later later_item
  rest-own n at x q e (inl o) = inl (record {
    index = suc o.index;
    names = ap (later_item 1) o.names ∙ counts o.index;
    there = omega (arith, o.there);
    place = o.place;
    stands = then-done _ (then-done _ e) ∙ o.stands;
    why = o.why;
    refuses = o.refuses;
    number = o.number;
  })
  rest-own n at x q e (inr o) = inr (record { place = o.place; stands = then-done _ (then-done _ e) ∙ o.stands; over = o.over; none = ap (later 1) o.none })

  named-as : (n at : ℕ) {q r : Refusal} → q ≡ r → Named n at q → Named n at r
  named-as n at e k = rw e at k

  items-name : (n at : ℕ) (r : Refusal) → items n at ≡ Err r → Named n at r
  unfolding stands_at
  items-name zero at r e =
      by-test (ltb at end)
      (λ h. inr (record { place = at; stands = refl; over = ltb-true at end h; none = refused-same {A = List A} r _ (sym e ∙ none at ∙ refuse-yes _ _ h) }))
      (λ h. not_done r [] (sym e ∙ none at ∙ refuse-no _ _ h))
  items-name (suc n) at r e =
      ended (item at)
      (λ q w. named-as (suc n) at (refused-same {A = List A} _ r (sym (more n at ∙ then-refused _ (refused-about sort 0 _ q w)) ∙ e)) (first-own n at q w))
      (λ x w.
      let here = more n at ∙ then-done _ (done-about sort 0 _ x w) in
      ended (items n (next x))
      (λ q v. named-as (suc n) at (refused-same {A = List A} _ r (sym (here ∙ then-refused _ (refused-after 1 _ q v)) ∙ e)) (rest-own n at x q w (items-name n (next x) q v)))
      (λ xs v. not_done r _ (sym e ∙ here ∙ then-done _ (done-after 1 _ xs v))))

-- a tray's records, and a chain's entries by their form
pub tray-item : (n : ℕ) (s : List ℕ) (at : ℕ) (r : Refusal) → frames_at n s at ≡ Err r → OwnItem (past_record s) Record n at r ⊎ LeftOver (past_record s) n at (length s) r
unfolding frames_at past_record
tray-item n s at r e = items-name (record_at s) (λ fr. fr.end) (λ fr. fr) Record (length s) record-counts (λ m a. frames_at m s a) (λ a. refl) (λ m a. refl) n at r e

pub chain-item : (n : ℕ) (s : List ℕ) (at : ℕ) (r : Refusal) → entries_at n s at ≡ Err r → OwnItem (past_entry s) Entry n at r ⊎ LeftOver (past_entry s) n at (length s) r
unfolding entries_at past_entry
chain-item n s at r e = items-name (entry_at s) (λ x. x.1) (λ x. x.0) Entry (length s) entry-counts (λ m a. entries_at m s a) (λ a. refl) (λ m a. refl) n at r e

-- ---- gone through one after the other

module _ {A B : Type 0} (run : List A → B → Out B) (step : A → B → Out B) (sort : ℕ → Item) (counts : Counts sort)
    (none : (b : B) → run [] b ≡ Ok b) (more : (a : A) (items : List A) (b : B) → run (a ∷ items) b ≡ and_then (about sort 0 (step a b)) (λ c. after 1 (run items c))) where
  step-own : (a : A) (items : List A) (b : B) (q : Refusal) → step a b ≡ Err q → OwnStep run step sort (a ∷ items) b (own_refusal q.reason (sort 0))
  step-own a items b q e = record { before = []; item = a; behind = items; all = refl; names = refl; reached = b; gone = none b; why = q; refuses = e; number = refl }

  later-own : (a : A) (items : List A) (b c : B) (q : Refusal) → step a b ≡ Ok c → OwnStep run step sort items c q → OwnStep run step sort (a ∷ items) b (later 1 q)
  unfolding later
  later-own a items b c q e o = record {
    before = a ∷ o.before;
    item = o.item;
    behind = o.behind;
    all = ap (λ (l : List A). a ∷ l) o.all;
    names = ap (later_item 1) o.names ∙ counts (length o.before);
    reached = o.reached;
    gone = more a o.before b ∙ then-done _ (done-about sort 0 _ c e) ∙ done-after 1 _ _ o.gone;
    why = o.why;
    refuses = o.refuses;
    number = o.number;
  }

  own-as : (items : List A) (b : B) {q r : Refusal} → q ≡ r → OwnStep run step sort items b q → OwnStep run step sort items b r
  own-as items b e k = rw e at k

  steps-name : (items : List A) (b : B) (r : Refusal) → run items b ≡ Err r → OwnStep run step sort items b r
  steps-name [] b r e = not_done r b (sym e ∙ none b)
  steps-name (a ∷ items) b r e =
      ended (step a b)
      (λ q w. own-as (a ∷ items) b (refused-same {A = B} _ r (sym (more a items b ∙ then-refused _ (refused-about sort 0 _ q w)) ∙ e)) (step-own a items b q w))
      (λ c w.
      let here = more a items b ∙ then-done _ (done-about sort 0 _ c w) in
      ended (run items c)
      (λ q v. own-as (a ∷ items) b (refused-same {A = B} _ r (sym (here ∙ refused-after 1 _ q v) ∙ e)) (later-own a items b c q w (steps-name items c q v)))
      (λ d v. not_done r d (sym e ∙ here ∙ done-after 1 _ d v)))

-- a chain's entries when they are applied, and a grid's tiles beside the first
pub entry-item : {A : Type 0} (f : Property → A → Out A) (flag : Bool) (es : List PropertyEntry) (a : A) (r : Refusal) → fold_chain f flag es a ≡ Err r
    → OwnStep (fold_chain f flag) (λ e b. pick (applies flag e) (f e.property b) (Ok b)) Entry es a r
unfolding fold_chain
entry-item f flag es a r e = steps-name (fold_chain f flag) (λ x b. pick (applies flag x) (f x.property b) (Ok b)) Entry entry-counts (λ b. refl) (λ x xs b. refl) es a r e

pub tile_item : (t : Form) (a : ℕ) (frs : List Frame) (r : Refusal) → alike_from t a frs ≡ Err r → OwnStep (λ l b. alike_from t b l) (λ fr b. held_to t b fr.form) Record frs a r
unfolding alike_from
tile_item t a frs r e = steps-name (λ l b. alike_from t b l) (λ fr b. held_to t b fr.form) Record record-counts (λ b. refl) (λ x xs b. refl) frs a r e

-- ---- the first that passes a test

-- the items before the first that does, and those behind it
record Split {A : Type 0} (test : A → Bool) (items : List A) : Type 0 where
  before : List A
  item : A
  behind : List A
  all : items ≡ before ++ (item ∷ behind)
  index : first_at test items ≡ length before
  others : any test before ≡ false
  passes : test item ≡ true

first-split : {A : Type 0} (test : A → Bool) (items : List A) → any test items ≡ true → Split test items
unfolding any first_at
first-split test [] e = apart (cc)
first-split {A} test (a ∷ items) e =
    by-test (test a)
    (λ h. record { before = []; item = a; behind = items; all = refl; index = pick_true _ _ _ h; others = refl; passes = h })
    (λ h.
    let k = first-split test items (sym (ap (λ (b : Bool). b || any test items) h) ∙ e) in
    record {
      before = a ∷ k.before;
      item = k.item;
      behind = k.behind;
      all = ap (λ (l : List A). a ∷ l) k.all;
      index = pick-false _ _ _ h ∙ omega (arith, k.index);
      others = ap (λ (b : Bool). b || any test k.before) h ∙ k.others;
      passes = k.passes;
    })

module _ {A : Type 0} (test : A → Bool) (sort : ℕ → Item) (n : ℕ) where
  first-item : (items : List A) → any test items ≡ true → FirstItem test sort n items (own_reason n sort (first_at test items))
  first-item items e =
      let k = first-split test items e in
      record { number = refl; before = k.before; item = k.item; behind = k.behind; all = k.all; names = ap (λ (i : ℕ). Some (sort i)) k.index; others = k.others; passes = k.passes }

  item-as : (items : List A) {q r : Refusal} → q ≡ r → FirstItem test sort n items q → FirstItem test sort n items r
  item-as items e k = rw e at k

  pub first-named : {B : Type 0} (items : List A) (b : B) (r : Refusal) → refuse_item sort test n items (Ok b) ≡ Err r → FirstItem test sort n items r
  first-named items b r e =
      by-test (any test items)
      (λ h. item-as items (refused-same _ r (sym (item-yes sort test n items _ (Ok b) h refl) ∙ e)) (first-item items h))
      (λ h. not_done r b (sym e ∙ item-no sort test n items (Ok b) h))
