-- Laws of answers and refusals.
use Rattle.std.specs.Prelude.{Ok, Err, Option, Some, None}
use mathlib.Core.Bool.{Bool, false, true}
use mathlib.Core.List.{List}
use mathlib.Core.Path.{◌∙◌, ◌≡◌, ap, refl, sym}
use Prim.Native.Nat.{◌+◌, ◌<◌, ◌≤◌, ℕ}
use lib.ListN.{length}
use lib.Dec.{eqb}
use borrow.Author.Tests.{le-ltb, lt-ltb}
use native.Mathlib.Nat.{add_assoc, add-zero, zero-add}
use Rattle.laws.proofs.Order.{apart}
use Rattle.laws.proofs.Puts.{puts-start}
use Rattle.laws.specs.Out.{Out, about, after, and_then, answer_of, fitted, is_done, later, later_item, own_reason, own_refusal, reason, refuse, refuse_item, written}
use Rattle.laws.specs.Pick.{pick}
use Rattle.laws.specs.Puts.{puts}
use Rattle.laws.specs.declared.Item.{Item}
use Rattle.laws.specs.declared.Item.TheVariants.{Record, Entry, Other}
use Rattle.laws.specs.declared.Reason.{Reason}
use Rattle.laws.specs.declared.Refusal.{Refusal}
use Rattle.laws.specs.Any.{any, first_at}

-- what holds of an answer, where there is one
unfoldable pub Holds {ℓ} : {A : Type 0} → (A → Type ℓ) → Out A → Type ℓ
Holds P (Err r) = Unit
Holds P (Ok a) = P a

-- two runs: the same refusal, or answers that R relates
pub data Same {A B : Type 0} (R : A → B → Type 0) : Out A → Out B → Type 0 where
  alike : {r : Refusal} → Same R (Err r) (Err r)
  both : {a : A} {b : B} → R a b → Same R (Ok a) (Ok b)

-- ---- a run step by step

pub then-done : {A B : Type 0} {o : Out A} {a : A} (f : A → Out B) → o ≡ Ok a → and_then o f ≡ f a
unfolding and_then
then-done f e = ap (λ x. and_then x f) e

pub then-refused : {A B : Type 0} {o : Out A} {r : Refusal} (f : A → Out B) → o ≡ Err r → and_then o f ≡ Err r
unfolding and_then
then-refused f e = ap (λ x. and_then x f) e

pub refuse-no : {A : Type 0} {t : Bool} (n : ℕ) (o : Out A) → t ≡ false → refuse t n o ≡ o
unfolding refuse
refuse-no n o e = ap (λ b. refuse b n o) e

pub refuse-yes : {A : Type 0} {t : Bool} (n : ℕ) (o : Out A) → t ≡ true → refuse t n o ≡ Err (reason n)
unfolding refuse
refuse-yes n o e = ap (λ b. refuse b n o) e

-- ---- a run that answered: each step of it did

pub and_then-done : {A B : Type 0} (o : Out A) (f : A → Out B) (b : B) → and_then o f ≡ Ok b → (a : A) × (o ≡ Ok a) × (f a ≡ Ok b)
unfolding and_then
and_then-done (Err r) f b e = apart (cc)
and_then-done (Ok a) f b e = (a, refl, e)

pub refuse-done : {A : Type 0} (t : Bool) (n : ℕ) (o : Out A) (a : A) → refuse t n o ≡ Ok a → (t ≡ false) × (o ≡ Ok a)
unfolding refuse
refuse-done true n o a e = apart (cc)
refuse-done false n o a e = (refl, e)

pub done-same : {A : Type 0} (a b : A) → ◌≡◌ {A = Out A} (Ok a) (Ok b) → a ≡ b
done-same a b e = cc

-- a number and the place past it are equal part by part
pub done-pair : {A B : Type 0} (a c : A) (b d : B) → ◌≡◌ {A = Out (A × B)} (Ok (a, b)) (Ok (c, d)) → (a ≡ c) × (b ≡ d)
done-pair {A = A} {B = B} a c b d e = let p = done-same (a, b) (c, d) e in (ap (λ (q : A × B). q.0) p, ap (λ (q : A × B). q.1) p)

pub not_done {ℓ} : {A : Type 0} {X : Type ℓ} (r : Refusal) (a : A) → ◌≡◌ {A = Out A} (Err r) (Ok a) → X
not_done r a e = apart (cc)

-- where what follows never refuses, the run itself did
pub refused-back : {A B : Type 0} (o : Out A) (g : A → B) (r : Refusal) → and_then o (λ a. Ok (g a)) ≡ Err r → o ≡ Err r
unfolding and_then
refused-back (Err s) g r e = cc
refused-back (Ok a) g r e = not_done r (g a) (sym e)

-- ---- what holds of answers

pub holds-done {ℓ} : {A : Type 0} (P : A → Type ℓ) (o : Out A) (a : A) → Holds P o → o ≡ Ok a → P a
unfolding Holds
holds-done P (Err r) a h e = not_done r a e
holds-done P (Ok b) a h e = rw (done-same b a e) at h

pub done-holds {ℓ} : {A : Type 0} (P : A → Type ℓ) (o : Out A) → ((a : A) → o ≡ Ok a → P a) → Holds P o
unfolding Holds
done-holds P (Err r) f = tt
done-holds P (Ok a) f = f a refl

pub refuse-holds {ℓ} : {A : Type 0} (P : A → Type ℓ) (t : Bool) (n : ℕ) (o : Out A) → (t ≡ false → Holds P o) → Holds P (refuse t n o)
unfolding refuse Holds
refuse-holds P true n o f = tt
refuse-holds P false n o f = f refl

pub pick-holds {ℓ} : {A : Type 0} (P : A → Type ℓ) (t : Bool) (o u : Out A) → Holds P o → Holds P u → Holds P (pick t o u)
unfolding pick
pick-holds P true o u f g = f
pick-holds P false o u f g = g

pub then-holds {ℓ κ} : {A B : Type 0} (P : A → Type ℓ) (Q : B → Type κ) (o : Out A) (f : A → Out B) → Holds P o → ((a : A) → P a → Holds Q (f a)) → Holds Q (and_then o f)
unfolding and_then Holds
then-holds P Q (Err r) f h g = tt
then-holds P Q (Ok a) f h g = g a h

pub holds-map {ℓ κ} : {A : Type 0} (P : A → Type ℓ) (Q : A → Type κ) (o : Out A) → ((a : A) → P a → Q a) → Holds P o → Holds Q o
unfolding Holds
holds-map P Q (Err r) f h = tt
holds-map P Q (Ok a) f h = f a h

-- ---- two runs

-- one run's answer handed on to two
pub then-both : {A B C : Type 0} (P : A → Type 0) (R : B → C → Type 0) (o : Out A) (f : A → Out B) (g : A → Out C) → Holds P o → ((a : A) → P a → Same R (f a) (g a)) → Same R (and_then o f) (and_then o g)
unfolding and_then Holds
then-both P R (Err r) f g h k = alike
then-both P R (Ok a) f g h k = k a h

pub then_same : {A B C D : Type 0} (R : A → B → Type 0) (S : C → D → Type 0) (o : Out A) (u : Out B) (f : A → Out C) (g : B → Out D) → Same R o u → ((a : A) (b : B) → R a b → Same S (f a) (g b)) → Same S (and_then o f) (and_then u g)
unfolding and_then
then_same R S o u f g alike k = alike
then_same R S o u f g (both {a = a} {b = b} r) k = k a b r

-- how one of the two ended says how the other did
pub same_left : {A B : Type 0} (R : A → B → Type 0) (o : Out A) (u : Out B) → Same R o u → (a : A) → o ≡ Ok a → (b : B) × (u ≡ Ok b) × R a b
same_left R _ _ alike a e = not_done _ a e
same_left R _ _ (both {a = c} {b = b} r) a e = (b, refl, rw (← done-same c a e) r)

pub same-done : {A B : Type 0} (R : A → B → Type 0) (o : Out A) (u : Out B) → Same R o u → (b : B) → u ≡ Ok b → (a : A) × (o ≡ Ok a) × R a b
same-done R _ _ alike b e = not_done _ b e
same-done R _ _ (both {a = a} {b = c} r) b e = (a, refl, rw (← done-same c b e) r)

-- ---- items of a list

pub about-done : {A : Type 0} (k : ℕ → Item) (i : ℕ) (o : Out A) (a : A) → about k i o ≡ Ok a → o ≡ Ok a
unfolding about
about-done k i (Err r) a e = not_done _ a e
about-done k i (Ok b) a e = e

pub done-about : {A : Type 0} (k : ℕ → Item) (i : ℕ) (o : Out A) (a : A) → o ≡ Ok a → about k i o ≡ Ok a
unfolding about
done-about k i o a e = ap (about k i) e

pub refused-about : {A : Type 0} (k : ℕ → Item) (i : ℕ) (o : Out A) (r : Refusal) → o ≡ Err r → about k i o ≡ Err (own_refusal r.reason (k i))
unfolding about
refused-about k i o r e = ap (about k i) e

pub after-done : {A : Type 0} (n : ℕ) (o : Out A) (a : A) → after n o ≡ Ok a → o ≡ Ok a
unfolding after
after-done n (Err r) a e = not_done _ a e
after-done n (Ok b) a e = e

pub done-after : {A : Type 0} (n : ℕ) (o : Out A) (a : A) → o ≡ Ok a → after n o ≡ Ok a
unfolding after
done-after n o a e = ap (after n) e

pub refused-after : {A : Type 0} (n : ℕ) (o : Out A) (r : Refusal) → o ≡ Err r → after n o ≡ Err (later n r)
unfolding after
refused-after n o r e = ap (after n) e

-- a refusal of no item stays
pub reason-after : {A : Type 0} (n k : ℕ) (o : Out A) → o ≡ Err (reason k) → after n o ≡ Err (reason k)
unfolding later later_item
reason-after n k o e = refused-after n o (reason k) e

-- of item 0 it becomes that of item n
pub own-after : {A : Type 0} (n : ℕ) (why : Reason) (sort : ℕ → Item) (o : Out A) → later_item n (Some (sort 0)) ≡ Some (sort n) → o ≡ Err (own_refusal why (sort 0)) → after n o ≡ Err (own_refusal why (sort n))
unfolding later
own-after n why sort o h e = refused-after n o _ e ∙ ap (λ (i : Option Item). Err (record { reason = why; item = i })) h

-- record 0, and entry 0, after n items
pub record-later : (n : ℕ) → later_item n (Some (Record 0)) ≡ Some (Record n)
unfolding later_item
record-later n = ap (λ i. Some (Record i)) (add-zero n)

pub entry-later : (n : ℕ) → later_item n (Some (Entry 0)) ≡ Some (Entry n)
unfolding later_item
entry-later n = ap (λ i. Some (Entry i)) (add-zero n)

-- and any other item 0 but of sort 0
pub other-later : (n sort : ℕ) → eqb sort 0 ≡ false → later_item n (Some (Other sort 0)) ≡ Some (Other sort n)
unfolding later_item pick
other-later n sort e = ap (λ (b : Bool). Some (Other sort (pick b 0 (n + 0)))) e ∙ ap (λ i. Some (Other sort i)) (add-zero n)

-- so a record's own refusal, an entry's, and any other item's become those of the n-th
pub record-after : {A : Type 0} (n : ℕ) (why : Reason) (o : Out A) → o ≡ Err (own_refusal why (Record 0)) → after n o ≡ Err (own_refusal why (Record n))
record-after n why o = own-after n why Record o (record-later n)

pub entry-after : {A : Type 0} (n : ℕ) (why : Reason) (o : Out A) → o ≡ Err (own_refusal why (Entry 0)) → after n o ≡ Err (own_refusal why (Entry n))
entry-after n why o = own-after n why Entry o (entry-later n)

pub other-after : {A : Type 0} (n sort : ℕ) (why : Reason) (o : Out A) → eqb sort 0 ≡ false → o ≡ Err (own_refusal why (Other sort 0)) → after n o ≡ Err (own_refusal why (Other sort n))
other-after n sort why o e = own-after n why (Other sort) o (other-later n sort e)

later_item-twice : (n k : ℕ) (i : Option Item) → later_item n (later_item k i) ≡ later_item (n + k) i
unfolding later_item pick
later_item-twice n k None = refl
later_item-twice n k (Some (Record i)) = ap (λ j. Some (Record j)) (sym (add_assoc n k i))
later_item-twice n k (Some (Entry i)) = ap (λ j. Some (Entry j)) (sym (add_assoc n k i))
later_item-twice n k (Some (Other sort i)) = ap (λ j. Some (Other sort j)) (pick-twice (eqb sort 0))
  where
    pick-twice : (b : Bool) → pick b (pick b i (k + i)) (n + pick b i (k + i)) ≡ pick b i (n + k + i)
    pick-twice true = refl
    pick-twice false = sym (add_assoc n k i)

later_item-none : (i : Option Item) → later_item 0 i ≡ i
unfolding later_item pick
later_item-none None = refl
later_item-none (Some (Record i)) = ap (λ j. Some (Record j)) (zero-add i)
later_item-none (Some (Entry i)) = ap (λ j. Some (Entry j)) (zero-add i)
later_item-none (Some (Other sort i)) = ap (λ j. Some (Other sort j)) (pick-none (eqb sort 0))
  where
    pick-none : (b : Bool) → pick b i (0 + i) ≡ i
    pick-none true = refl
    pick-none false = zero-add i

pub later-later : (n k : ℕ) (r : Refusal) → later n (later k r) ≡ later (n + k) r
unfolding later
later-later n k r = ap (λ (i : Option Item). record { reason = r.reason; item = i }) (later_item-twice n k r.item)

pub after-after : {A : Type 0} (n k : ℕ) (o : Out A) → after n (after k o) ≡ after (n + k) o
unfolding after
after-after n k (Err r) = ap Err (later-later n k r)
after-after n k (Ok a) = refl

pub after_none : {A : Type 0} (o : Out A) → after 0 o ≡ o
unfolding after later
after_none (Err r) = ap (λ (i : Option Item). Err (record { reason = r.reason; item = i })) (later_item-none r.item)
after_none (Ok a) = refl

-- what follows an answer follows as many items
pub after_then : {A B : Type 0} (n : ℕ) (o : Out A) (g : A → B) → after n (and_then o (λ a. Ok (g a))) ≡ and_then (after n o) (λ a. Ok (g a))
unfolding after and_then
after_then n (Err r) g = refl
after_then n (Ok a) g = refl

pub about-holds {ℓ} : {A : Type 0} (P : A → Type ℓ) (k : ℕ → Item) (i : ℕ) (o : Out A) → Holds P o → Holds P (about k i o)
unfolding about Holds
about-holds P k i (Err r) h = tt
about-holds P k i (Ok a) h = h

pub after_holds {ℓ} : {A : Type 0} (P : A → Type ℓ) (n : ℕ) (o : Out A) → Holds P o → Holds P (after n o)
unfolding after Holds
after_holds P n (Err r) h = tt
after_holds P n (Ok a) h = h

pub about-same : {A B : Type 0} (R : A → B → Type 0) (k : ℕ → Item) (i : ℕ) (o : Out A) (u : Out B) → Same R o u → Same R (about k i o) (about k i u)
unfolding about
about-same R k i _ _ alike = alike
about-same R k i _ _ (both r) = both r

pub after_same : {A B : Type 0} (R : A → B → Type 0) (n : ℕ) (o : Out A) (u : Out B) → Same R o u → Same R (after n o) (after n u)
unfolding after
after_same R n _ _ alike = alike
after_same R n _ _ (both r) = both r

-- the first item that passes a test
module _ {A : Type 0} (sort : ℕ → Item) (t : A → Bool) (n : ℕ) (items : List A) where
  pub item-no : {B : Type 0} (o : Out B) → any t items ≡ false → refuse_item sort t n items o ≡ o
  unfolding refuse_item pick
  item-no o e = rw e

  pub item-yes : {B : Type 0} (i : ℕ) (o : Out B) → any t items ≡ true → first_at t items ≡ i → refuse_item sort t n items o ≡ Err (own_reason n sort i)
  unfolding refuse_item pick about
  item-yes i o e f = rw (e, f)

  pub item-done : {B : Type 0} (o : Out B) (b : B) → refuse_item sort t n items o ≡ Ok b → (any t items ≡ false) × (o ≡ Ok b)
  unfolding refuse_item
  item-done o b e = go (any t items) refl
    where
      go : (x : Bool) → any t items ≡ x → (any t items ≡ false) × (o ≡ Ok b)
      go true q = not_done _ b (sym (item-yes _ o q refl) ∙ e)
      go false q = (q, sym (item-no o q) ∙ e)

  -- the same item is refused before anything that follows
  pub item-then : {B C : Type 0} (o : Out B) (f : B → Out C) → and_then (refuse_item sort t n items o) f ≡ refuse_item sort t n items (and_then o f)
  unfolding refuse_item pick about and_then
  item-then o f = go (any t items)
    where
      go : (x : Bool) → and_then (pick x (about sort (first_at t items) (Err (reason n))) o) f ≡ pick x (about sort (first_at t items) (Err (reason n))) (and_then o f)
      go true = refl
      go false = refl

  pub item_refused : {B C : Type 0} (b : B) (o : Out C) (r : Refusal) → refuse_item sort t n items (Ok b) ≡ Err r → refuse_item sort t n items o ≡ Err r
  unfolding refuse_item pick about
  item_refused b o r e = go (any t items) e
    where
      go : (x : Bool) → pick x (about sort (first_at t items) (Err (reason n))) (Ok b) ≡ Err r → pick x (about sort (first_at t items) (Err (reason n))) o ≡ Err r
      go true q = let p : own_reason n sort (first_at t items) ≡ r = cc in ap Err p
      go false q = not_done r b (sym q)

-- ---- what is written

pub fitted-room : (room : ℕ) (bs : List ℕ) → length bs ≤ room → fitted room bs ≡ Ok bs
unfolding fitted refuse
fitted-room room bs h = simp (le-ltb room (length bs) h)

pub fitted_short : (room : ℕ) (bs : List ℕ) → room < length bs → fitted room bs ≡ Err (reason 17)
unfolding fitted refuse
fitted_short room bs h = simp (lt-ltb room (length bs) h)

-- a run that refuses, and one that stored its bytes from the start
pub refused-answers : (o : Out (List ℕ)) (r : Refusal) (d : List ℕ) → o ≡ Err r → (Err r ≡ answer_of o) × (d ≡ written o d)
unfolding answer_of written
refused-answers o r d e = rw e (refl, refl)

pub done-answers : (o : Out (List ℕ)) (bs d d' : List ℕ) (n : ℕ) → o ≡ Ok bs → length bs ≤ length d → n ≡ length bs → d' ≡ puts d 0 bs → (Ok n ≡ answer_of o) × (d' ≡ written o d)
unfolding answer_of written
done-answers o bs d d' n e h l p = rw e (ap Ok l, p ∙ puts-start d bs h)

-- the same of a run that comes to the same
pub answers-as : (o u : Out (List ℕ)) (r : Out ℕ) (d d' : List ℕ) → u ≡ o → (r ≡ answer_of o) × (d' ≡ written o d) → (r ≡ answer_of u) × (d' ≡ written u d)
answers-as o u r d d' e h = rw e h

-- whether there is an answer
pub done-yes : {A : Type 0} (o : Out A) (a : A) → o ≡ Ok a → is_done o ≡ true
unfolding is_done
done-yes o a e = rw e

pub yes-done : {A : Type 0} (o : Out A) → is_done o ≡ true → (a : A) × (o ≡ Ok a)
unfolding is_done
yes-done (Err r) e = apart (cc)
yes-done (Ok a) e = (a, refl)
