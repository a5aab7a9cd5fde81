-- Chains are told by their first bytes: an entry takes at most fifty.
use Rattle.laws.specs.declared.Item.{Item}
use Rattle.laws.specs.declared.Item.TheVariants.{Entry}
use Rattle.std.specs.Prelude.{Ok, Err}
use mathlib.Core.Bool.{Bool}
use mathlib.Core.List.{List, ◌∷◌}
use mathlib.Core.Path.{◌∙◌, ◌≡◌, ap, ap₂, refl, sym}
use Prim.Native.Nat.{◌*◌, ◌+◌, ◌-◌, ◌<◌, ◌^◌, ◌≤◌, suc, zero, ℕ}
use native.Mathlib.Omega.{arith}
use lib.Dec.{leb, ltb}
use lib.ListN.{get_or, length, length-take, take}
use lib.Seq.{get_or-take}
use borrow.Author.Tests.{le-leb, le-ltb, lt-leb, lt-ltb, ltb-false}
use Rattle.laws.proofs.Order.{apart, by_order}
use Rattle.laws.proofs.Out.{Holds, about-holds, done-pair, holds-done, pick-holds, refuse-holds, then-done, then-holds, then-refused}
use Rattle.laws.specs.Out.{Out, about, after, and_then, refuse}
use Rattle.laws.specs.Pick.{pick}
use Rattle.numbers.proofs.Number.{read-end, read-large, read-last, read_low, read_more, read_none}
use Rattle.numbers.specs.Number.{on_number, read_from, read_number}
use Rattle.props.specs.Chain.{chain_at, count_at, entries_at}
use Rattle.props.specs.Entry.{byte_at, clap_at, entry_at, fraction_at, imir_at, irot_at, iscl_at, property_at}
use Rattle.props.specs.declared.chain.Chain.{Chain}
use Rattle.props.specs.declared.entry.Property.{Property}

-- ---- two runs that are equal, and what holds of their answer

pub record Near {A : Type 0} (P : A → Type 0) (o u : Out A) : Type 0 where
  pub same : o ≡ u
  pub holds : Holds P u

near-done : {A : Type 0} (P : A → Type 0) (a : A) → P a → Near P (Ok a) (Ok a)
unfolding Holds
near-done P a h = record { same = refl; holds = h }

then_equal : {A B : Type 0} (P : A → Type 0) (o u : Out A) (f g : A → Out B) → Near P o u → ((a : A) → P a → f a ≡ g a) → and_then o f ≡ and_then u g
then_equal P o u f g n k = ap (λ x. and_then x f) n.same ∙ go u n.holds
  where
    go : (x : Out _) → Holds P x → and_then x f ≡ and_then x g
    go (Err r) h = then-refused f refl ∙ sym (then-refused g refl)
    go (Ok a) h = then-done f refl ∙ k a (holds-done P (Ok a) a h refl) ∙ sym (then-done g refl)

near-then : {A B : Type 0} (P : A → Type 0) (Q : B → Type 0) (o u : Out A) (f g : A → Out B) → Near P o u → ((a : A) → P a → Near Q (f a) (g a)) → Near Q (and_then o f) (and_then u g)
near-then P Q o u f g n k = record {
  same = then_equal P o u f g n (λ a h. (k a h).same);
  holds = then-holds P Q u g n.holds (λ a h. (k a h).holds);
}

near-refuse : {A : Type 0} (P : A → Type 0) (t : Bool) (m : ℕ) (o u : Out A) → Near P o u → Near P (refuse t m o) (refuse t m u)
near-refuse P t m o u n = record { same = ap (refuse t m) n.same; holds = refuse-holds P t m u (λ e. n.holds) }

near-about : {A : Type 0} (k : ℕ → Item) (i : ℕ) (P : A → Type 0) (o u : Out A) → Near P o u → Near P (about k i o) (about k i u)
near-about k i P o u n = record { same = ap (about k i) n.same; holds = about-holds P k i u n.holds }

near-pick : {A : Type 0} (P : A → Type 0) (t : Bool) (o u o' u' : Out A) → Near P o u → Near P o' u' → Near P (pick t o o') (pick t u u')
near-pick P t o u o' u' n m = record { same = ap₂ (pick t) n.same m.same; holds = pick-holds P t u u' n.holds m.holds }

near_on : {A : Type 0} (P : A → Type 0) (i : ℕ) (o : Out (ℕ × ℕ)) (f g : ℕ → ℕ → Out A) → ((v a : ℕ) → o ≡ Ok (v, a) → a ≤ i + 5) → ((v a : ℕ) → a ≤ i + 5 → Near P (f v a) (g v a)) → Near P (on_number o f) (on_number o g)
unfolding on_number Holds
near_on P i (Ok (v, a)) f g h k = k v a (h v a refl)
near_on P i (Err r) f g h k = record { same = refl; holds = tt }

-- ---- a number ends within five bytes, and is read alike from a list that goes so far

take-end : (n : ℕ) (s : List ℕ) (i : ℕ) → i < n → leb (length (take n s)) i ≡ leb (length s) i
take-end n s i h =
    by_order i (length s)
    (λ l. lt-leb (length (take n s)) i (omega (arith, length-take n s)) ∙ sym (lt-leb (length s) i l))
    (λ l. le-leb (length (take n s)) i (omega (arith, length-take n s)) ∙ sym (le-leb (length s) i l))

from-take : (k : ℕ) (n : ℕ) (s : List ℕ) (i least w v : ℕ) → i + k ≤ n → read_from k (take n s) i least w v ≡ read_from k s i least w v
unfolding read_from
from-take zero n s i least w v h = refl
from-take (suc k) n s i least w v h =
    rw (take-end n s i (omega arith), get_or-take n s i 0 (omega arith), from-take k n s (i + 1) 1 (w * 128) (v + (get_or s i 0 - 128) * w) (omega arith))

from_end : (k : ℕ) (s : List ℕ) (i least w v x a : ℕ) → read_from k s i least w v ≡ Ok (x, a) → a ≤ i + k
from_end zero s i least w v x a e = let q = read_none s i least w v in apart (cc)
from_end (suc k) s i least w v x a e =
    let m : 0 < suc k = omega arith in
    by_order i (length s)
    (λ h.
    by_order (get_or s i 0) 128
    (λ l.
    by_order (get_or s i 0) least
    (λ t. let q = read_low (suc k) s i least w v m h l t in apart (cc))
    (λ t.
    by_order (v + get_or s i 0 * w) (2 ^ 32)
    (λ g.
    let q = read-last (suc k) s i least w v m h l t g in
    let b : i + 1 ≡ a = (done-pair _ _ _ _ (sym q ∙ e)).1 in
    omega arith)
    (λ g. let q = read-large (suc k) s i least w v m h l t g in apart (cc))))
    (λ l.
    let q = read_more (suc k) s i least w v m h l in
    let j : suc k - 1 ≡ k = omega arith in
    let r = from_end k s (i + 1) 1 (w * 128) (v + (get_or s i 0 - 128) * w) x a (rw j at (sym q ∙ e)) in
    omega arith))
    (λ h. let q = read-end (suc k) s i least w v m h in apart (cc))

near-number : {A : Type 0} (P : A → Type 0) (n : ℕ) (s : List ℕ) (i : ℕ) (f g : ℕ → ℕ → Out A) → i + 5 ≤ n → ((v a : ℕ) → a ≤ i + 5 → Near P (f v a) (g v a))
    → Near P (on_number (read_number (take n s) i) f) (on_number (read_number s i) g)
unfolding read_number
near-number P n s i f g h k =
    rw (from-take 5 n s i 0 1 0 h) (near_on P i (read_from 5 s i 0 1 0) f g (λ v a e. from_end 5 s i 0 1 0 v a e) k)

on-equal : {A : Type 0} (i : ℕ) (o : Out (ℕ × ℕ)) (f g : ℕ → ℕ → Out A) → ((v a : ℕ) → o ≡ Ok (v, a) → a ≤ i + 5) → ((v a : ℕ) → a ≤ i + 5 → f v a ≡ g v a) → on_number o f ≡ on_number o g
unfolding on_number
on-equal i (Ok (v, a)) f g h k = k v a (h v a refl)
on-equal i (Err r) f g h k = refl

pub number-prefix : {A : Type 0} (n : ℕ) (s : List ℕ) (i : ℕ) (f g : ℕ → ℕ → Out A) → i + 5 ≤ n → ((v a : ℕ) → a ≤ i + 5 → f v a ≡ g v a)
    → on_number (read_number (take n s) i) f ≡ on_number (read_number s i) g
unfolding read_number
number-prefix n s i f g h k =
    rw (from-take 5 n s i 0 1 0 h) (on-equal i (read_from 5 s i 0 1 0) f g (λ v a e. from_end 5 s i 0 1 0 v a e) k)

-- ---- an entry ends within fifty bytes

module _ (n : ℕ) (s : List ℕ) where
  near-fraction : (i : ℕ) → i + 10 ≤ n → Near (λ q. q.1 ≤ i + 10) (fraction_at (take n s) i) (fraction_at s i)
  unfolding fraction_at
  near-fraction i h = near-number _ n s i _ _ (omega arith) (λ v a l. near-number _ n s a _ _ (omega arith) (λ w b m. near-done _ _ (omega arith)))

  near_byte : (i : ℕ) → i + 5 ≤ n → Near (λ b. b.1 ≤ i + 5) (byte_at (take n s) i) (byte_at s i)
  unfolding byte_at
  near_byte i h = near-number _ n s i _ _ h (λ v a l. near-refuse _ _ 5 _ _ (near-done _ _ l))

  abbrev Ends : ℕ → Property × ℕ → Type 0
  Ends i p = p.1 ≤ i + 40

  near-clap : (i : ℕ) → i + 40 ≤ n → Near (Ends i) (clap_at (take n s) i) (clap_at s i)
  unfolding clap_at
  near-clap i h =
      near-then _ _ _ _ _ _ (near-fraction i (omega arith)) (λ w a.
      near-then _ _ _ _ _ _ (near-fraction w.1 (omega arith)) (λ q b.
      near-then _ _ _ _ _ _ (near-fraction q.1 (omega arith)) (λ x c.
      near-then _ _ _ _ _ _ (near-fraction x.1 (omega arith)) (λ y d.
      near-done _ _ (omega arith)))))

  near-irot : (i : ℕ) → i + 40 ≤ n → Near (Ends i) (irot_at (take n s) i) (irot_at s i)
  unfolding irot_at
  near-irot i h = near-then _ _ _ _ _ _ (near_byte i (omega arith)) (λ b l. near-done _ _ (omega arith))

  near-imir : (i : ℕ) → i + 40 ≤ n → Near (Ends i) (imir_at (take n s) i) (imir_at s i)
  unfolding imir_at
  near-imir i h = near-then _ _ _ _ _ _ (near_byte i (omega arith)) (λ b l. near-done _ _ (omega arith))

  near-iscl : (i : ℕ) → i + 40 ≤ n → Near (Ends i) (iscl_at (take n s) i) (iscl_at s i)
  unfolding iscl_at
  near-iscl i h =
      near-then _ _ _ _ _ _ (near-fraction i (omega arith)) (λ w a.
      near-then _ _ _ _ _ _ (near-fraction w.1 (omega arith)) (λ q b.
      near-refuse _ _ 5 _ _ (near-refuse _ _ 5 _ _ (near-refuse _ _ 5 _ _ (near-refuse _ _ 5 _ _ (near-done _ _ (omega arith)))))))

  near-property : (i kind : ℕ) → i + 40 ≤ n → Near (Ends i) (property_at (take n s) i kind) (property_at s i kind)
  unfolding property_at
  near-property i kind h =
      near-pick _ _ _ _ _ _ (near-done _ _ (omega arith))
      (near-pick _ _ _ _ _ _ (near-clap i h)
      (near-pick _ _ _ _ _ _ (near-irot i h)
      (near-pick _ _ _ _ _ _ (near-imir i h) (near-iscl i h))))

  near-entry : (i : ℕ) → i + 50 ≤ n → Near (λ x. x.1 ≤ i + 50) (entry_at (take n s) i) (entry_at s i)
  unfolding entry_at
  near-entry i h =
      near-number _ n s i _ _ (omega arith) (λ kind a k.
      near-refuse _ _ 5 _ _ (near-number _ n s a _ _ (omega arith) (λ e b l.
      near-refuse _ _ 5 _ _ (near-then _ _ _ _ _ _ (near-property b kind (omega arith)) (λ p m. near-done _ _ (omega arith))))))

-- ---- the chain

take-inside : (n : ℕ) (s : List ℕ) (i : ℕ) → i < n → ltb i (length (take n s)) ≡ ltb i (length s)
take-inside n s i h =
    by_order i (length s)
    (λ l. lt-ltb i (length (take n s)) (omega (arith, length-take n s)) ∙ sym (lt-ltb i (length s) l))
    (λ l. le-ltb i (length (take n s)) (omega (arith, length-take n s)) ∙ sym (le-ltb i (length s) l))

pub entries-prefix : (m n : ℕ) (s : List ℕ) (i : ℕ) → i + 50 * m < n → entries_at m (take n s) i ≡ entries_at m s i
unfolding entries_at
entries-prefix zero n s i h = rw (take-inside n s i (omega arith))
entries-prefix (suc m) n s i h =
    then_equal _ _ _ _ _ (near-about Entry 0 _ _ _ (near-entry n s i (omega arith))) (λ x l.
    ap (λ o. and_then (after 1 o) (λ es. Ok (x.0 ∷ es))) (entries-prefix m n s x.1 (omega arith)))

abbrev Counted : ℕ → Chain → Type 0
Counted i c = (c.count ≤ 256) × (c.first ≤ i + 5)

near-count : (n : ℕ) (s : List ℕ) (i : ℕ) → i + 5 ≤ n → Near (Counted i) (count_at (take n s) i) (count_at s i)
unfolding count_at
near-count n s i h = near-number _ n s i _ _ h (λ v a l. near-limit v a l)
  where
    near-limit : (v a : ℕ) → a ≤ i + 5 → Near (Counted i) (refuse (ltb 256 v) 4 (Ok (record { count = v; first = a }))) (refuse (ltb 256 v) 4 (Ok (record { count = v; first = a })))
    near-limit v a l = record { same = refl; holds = refuse-holds _ (ltb 256 v) 4 _ (λ e. (near-done (Counted i) _ (ltb-false 256 v e, l)).holds) }

-- the first 12,805 bytes of a chain, and one more, tell what it is
pub chain-prefix : (n : ℕ) (s : List ℕ) (i : ℕ) → i + 12805 < n → chain_at (take n s) i ≡ chain_at s i
unfolding chain_at
chain-prefix n s i h = then_equal _ _ _ _ _ (near-count n s i (omega arith)) (λ c l. entries-prefix c.count n s c.first (omega arith))
