-- Laws of chains: judging entry by entry, going through entries that were judged, folding over them.
use Rattle.laws.specs.declared.Item.TheVariants.{Entry}
use Rattle.std.specs.Prelude.{Err, Ok}
use mathlib.Core.Bool.{Bool, false, true}
use mathlib.Core.List.{List, [], ◌∷◌}
use mathlib.Core.Path.{◌∙◌, ◌≡◌, ap, refl, sym}
use Prim.Native.Nat.{◌+◌, ◌-◌, ◌<◌, ◌≤◌, suc, zero, ℕ}
use native.Mathlib.Nat.{not-suc-le-zero}
use native.Mathlib.Omega.{arith}
use lib.Dec.{ltb}
use lib.ListN.{length}
use borrow.Author.Tests.{le-ltb, lt-ltb, ltb-false}
use Rattle.laws.proofs.Out.{Holds, Same, about-done, about-holds, about-same, after-after, after-done, after_holds, after_none, after_same, after_then, and_then-done, both, done-about, done-after, done-same, entry-after, not_done, pick-holds, reason-after, refuse-done, refuse-no, refuse-yes, refused-about, then-done, then-holds, then-refused, then_same}
use Rattle.laws.specs.Out.{Out, after, and_then, own_refusal, reason, refuse}
use Rattle.laws.specs.Pick.{pick}
use Rattle.laws.specs.declared.Refusal.{Refusal}
use Rattle.numbers.specs.Number.{on_number, read_number}
use Rattle.props.specs.Chain.{applies, chain_at, count_at, entries_at, fold_chain}
use Rattle.props.specs.Entry.{entry_at}
use Rattle.props.specs.declared.chain.Chain.{Chain}
use Rattle.props.specs.declared.entry.Property.{Property}
use Rattle.props.specs.declared.entry.PropertyEntry.{PropertyEntry}
use Rattle.props.specs.inner.Judged.{Judged, judged_at}

-- ---- the count

pub count-number : (s : List ℕ) (at n a : ℕ) → read_number s at ≡ Ok (n, a) → n ≤ 256 → count_at s at ≡ Ok (record { count = n; first = a })
unfolding count_at on_number
count-number s at n a e h = rw e (refuse-no _ _ (le-ltb 256 n h))

pub count-large : (s : List ℕ) (at n a : ℕ) → read_number s at ≡ Ok (n, a) → 256 < n → count_at s at ≡ Err (reason 4)
unfolding count_at on_number
count-large s at n a e h = rw e (refuse-yes _ _ (lt-ltb 256 n h))

pub count-malformed : (s : List ℕ) (at : ℕ) (r : Refusal) → read_number s at ≡ Err r → count_at s at ≡ Err r
unfolding count_at on_number
count-malformed s at r e = rw e

pub count-few : (s : List ℕ) (at : ℕ) (c : Chain) → count_at s at ≡ Ok c → c.count ≤ 256
unfolding count_at on_number
count-few s at c e = go (read_number s at) e
  where
    go : (o : Out (ℕ × ℕ)) → on_number o (λ n a. refuse (ltb 256 n) 4 (Ok (record { count = n; first = a }))) ≡ Ok c → c.count ≤ 256
    go (Ok (n, a)) q =
        let r = refuse-done _ _ _ c q in
        omega (arith, ltb-false 256 n r.0, ap (λ x. x.count) (done-same _ c r.1))
    go (Err r) q = not_done r c q

-- ---- so many entries in turn

-- one is read, and the rest decides
pub entries_next : (n : ℕ) (s : List ℕ) (at : ℕ) (x : PropertyEntry × ℕ) → 0 < n → entry_at s at ≡ Ok x → entries_at n s at ≡ and_then (after 1 (entries_at (n - 1) s x.1)) (λ es. Ok (x.0 ∷ es))
unfolding entries_at
entries_next zero s at x h e = absurd (not-suc-le-zero h)
entries_next (suc n) s at x h e = let z : suc n - 1 ≡ n = omega arith in then-done _ (done-about _ _ _ _ e) ∙ rw z

pub entries-refused : (n : ℕ) (s : List ℕ) (at : ℕ) (r : Refusal) → 0 < n → entry_at s at ≡ Err r → entries_at n s at ≡ Err (own_refusal r.reason (Entry 0))
unfolding entries_at
entries-refused zero s at r h e = absurd (not-suc-le-zero h)
entries-refused (suc n) s at r h e = then-refused _ (refused-about _ _ _ _ e)

pub entries-end : (n : ℕ) (s : List ℕ) (at : ℕ) → n ≤ 0 → length s ≤ at → entries_at n s at ≡ Ok []
unfolding entries_at
entries-end zero s at z h = refuse-no _ _ (le-ltb at (length s) h)
entries-end (suc n) s at z h = absurd (not-suc-le-zero z)

pub entries-left : (n : ℕ) (s : List ℕ) (at : ℕ) → n ≤ 0 → at < length s → entries_at n s at ≡ Err (reason 5)
unfolding entries_at
entries-left zero s at z h = refuse-yes _ _ (lt-ltb at (length s) h)
entries-left (suc n) s at z h = absurd (not-suc-le-zero z)

-- ---- going through entries that were judged

-- an entry stands there, and the others follow it
pub entries-first : (n : ℕ) (s : List ℕ) (at : ℕ) (es : List PropertyEntry) → 0 < n → entries_at n s at ≡ Ok es
    → (x : PropertyEntry × ℕ) × (rest : List PropertyEntry) × (entry_at s at ≡ Ok x) × (entries_at (n - 1) s x.1 ≡ Ok rest) × (es ≡ x.0 ∷ rest)
unfolding entries_at
entries-first zero s at es h e = absurd (not-suc-le-zero h)
entries-first (suc n) s at es h e =
    let a = and_then-done _ _ es e in
    let b = and_then-done _ _ es a.2 in
    let z : suc n - 1 ≡ n = omega arith in
    (a.0, b.0, about-done _ _ _ _ a.1, rw z (after-done 1 _ _ b.1), sym (done-same _ es b.2))

pub entries-step : (n : ℕ) (s : List ℕ) (at : ℕ) (es : List PropertyEntry) (x : PropertyEntry × ℕ) → 0 < n → entries_at n s at ≡ Ok es → entry_at s at ≡ Ok x
    → (rest : List PropertyEntry) × (entries_at (n - 1) s x.1 ≡ Ok rest) × (es ≡ x.0 ∷ rest)
entries-step n s at es x h e q =
    let a = entries-first n s at es h e in
    let p : a.0 ≡ x = done-same _ x (sym a.2 ∙ q) in
    (a.1, ap (λ k. entries_at (n - 1) s k.1) (sym p) ∙ a.3, a.4 ∙ ap (λ k. k.0 ∷ a.1) p)

pub entries-read {ℓ} : {X : Type ℓ} (n : ℕ) (s : List ℕ) (at : ℕ) (es : List PropertyEntry) (r : Refusal) → 0 < n → entries_at n s at ≡ Ok es → entry_at s at ≡ Err r → X
entries-read n s at es r h e q = not_done _ es (sym (entries-refused n s at r h q) ∙ e)

pub entries_none : (n : ℕ) (s : List ℕ) (at : ℕ) (es : List PropertyEntry) → n ≤ 0 → entries_at n s at ≡ Ok es → es ≡ []
unfolding entries_at
entries_none zero s at es z e = let a = refuse-done _ _ _ es e in sym (done-same _ es a.1)
entries_none (suc n) s at es z e = absurd (not-suc-le-zero z)

-- there are as many as were asked for
pub entries-length : (n : ℕ) (s : List ℕ) (at : ℕ) (es : List PropertyEntry) → entries_at n s at ≡ Ok es → length es ≡ n
unfolding entries_at
entries-length zero s at es e = let a = refuse-done _ _ _ es e in ap length (sym (done-same _ es a.1))
entries-length (suc n) s at es e =
    let a = and_then-done _ _ es e in
    let b = and_then-done _ _ es a.2 in
    ap length (sym (done-same _ es b.2)) ∙ ap suc (entries-length n s a.0.1 b.0 (after-done 1 _ _ b.1))

-- ---- the same behind i entries, of k

pub entries-refused-on : (i n : ℕ) (s : List ℕ) (at : ℕ) (r : Refusal) → 0 < n → entry_at s at ≡ Err r → after i (entries_at n s at) ≡ Err (own_refusal r.reason (Entry i))
entries-refused-on i n s at r h e = entry-after i r.reason _ (entries-refused n s at r h e)

pub entries-left-on : (i n : ℕ) (s : List ℕ) (at : ℕ) → n ≤ 0 → at < length s → after i (entries_at n s at) ≡ Err (reason 5)
entries-left-on i n s at z h = reason-after i 5 _ (entries-left n s at z h)

-- ---- judging the whole

-- c where the entries are taken
unfoldable pub kept : Chain → Out (List PropertyEntry) → Out Chain
kept c o = and_then o (λ es. Ok c)

pub judged-start : (s : List ℕ) (at : ℕ) (c : Chain) → count_at s at ≡ Ok c → judged_at s at ≡ kept c (entries_at c.count s c.first)
unfolding judged_at chain_at kept
judged-start s at c e = rw e (ap (λ o. and_then o (λ es. Ok c)) (then-done _ refl))

pub judged-none : (s : List ℕ) (at : ℕ) (r : Refusal) → count_at s at ≡ Err r → judged_at s at ≡ Err r
unfolding judged_at chain_at
judged-none s at r e = then-refused _ (then-refused _ e)

pub kept-begin : (c : Chain) (k : ℕ) (s : List ℕ) (at : ℕ) → kept c (entries_at k s at) ≡ kept c (after 0 (entries_at (k - 0) s at))
kept-begin c k s at = let z : k - 0 ≡ k = omega arith in rw z (ap (kept c) (sym (after_none _)))

pub kept_next : (c : Chain) (i k : ℕ) (s : List ℕ) (at : ℕ) (x : PropertyEntry × ℕ) → i < k → entry_at s at ≡ Ok x
    → kept c (after i (entries_at (k - i) s at)) ≡ kept c (after (i + 1) (entries_at (k - (i + 1)) s x.1))
unfolding kept
kept_next c i k s at x h e =
    let z : k - i - 1 ≡ k - (i + 1) = omega arith in
    ap (λ o. kept c (after i o)) (entries_next (k - i) s at x (omega arith) e) ∙ ap (kept c) (after_then i _ _) ∙ go (after i (after 1 (entries_at (k - i - 1) s x.1)))
    ∙ ap (kept c) (after-after i 1 _ ∙ rw z)
  where
    go : (o : Out (List PropertyEntry)) → and_then (and_then o (λ es. Ok (x.0 ∷ es))) (λ es. Ok c) ≡ and_then o (λ es. Ok c)
    go (Err r) = then-refused _ (then-refused _ refl) ∙ sym (then-refused _ refl)
    go (Ok es) = then-done _ (then-done _ refl) ∙ sym (then-done _ refl)

pub kept-done : (c : Chain) (o : Out (List PropertyEntry)) (es : List PropertyEntry) → o ≡ Ok es → kept c o ≡ Ok c
unfolding kept
kept-done c o es e = then-done _ e

pub kept-refused : (c : Chain) (o : Out (List PropertyEntry)) (r : Refusal) → o ≡ Err r → kept c o ≡ Err r
unfolding kept
kept-refused c o r e = then-refused _ e

-- a chain that was judged: its entries, and that they are the chain
pub judged-chain : (s : List ℕ) (at : ℕ) (c : Chain) → judged_at s at ≡ Ok c → (k : Judged s c) × (chain_at s at ≡ Ok k.entries)
unfolding judged_at chain_at
judged-chain s at c e =
    let a = and_then-done _ _ c e in
    let q : entries_at c.count s c.first ≡ Ok a.0 = sym (then-done _ a.2) ∙ a.1 in
    (record { bounded = count-few s at c a.2; entries = a.0; read = q }, a.1)

-- how many they are
pub judged-count : (s : List ℕ) (at : ℕ) (c : Chain) → judged_at s at ≡ Ok c → and_then (chain_at s at) (λ es. Ok (length es)) ≡ Ok c.count
judged-count s at c e =
    let k = judged-chain s at c e in
    then-done _ k.1 ∙ ap Ok (entries-length c.count s c.first k.0.entries k.0.read)

-- a chain has at most 256 entries
pub chain-few : (s : List ℕ) (at : ℕ) (es : List PropertyEntry) → chain_at s at ≡ Ok es → length es ≤ 256
unfolding chain_at
chain-few s at es e =
    let a = and_then-done _ _ es e in
    omega (arith, count-few s at a.0 a.1, entries-length a.0.count s a.0.first es a.2)

-- a refusal of one run is that of another
pub refused_as : {A B : Type 0} (q r : Refusal) → ◌≡◌ {A = Out A} (Err q) (Err r) → ◌≡◌ {A = Out B} (Err q) (Err r)
refused_as q r e = let p : q ≡ r = cc in ap Err p

counted : (s : List ℕ) (at : ℕ) (es : List PropertyEntry) → chain_at s at ≡ Ok es → (c : Chain) × (count_at s at ≡ Ok c)
unfolding chain_at
counted s at es k = let a = and_then-done _ _ es k in (a.0, a.1)

-- the judgement and the chain refuse alike
pub judged-refused : (s : List ℕ) (at : ℕ) (r : Refusal) → judged_at s at ≡ Err r → chain_at s at ≡ Err r
unfolding judged_at
judged-refused s at r e = go (chain_at s at) refl
  where
    go : (o : Out (List PropertyEntry)) → chain_at s at ≡ o → o ≡ Err r
    go (Err q) k = refused_as q r (sym (then-refused _ k) ∙ e)
    go (Ok es) k = let c = counted s at es k in not_done r c.0 (sym (sym c.1 ∙ sym (then-done _ k) ∙ e))

-- ---- folding

pub fold-none : {A : Type 0} (f : Property → A → Out A) (flag : Bool) (a : A) → fold_chain f flag [] a ≡ Ok a
unfolding fold_chain
fold-none f flag a = refl

module _ {A : Type 0} (f : Property → A → Out A) (flag : Bool) (e : PropertyEntry) (es : List PropertyEntry) (a : A) where
  -- what an entry makes of a
  abbrev stepped : Out A
  stepped = pick (applies flag e) (f e.property a) (Ok a)

  pub fold_step : (b : A) → stepped ≡ Ok b → fold_chain f flag (e ∷ es) a ≡ after 1 (fold_chain f flag es b)
  unfolding fold_chain
  fold_step b q = then-done _ (done-about _ _ _ _ q)

  pub fold-refused : (r : Refusal) → stepped ≡ Err r → fold_chain f flag (e ∷ es) a ≡ Err (own_refusal r.reason (Entry 0))
  unfolding fold_chain
  fold-refused r q = then-refused _ (refused-about _ _ _ _ q)

  -- a chain that answers: its first entry does, and the others
  pub fold_done : (d : A) → fold_chain f flag (e ∷ es) a ≡ Ok d → (b : A) × (stepped ≡ Ok b) × (fold_chain f flag es b ≡ Ok d)
  unfolding fold_chain
  fold_done d q = let k = and_then-done _ _ d q in (k.0, about-done _ _ _ _ k.1, after-done 1 _ _ k.2)

-- a loop over entries that were judged: i of k are behind, the next stands at a place, a is reached, and the run comes to what the others
-- make of it
pub record Along {A : Type 0} (f : Property → A → Out A) (flag : Bool) (k : ℕ) (s : List ℕ) (run : Out A) (i at : ℕ) (a : A) : Type 0 where
  pub within : i ≤ k
  pub rest : List PropertyEntry
  pub left : entries_at (k - i) s at ≡ Ok rest
  pub same : run ≡ after i (fold_chain f flag rest a)

module _ {A : Type 0} (f : Property → A → Out A) (flag : Bool) (k : ℕ) (s : List ℕ) (run : Out A) where
  pub along-begins : (at : ℕ) (es : List PropertyEntry) (a : A) → entries_at k s at ≡ Ok es → run ≡ fold_chain f flag es a → Along f flag k s run 0 at a
  along-begins at es a e q = let z : k - 0 ≡ k = omega arith in record { within = omega arith; rest = es; left = rw z e; same = q ∙ sym (after_none _) }

  module _ (i at : ℕ) (a : A) (g : Along f flag k s run i at a) where
    module _ (h : i < k) where
      -- an entry stands there
      pub along-stands {ℓ} : {X : Type ℓ} (r : Refusal) → entry_at s at ≡ Err r → X
      along-stands r e = entries-read (k - i) s at g.rest r (omega arith) g.left e

      -- it is folded in
      pub along-next : (x : PropertyEntry × ℕ) (b : A) → entry_at s at ≡ Ok x → pick (applies flag x.0) (f x.0.property a) (Ok a) ≡ Ok b → Along f flag k s run (i + 1) x.1 b
      along-next x b e q =
          let w = entries-step (k - i) s at g.rest x (omega arith) g.left e in
          let z : k - i - 1 ≡ k - (i + 1) = omega arith in
          record {
            within = omega arith;
            rest = w.0;
            left = rw z at w.1;
            same = g.same ∙ ap (after i) (ap (λ l. fold_chain f flag l a) w.2 ∙ fold_step f flag x.0 w.0 a b q) ∙ after-after i 1 _;
          }

      -- or it is refused, as its own
      pub along-refused : (x : PropertyEntry × ℕ) (r : Refusal) → entry_at s at ≡ Ok x → pick (applies flag x.0) (f x.0.property a) (Ok a) ≡ Err r
          → run ≡ Err (own_refusal r.reason (Entry i))
      along-refused x r e q =
          let w = entries-step (k - i) s at g.rest x (omega arith) g.left e in
          g.same ∙ entry-after i r.reason _ (ap (λ l. fold_chain f flag l a) w.2 ∙ fold-refused f flag x.0 w.0 a r q)

    -- none is left
    pub along-ends : k ≤ i → run ≡ Ok a
    along-ends h = g.same ∙ done-after i _ _ (ap (λ l. fold_chain f flag l a) (entries_none (k - i) s at g.rest (omega arith) g.left) ∙ fold-none f flag a)

-- what each entry keeps, a chain keeps
pub fold-holds : {A : Type 0} (I : A → Type 0) (f : Property → A → Out A) → ((p : Property) (a : A) → I a → Holds I (f p a))
    → (flag : Bool) (es : List PropertyEntry) (a : A) → I a → Holds I (fold_chain f flag es a)
unfolding fold_chain Holds
fold-holds I f k flag [] a i = i
fold-holds I f k flag (e ∷ es) a i =
    then-holds I I _ _ (about-holds I _ _ _ (pick-holds I (applies flag e) (f e.property a) (Ok a) (k e.property a i) i))
    (λ b j. after_holds I 1 _ (fold-holds I f k flag es b j))

-- every applied entry's property is of some sort
unfoldable pub Applied : (Property → Type 0) → Bool → List PropertyEntry → Type 0
Applied P flag [] = Unit {0}
Applied P flag (e ∷ es) = (applies flag e ≡ true → P e.property) × Applied P flag es

-- two chains whose applied entries answer alike answer alike
pub fold_same : {A B : Type 0} (R : A → B → Type 0) (P : Property → Type 0) (f : Property → A → Out A) (g : Property → B → Out B)
    → ((p : Property) (a : A) (b : B) → P p → R a b → Same R (f p a) (g p b))
    → (flag : Bool) (es : List PropertyEntry) → Applied P flag es → (a : A) (b : B) → R a b → Same R (fold_chain f flag es a) (fold_chain g flag es b)
unfolding fold_chain Applied pick
fold_same R P f g k flag [] n a b r = both r
fold_same R P f g k flag (e ∷ es) n a b r =
    then_same R R _ _ _ _ (about-same R _ _ _ _ (on (applies flag e) refl)) (λ c d s. after_same R 1 _ _ (fold_same R P f g k flag es n.1 c d s))
  where
    on : (t : Bool) → applies flag e ≡ t → Same R (pick t (f e.property a) (Ok a)) (pick t (g e.property b) (Ok b))
    on true h = k e.property a b (n.0 h) r
    on false h = both r
