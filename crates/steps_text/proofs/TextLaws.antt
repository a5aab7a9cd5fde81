-- Laws of the text: how its parts are stored, how long they are, and how it goes on entry by entry.
use Rattle.std.specs.Prelude.{Ok, Err}
use mathlib.Core.List.{List, [], ◌++◌, ◌∷◌}
use mathlib.Core.Path.{◌∙◌, ◌≡◌, ap, refl, sym}
use Prim.Native.Nat.{◌*◌, ◌+◌, ◌-◌, ◌<◌, ◌^◌, ◌≤◌, ℕ}
use native.Mathlib.Omega.{arith}
use lib.ListN.{length, length-append, set, take}
use native.Mathlib.Nat.{mul_comm}
use lib.Dec.{lit<}
use Rattle.laws.proofs.Order.{apart, by_order, mul-below}
use Rattle.laws.proofs.Out.{and_then-done, done-answers, done-same, fitted-room, fitted_short, not_done}
use Rattle.laws.proofs.Puts.{puts-append}
use Rattle.laws.specs.Out.{Out, and_then, answer_of, fitted, written}
use Rattle.laws.specs.Pick.{pick}
use Rattle.laws.specs.Reason.{number_of}
use Rattle.laws.specs.Puts.{puts}
use Rattle.laws.specs.Utf8.{character_bytes, utf8}
use Rattle.laws.specs.declared.Refusal.{Refusal}
use Rattle.numbers.proofs.Decimal.{decimal-few, decimal-short}
use Rattle.numbers.specs.Decimal.{decimal}
use Rattle.numbers.specs.Number.{on_number, read_number}
use Rattle.image.specs.Format.{judged_size}
use Rattle.image.specs.declared.size.Size.{Size}
use Rattle.image.proofs.JudgedLaws.{judged-sound}
use Rattle.image.specs.Sound.{SizeSound}
use Rattle.props.proofs.ChainLaws.{chain-few, entries-first, entries_none, entries-step}
use Rattle.props.proofs.Prefix.{chain-prefix, number-prefix}
use Rattle.props.specs.Chain.{chain_at, entries_at}
use Rattle.props.specs.Entry.{kind_of}
use Rattle.props.specs.Size.{size_after}
use Rattle.props.specs.declared.entry.PropertyEntry.{PropertyEntry}
use Rattle.props.proofs.SizeLaws.{size-sound}
use Rattle.props.specs.declared.entry.Property.{Property}
use Rattle.steps_text.specs.Input.{Steps, steps_of}
use Rattle.steps_text.specs.Text.{field_text, heading, line_text, line_then, lines_from, out_text, refusal_text, refused_line, refused_word, text_of}
use Rattle.steps_text.specs.declared.input.Input.{Input}
use Rattle.steps_text.specs.declared.text.EntryStep.{EntryStep}
use Rattle.steps_text.specs.inner.Step.{Readable, StepAt, Taken}

-- a number and a byte after it, as they are stored
pub field_stored : (d d' : List ℕ) (at n after end : ℕ) → end ≡ at + length (decimal n) → d' ≡ puts d at (decimal n)
    → (end + 1 ≡ at + length (field_text n after)) × (set d' end after ≡ puts d at (field_text n after))
unfolding field_text puts
field_stored d d' at n after end e q =
    (omega (arith, length-append (decimal n) (after ∷ [])), rw (e, q) (sym (puts-append d at (decimal n) (after ∷ []))))

-- a text that was stored from the start, where it fits
pub text-answers : (d d' text bs : List ℕ) (n : ℕ) → text ≡ bs → length bs ≤ length d → n ≡ length bs → d' ≡ puts d 0 bs
    → (Ok n ≡ answer_of (fitted (length d) text)) × (d' ≡ written (fitted (length d) text) d)
text-answers d d' text bs n e h l p = done-answers _ bs d d' n (ap (fitted (length d)) e ∙ fitted-room (length d) bs h) h l p

-- what was written lies in the buffer
pub text-count : (room : ℕ) (text : List ℕ) (n : ℕ) → Ok n ≡ answer_of (fitted room text) → n ≤ room
unfolding answer_of
text-count room text n e =
    by_order room (length text)
    (λ h. let q = fitted_short room text h in apart (cc))
    (λ h.
    let q : Ok n ≡ Ok (length text) = e ∙ ap answer_of (fitted-room room text h) in
    let m : n ≡ length text = cc in
    omega arith)

-- ---- lengths

pub length-field : (n after : ℕ) → length (field_text n after) ≡ length (decimal n) + 1
unfolding field_text
length-field n after = length-append (decimal n) (after ∷ [])

pub length-line : (i kind : ℕ) (z : Size) → length (line_text i kind z) ≡ length (decimal i) + length (decimal kind) + (length (decimal z.width) + length (decimal z.height)) + 4
unfolding line_text
length-line i kind z =
    let a = length-append (field_text i 32) (field_text kind 32 ++ (field_text z.width 32 ++ field_text z.height 10)) in
    let b = length-append (field_text kind 32) (field_text z.width 32 ++ field_text z.height 10) in
    let c = length-append (field_text z.width 32) (field_text z.height 10) in
    omega (arith, length-field i 32, length-field kind 32, length-field z.width 32, length-field z.height 10)

pub length-refusal : (e : Refusal) → length (refusal_text e) ≡ length (decimal (number_of e.reason)) + 9
unfolding refusal_text refused_word utf8 character_bytes pick
length-refusal e = omega (arith, length-append refused_word (field_text (number_of e.reason) 10), length-field (number_of e.reason) 10)

pub length-refused : (i kind : ℕ) (e : Refusal) → length (refused_line i kind e) ≡ length (decimal i) + length (decimal kind) + 2 + length (refusal_text e)
unfolding refused_line
length-refused i kind e =
    let a = length-append (field_text i 32) (field_text kind 32 ++ refusal_text e) in
    let b = length-append (field_text kind 32) (refusal_text e) in
    omega (arith, length-field i 32, length-field kind 32)

-- ---- the lines, entry by entry

-- the next entry has a size after it, or is refused; or there is none
pub lines_next : (n : ℕ) (s : List ℕ) (at : ℕ) (es : List PropertyEntry) (i : ℕ) (z : Size) (r : EntryStep) (y : Size) → 0 < n → entries_at n s at ≡ Ok es → StepAt s at z r → r.after ≡ Ok y
    → (rest : List PropertyEntry) × (entries_at (n - 1) s r.next ≡ Ok rest) × (lines_from i es z ≡ line_text i r.kind y ++ lines_from (i + 1) rest y)
unfolding lines_from line_then
lines_next n s at es i z r y h e t q =
    let k = entries-step n s at es t.entry h e t.read in
    let a : size_after t.entry.0.property z ≡ Ok y = sym t.after ∙ q in (
      k.0,
      ap (entries_at (n - 1) s) t.next ∙ k.1,
      ap (λ l. lines_from i l z) k.2
          ∙ ap (λ o. line_then i (kind_of t.entry.0.property) o (λ w. lines_from (i + 1) k.0 w)) a
          ∙ ap (λ m. line_text i m y ++ lines_from (i + 1) k.0 y) (sym t.kind),
    )

pub lines-refused : (n : ℕ) (s : List ℕ) (at : ℕ) (es : List PropertyEntry) (i : ℕ) (z : Size) (r : EntryStep) (x : Refusal) → 0 < n → entries_at n s at ≡ Ok es → StepAt s at z r → r.after ≡ Err x
    → lines_from i es z ≡ refused_line i r.kind x
unfolding lines_from line_then
lines-refused n s at es i z r x h e t q =
    let k = entries-step n s at es t.entry h e t.read in
    let a : size_after t.entry.0.property z ≡ Err x = sym t.after ∙ q in
    ap (λ l. lines_from i l z) k.2
    ∙ ap (λ o. line_then i (kind_of t.entry.0.property) o (λ w. lines_from (i + 1) k.0 w)) a
    ∙ ap (λ m. refused_line i m x) (sym t.kind)

pub lines_end : (n : ℕ) (s : List ℕ) (at : ℕ) (es : List PropertyEntry) (i : ℕ) (z : Size) → n ≤ 0 → entries_at n s at ≡ Ok es → lines_from i es z ≡ []
unfolding lines_from
lines_end n s at es i z h e = ap (λ l. lines_from i l z) (entries_none n s at es h e)

-- an entry that is left stands there
pub entry-stands : (n : ℕ) (s : List ℕ) (at : ℕ) (es : List PropertyEntry) → 0 < n → entries_at n s at ≡ Ok es → Readable s at
entry-stands n s at es h e = let k = entries-first n s at es h e in record { entry = k.0; read = k.2 }

-- ---- the whole text

on-number : {A : Type 0} (o : Out (ℕ × ℕ)) (k : ℕ → ℕ → Out A) (v n : ℕ) → o ≡ Ok (v, n) → on_number o k ≡ k v n
unfolding on_number
on-number o k v n e = rw e

on-number-done : {A : Type 0} (o : Out (ℕ × ℕ)) (k : ℕ → ℕ → Out A) (a : A) → on_number o k ≡ Ok a → (v : ℕ) × (n : ℕ) × (o ≡ Ok (v, n)) × (k v n ≡ Ok a)
unfolding on_number
on-number-done (Ok (v, n)) k a e = (v, n, refl, e)
on-number-done (Err r) k a e = not_done r a e

-- the two sides are read, and the chain decides
pub steps-sides : (s : List ℕ) (w a h b : ℕ) → read_number s 0 ≡ Ok (w, a) → read_number s a ≡ Ok (h, b)
    → steps_of s ≡ and_then (chain_at s b) (λ es. and_then (judged_size w h) (λ z. Ok (record { size = z; entries = es })))
unfolding steps_of on_number
steps-sides s w a h b p q = rw (p, q) refl

-- an input that was read, and one that is refused
pub text-read : (s : List ℕ) (i : Input) (k : Taken s i) → text_of s ≡ heading ++ lines_from 0 k.chain.entries i.size
unfolding text_of out_text
text-read s i k = ap out_text k.steps

pub text-refused : (s : List ℕ) (r : Refusal) → steps_of s ≡ Err r → text_of s ≡ refusal_text r
unfolding text_of out_text
text-refused s r e = ap out_text e

-- ---- how long it can be

-- the sides of a picture have at most ten digits, an entry's kind one and its index three
side-few : (a b : ℕ) → 1 ≤ b → a * b ≤ 2 ^ 30 → length (decimal a) ≤ 10
side-few a b h l = decimal-few 9 a (omega (arith, mul-below a b a 1 (omega arith) h, l))

kind-few : (p : Property) → length (decimal (kind_of p)) ≤ 1
unfolding kind_of
kind-few Property.Other = decimal-few 0 0 (lit< tt)
kind-few (Property.Clap c) = decimal-few 0 1 (lit< tt)
kind-few (Property.Irot t) = decimal-few 0 2 (lit< tt)
kind-few (Property.Imir m) = decimal-few 0 3 (lit< tt)
kind-few (Property.Iscl k) = decimal-few 0 4 (lit< tt)

line-short : (i : ℕ) (p : Property) (z : Size) → i < 256 → SizeSound z → length (line_text i (kind_of p) z) ≤ 44
line-short i p z h s =
    let a = side-few z.width z.height s.tall s.area in
    let b = side-few z.height z.width s.wide (rw (mul_comm z.height z.width) s.area) in
    omega (arith, length-line i (kind_of p) z, decimal-few 2 i (omega arith), kind-few p)

refused-short : (i : ℕ) (p : Property) (e : Refusal) → i < 256 → length (refused_line i (kind_of p) e) ≤ 44
refused-short i p e h = omega (arith, length-refused i (kind_of p) e, length-refusal e, decimal-few 2 i (omega arith), kind-few p, decimal-short (number_of e.reason))

lines-short : (i : ℕ) (es : List PropertyEntry) (z : Size) → i + length es ≤ 256 → SizeSound z → length (lines_from i es z) ≤ 44 * length es
unfolding lines_from line_then
lines-short i [] z h s = omega arith
lines-short i (e ∷ es) z h s = go (λ y t. lines-short (i + 1) es y (omega arith) t) (size_after e.property z) refl
  where
    go : ((y : Size) → SizeSound y → length (lines_from (i + 1) es y) ≤ 44 * length es) → (o : Out Size) → size_after e.property z ≡ o
        → length (line_then i (kind_of e.property) o (λ y. lines_from (i + 1) es y)) ≤ 44 * length (e ∷ es)
    go k (Err r) q = omega (arith, refused-short i e.property r (omega arith))
    go k (Ok y) q =
        let t = size-sound e.property z y s q in
        omega (arith, length-append (line_text i (kind_of e.property) y) (lines_from (i + 1) es y), line-short i e.property y (omega arith) t, k y t)

steps-read : (s : List ℕ) (t : Steps) → steps_of s ≡ Ok t → (length t.entries ≤ 256) × SizeSound t.size
unfolding steps_of
steps-read s t e =
    let a = on-number-done _ _ t e in
    let b = on-number-done _ _ t a.3 in
    let c = and_then-done _ _ t b.3 in
    let d = and_then-done _ _ t c.2 in
    let q = done-same _ t d.2 in
    (omega (arith, chain-few s b.1 c.0 c.1, ap (λ x. length x.entries) q), rw (ap (λ x. x.size) q) at (judged-sound a.0 b.0 d.0 d.1))

pub text-short : (s : List ℕ) → length (text_of s) ≤ 11287
unfolding text_of out_text heading utf8 character_bytes pick
text-short s = go (steps_of s) refl
  where
    go : (o : Out Steps) → steps_of s ≡ o → length (out_text o) ≤ 11287
    go (Err r) e = omega (arith, length-refusal r, decimal-short (number_of r.reason))
    go (Ok t) e =
        let k = steps-read s t e in
        omega (arith, length-append heading (lines_from 0 t.entries t.size), lines-short 0 t.entries t.size (omega arith) k.1, k.0)

-- the first 12,816 bytes tell the text: a longer input has the answer of what is read of it
pub text-prefix : (n : ℕ) (s : List ℕ) → 12816 ≤ n → text_of (take n s) ≡ text_of s
unfolding text_of steps_of
text-prefix n s h =
    ap out_text (number-prefix n s 0 _ _ (omega arith) (λ w a k. number-prefix n s a _ _ (omega arith) (λ v b l.
    ap (λ o. and_then o (λ es. and_then (judged_size w v) (λ z. Ok (record { size = z; entries = es })))) (chain-prefix n s b (omega arith)))))

-- a buffer of 16,384 bytes has room
pub text-fits : (s : List ℕ) → fitted 16384 (text_of s) ≡ Ok (text_of s)
text-fits s = fitted-room 16384 (text_of s) (omega (arith, text-short s))
