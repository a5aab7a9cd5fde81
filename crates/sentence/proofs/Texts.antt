-- A table of texts in two languages, and a text in another form.
use Rattle.std.specs.Prelude.{map}
use mathlib.Core.List.{List}
use mathlib.Core.Path.{◌∙◌, ◌≡◌, ap, refl, sym}
use Prim.Native.Nat.{◌+◌, ◌≤◌, ℕ}
use lib.ListN.{drop, get_or, get_or-map, length, take}
use lib.Seq.{take_at}
use Rattle.laws.proofs.Puts.{puts-start}
use Rattle.laws.specs.Puts.{puts}
use Rattle.laws.specs.Utf8.{utf8}
use Rattle.sentence.specs.Sentence.{in_language}
use Rattle.sentence.specs.Table.{Row}
use Rattle.sentence.specs.inner.Texts.{no_row, told_of}
use Rattle.sentence.specs.declared.table.Texts.{Texts}

-- who holds the texts of each row in both languages finds that of row k
pub text-found : (texts : List Texts) (rows : List Row) (k language : ℕ) → map (λ (t : Texts). t.german.now) texts ≡ map (λ (r : Row). utf8 r.german) rows
    → map (λ (t : Texts). t.english.now) texts ≡ map (λ (r : Row). utf8 r.english) rows → told_of texts k language ≡ in_language language (get_or rows k no_row)
unfolding told_of in_language no_row utf8
text-found texts rows k language g e =
    rw (g, e, get_or-map (λ (r : Row). utf8 r.german) rows k no_row, get_or-map (λ (r : Row). utf8 r.english) rows k no_row) refl

-- the same bytes, said in another form, fit and are stored
pub fits-as : (bs cs : List ℕ) (at room : ℕ) → bs ≡ cs → at + length cs ≤ room → at + length bs ≤ room
fits-as bs cs at room e h = rw e h

pub stored-as : (d d' bs cs : List ℕ) (at end : ℕ) → bs ≡ cs → (end ≡ at + length bs) × (d' ≡ puts d at bs) → (end ≡ at + length cs) × (d' ≡ puts d at cs)
stored-as d d' bs cs at end e h = rw e at h

-- what was stored from the start on is read there again
pub start-again : (d d' bs : List ℕ) (n : ℕ) → length bs ≤ length d → n ≡ length bs → d' ≡ puts d 0 bs → take n d' ≡ bs
start-again d d' bs n h l e = ap (take n) (e ∙ puts-start d bs h) ∙ take_at bs (drop (length bs) d) n (sym l)
