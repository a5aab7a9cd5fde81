-- A loop over the entries of an input: what is left of the text at each turn.
use Rattle.std.specs.Prelude.{Ok, Err}
use mathlib.Core.List.{List, [], ◌++◌}
use mathlib.Core.Path.{◌∙◌, ◌≡◌, ap, sym}
use Prim.Native.Nat.{◌+◌, ◌-◌, ◌<◌, ◌≤◌, ℕ}
use native.Mathlib.Omega.{arith}
use lib.ListN.{length, length-append}
use Rattle.laws.proofs.Puts.{puts-append}
use Rattle.laws.specs.Pick.{pick}
use Rattle.laws.specs.Puts.{puts}
use Rattle.laws.specs.Utf8.{character_bytes, utf8}
use Rattle.laws.specs.declared.Refusal.{Refusal}
use Rattle.image.specs.declared.size.Size.{Size}
use Rattle.props.specs.Chain.{entries_at}
use Rattle.props.specs.declared.entry.PropertyEntry.{PropertyEntry}
use Rattle.steps_text.proofs.TextLaws.{entry-stands, lines_end, lines_next, lines-refused, text-read}
use Rattle.steps_text.specs.Text.{heading, line_text, lines_from, refused_line, text_of}
use Rattle.steps_text.specs.declared.input.Input.{Input}
use Rattle.steps_text.specs.declared.text.EntryStep.{EntryStep}
use Rattle.steps_text.specs.inner.Step.{Readable, StepAt, Taken}

-- the entries from an index on stand at a place
pub record Going (s : List ℕ) (count at index : ℕ) : Type 0 where
  pub bounded : count ≤ 256
  pub within : index ≤ count
  pub rest : List PropertyEntry
  pub left : entries_at (count - index) s at ≡ Ok rest

-- the start: the text is the heading and every line
pub going_start : (s : List ℕ) (i : Input) → Taken s i → (g : Going s i.chain.count i.chain.first 0) × (text_of s ≡ heading ++ lines_from 0 g.rest i.size)
going_start s i k =
    let z : i.chain.count - 0 ≡ i.chain.count = omega arith in
    let j = k.chain in
    (record { bounded = j.bounded; within = omega arith; rest = j.entries; left = ap (λ n. entries_at n s i.chain.first) z ∙ j.read }, text-read s i k)

pub heading-lines : (s lines : List ℕ) → text_of s ≡ heading ++ lines → 23 + length lines ≡ length (text_of s)
unfolding heading utf8 character_bytes pick
heading-lines s lines e = sym (ap length e ∙ length-append heading lines)

-- an entry that is left stands there
pub going-stands : (s : List ℕ) (count at index : ℕ) → Going s count at index → index < count → Readable s at
going-stands s count at index g h = entry-stands (count - index) s at g.rest (omega arith) g.left

module _ (s : List ℕ) (count at index : ℕ) (z : Size) (g : Going s count at index) where
  -- a turn: a line, and the lines after it
  pub going_next : (r : EntryStep) (y : Size) → index < count → StepAt s at z r → r.after ≡ Ok y
      → (t : Going s count r.next (index + 1)) × (lines_from index g.rest z ≡ line_text index r.kind y ++ lines_from (index + 1) t.rest y)
  going_next r y h t q =
      let k = lines_next (count - index) s at g.rest index z r y (omega arith) g.left t q in
      let n : count - (index + 1) ≡ count - index - 1 = omega arith in
      (record { bounded = g.bounded; within = omega arith; rest = k.0; left = ap (λ m. entries_at m s r.next) n ∙ k.1 }, k.2)

  -- the last turn: an entry that is refused
  pub going-refused : (r : EntryStep) (x : Refusal) → index < count → StepAt s at z r → r.after ≡ Err x → lines_from index g.rest z ≡ refused_line index r.kind x
  going-refused r x h t q = lines-refused (count - index) s at g.rest index z r x (omega arith) g.left t q

  -- no entry is left
  pub going_end : count ≤ index → lines_from index g.rest z ≡ []
  going_end h = lines_end (count - index) s at g.rest index z (omega arith) g.left

-- the text as it is stored: the heading, then the lines
pub text-stored : (s d d₀ d' lines : List ℕ) (start end : ℕ) → text_of s ≡ heading ++ lines → start ≡ 0 + length heading → d₀ ≡ puts d 0 heading
    → (end ≡ start + length lines) × (d' ≡ puts d₀ start lines) → (end ≡ length (text_of s)) × (d' ≡ puts d 0 (text_of s))
text-stored s d d₀ d' lines start end t p q k =
    let l = ap length t ∙ length-append heading lines in
    (omega arith, k.1 ∙ ap (λ x. puts x start lines) q ∙ ap (λ j. puts (puts d 0 heading) j lines) p ∙ sym (puts-append d 0 heading lines) ∙ ap (puts d 0) (sym t))
