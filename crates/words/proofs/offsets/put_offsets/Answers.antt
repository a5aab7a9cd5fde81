use mathlib.Core.List.{List, ◌++◌}
use mathlib.Core.Path.{◌∙◌, ap, refl}
use Prim.Native.Nat.{◌*◌, ◌+◌, ◌≤◌, ℕ}
use native.Mathlib.Omega.{arith}
use lib.ListN.{length}
use Rattle.laws.proofs.Span.{span-end}
use Rattle.laws.proofs.Writing.{Writing, writing-as, writing-done, writing-fits, writing-run, writing-whole}
use Rattle.laws.specs.Puts.{puts}
use Rattle.laws.specs.Span.{span}
use Rattle.words.proofs.Codes.{two-words}
use Rattle.words.proofs.OffsetLaws.{fields-are, input-inside, input-next, input_words, inputs_long, pair_of}
use Rattle.words.proofs.offsets.put_offsets.Goals as goal
use Rattle.words.proofs.offsets.put_offsets.Goals.{After-offset_at-v, After-put_words-middle, In-loop-i, Start}

-- the words of input i
abbrev input : Start → ℕ → List ℕ
input c = input_words c.args.body.now c.args.d.offsets c.args.d.bytes

-- both offsets of the next input lie in the body
room : (c : In-loop-i) → c.args.d.offsets + c.loop-i.i * (2 * c.args.d.bytes) + 2 * c.args.d.bytes ≤ length c.args.body.now
room c = input-inside _ _ _ c.requires.0 c.loop-i-test.true

-- what is left to write: the two offsets that were read, and the inputs behind
left : (c : After-offset_at-v) →
    Writing c.args.answer.now 0 (span (input (goal.at.After-offset_at-v c).Start) 0 c.args.d.count) c.loop-i.answer c.loop-i.at (pair_of c.offset_at-h.result ++ (pair_of c.offset_at-v.result ++ span (input (goal.at.After-offset_at-v c).Start) (c.loop-i.i + 1) c.args.d.count))
left c =
    writing-as c.loop-i.invariant (input-next _ _ _ _ _ _ _ _ c.loop-i-test.true refl c.offset_at-h.ensures c.offset_at-v.ensures)

-- the same once the first of the two is written
after : (c : After-put_words-middle) →
    Writing c.args.answer.now 0 (span (input (goal.at.After-put_words-middle c).Start) 0 c.args.d.count) c.put_words-middle.new.answer c.put_words-middle.result (pair_of c.offset_at-v.result ++ span (input (goal.at.After-put_words-middle c).Start) (c.loop-i.i + 1) c.args.d.count)
after c =
    writing-run (pair_of c.offset_at-h.result) (left (goal.at.After-put_words-middle c).After-offset_at-v) c.put_words-middle.ensures.0 (two-words _ _ _ _ _ c.put_words-middle.ensures.1)

pub loop-i-init : goal.loop-i-init
loop-i-init c = writing-whole _ _ (omega (arith, c.requires.2, inputs_long c.args.body.now c.args.d.offsets c.args.d.bytes c.args.d.count))

pub offset_at-h-requires : goal.offset_at-h-requires
offset_at-h-requires c =
    (c.requires.0.positive, c.requires.0.bounded, c.requires.1, omega (arith, room (goal.at.offset_at-h-requires c).In-loop-i))

pub offset_at-v-requires : goal.offset_at-v-requires
offset_at-v-requires c =
    (c.requires.0.positive, c.requires.0.bounded, c.requires.1, omega (arith, room (goal.at.offset_at-v-requires c).In-loop-i))

pub put_words-middle-requires : goal.put_words-middle-requires
put_words-middle-requires c =
    writing-fits (pair_of c.offset_at-h.result) _ (left (goal.at.put_words-middle-requires c).After-offset_at-v)

pub put_words-at-requires : goal.put_words-at-requires
put_words-at-requires c =
    writing-fits (pair_of c.offset_at-v.result) _ (after (goal.at.put_words-at-requires c).After-put_words-middle)

pub loop-i-preserved : goal.loop-i-preserved
loop-i-preserved c =
    writing-run (pair_of c.offset_at-v.result) (after (goal.at.loop-i-preserved c).After-put_words-middle) c.put_words-at.ensures.0 (two-words _ _ _ _ _ c.put_words-at.ensures.1)

pub returns : goal.returns
returns c =
    (writing-done (writing-as c.loop-i.invariant (span-end _ _ _ c.loop-i-test.false))).1 ∙ ap (puts c.args.answer.now 0) (fields-are _ _ _)
