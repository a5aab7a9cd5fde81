use mathlib.Core.List.{List, ◌++◌}
use Prim.Native.Nat.{◌*◌, ◌+◌, ◌/◌, ℕ}
use lib.ListN.{get_or, length}
use Rattle.laws.proofs.Span.{span-end}
use Rattle.laws.proofs.Writing.{Writing, writing-as, writing-done, writing-fits, writing-run, writing_start}
use Rattle.laws.specs.Span.{span}
use Rattle.numbers.specs.Field.{big_endian_bytes}
use Rattle.bodies.proofs.FormLaws.{word_next}
use Rattle.bodies.specs.inner.Words.{word_bytes}
use Rattle.bodies.proofs.overlay.put_offsets.Goals as goal
use Rattle.bodies.proofs.overlay.put_offsets.Goals.{After-write_field-middle, In-loop-i, Start}

-- word k, the words from input i on, and how far they are stored
abbrev word : Start → ℕ → List ℕ
word start k = big_endian_bytes start.args.bytes (get_or start.args.offsets.now k 0)

abbrev words : Start → ℕ → List ℕ
words start i = span (word_bytes start.args.bytes start.args.offsets.now) i (length start.args.offsets.now / 2)

abbrev Stored : Start → List ℕ → ℕ → List ℕ → Type 0
Stored start d i left = Writing start.args.out.now start.args.at (words start 0) d i left

horizontal : (c : In-loop-i)
    → Stored (goal.at.In-loop-i c).Start c.loop-i.out c.loop-i.place (word (goal.at.In-loop-i c).Start (2 * c.loop-i.i) ++ (word (goal.at.In-loop-i c).Start (2 * c.loop-i.i + 1) ++ words (goal.at.In-loop-i c).Start (c.loop-i.i + 1)))
horizontal c =
    writing-as c.loop-i.invariant (word_next c.args.bytes c.args.offsets.now c.loop-i.i (length c.args.offsets.now / 2) c.loop-i-test.true)

vertical : (c : After-write_field-middle)
    → Stored (goal.at.After-write_field-middle c).Start c.write_field-middle.new.out c.write_field-middle.result (word (goal.at.After-write_field-middle c).Start (2 * c.loop-i.i + 1) ++ words (goal.at.After-write_field-middle c).Start (c.loop-i.i + 1))
vertical c =
    writing-run (word (goal.at.After-write_field-middle c).Start (2 * c.loop-i.i)) (horizontal (goal.at.After-write_field-middle c).In-loop-i) c.write_field-middle.ensures.0 c.write_field-middle.ensures.1

pub loop-i-init : goal.loop-i-init
loop-i-init c = writing_start _ _ _ c.requires.1

pub write_field-middle-requires : goal.write_field-middle-requires
write_field-middle-requires c =
    (c.requires.0, writing-fits (word (goal.at.write_field-middle-requires c).Start (2 * c.loop-i.i)) _ (horizontal (goal.at.write_field-middle-requires c).In-loop-i))

pub write_field-place-requires : goal.write_field-place-requires
write_field-place-requires c =
    (c.requires.0, writing-fits (word (goal.at.write_field-place-requires c).Start (2 * c.loop-i.i + 1)) _ (vertical (goal.at.write_field-place-requires c).After-write_field-middle))

pub loop-i-preserved : goal.loop-i-preserved
loop-i-preserved c =
    writing-run (word (goal.at.loop-i-preserved c).Start (2 * c.loop-i.i + 1)) (vertical (goal.at.loop-i-preserved c).After-write_field-middle) c.write_field-place.ensures.0 c.write_field-place.ensures.1

pub returns : goal.returns
returns c =
    writing-done (writing-as c.loop-i.invariant (span-end (word_bytes c.args.bytes c.args.offsets.now) c.loop-i.i (length c.args.offsets.now / 2) c.loop-i-test.false))
