use mathlib.Core.List.{List, ◌++◌}
use Prim.Native.Nat.{ℕ}
use Rattle.laws.proofs.Writing.{Writing, writing-ended, writing-fits, writing-run, writing-whole}
use Rattle.laws.specs.Pick.{pick}
use Rattle.laws.specs.Utf8.{character_bytes, utf8}
use Rattle.numbers.specs.Decimal.{decimal}
use Rattle.sentence.proofs.Texts.{fits-as, stored-as}
use Rattle.sentence.specs.inner.Texts.{item_at, reason_text_of, sentence_at}
use Rattle.sentence.proofs.put_sentence.Goals as goal
use Rattle.sentence.proofs.put_sentence.Goals.{After-copy_row-b, After-put_item-d, After-copy_row-c, After-write_decimal-a, Start}

-- how far the sentence is stored, and what of it is left
abbrev Stored : Start → List ℕ → ℕ → List ℕ → Type 0
Stored start d i left = Writing start.args.out.now 0 (sentence_at start.args.number start.args.sort start.args.index start.args.language) d i left

abbrev reason_text : Start → List ℕ
reason_text start = reason_text_of start.args.number start.args.language

abbrev item_text : Start → List ℕ
item_text start = item_at start.args.sort start.args.index start.args.language

w0 : (c : Start) → Stored c c.args.out.now 0 (decimal c.args.number ++ (utf8 ": " ++ (reason_text c ++ (item_text c ++ utf8 "."))))
unfolding sentence_at
w0 c = writing-whole _ _ c.requires.1

w1 : (c : After-write_decimal-a)
    → Stored (goal.at.After-write_decimal-a c).Start c.write_decimal-a.new.out c.write_decimal-a.result (utf8 ": " ++ (reason_text (goal.at.After-write_decimal-a c).Start ++ (item_text (goal.at.After-write_decimal-a c).Start ++ utf8 ".")))
w1 c =
    writing-run (decimal c.args.number) (w0 (goal.at.After-write_decimal-a c).Start) c.write_decimal-a.ensures.0 c.write_decimal-a.ensures.1

w2 : (c : After-copy_row-b)
    → Stored (goal.at.After-copy_row-b c).Start c.copy_row-b.new.out c.copy_row-b.result (reason_text (goal.at.After-copy_row-b c).Start ++ (item_text (goal.at.After-copy_row-b c).Start ++ utf8 "."))
unfolding utf8 character_bytes pick
w2 c = writing-run (utf8 ": ") (w1 (goal.at.After-copy_row-b c).After-write_decimal-a) c.copy_row-b.ensures.0 c.copy_row-b.ensures.1

w3 : (c : After-copy_row-c)
    → Stored (goal.at.After-copy_row-c c).Start c.copy_row-c.new.out c.copy_row-c.result (item_text (goal.at.After-copy_row-c c).Start ++ utf8 ".")
w3 c =
    let stored = stored-as _ _ _ _ _ _ c.reason_text.ensures c.copy_row-c.ensures in
    writing-run (reason_text (goal.at.After-copy_row-c c).Start) (w2 (goal.at.After-copy_row-c c).After-copy_row-b) stored.0 stored.1

w4 : (c : After-put_item-d)
    → Stored (goal.at.After-put_item-d c).Start c.put_item-d.new.out c.put_item-d.result (utf8 ".")
w4 c =
    writing-run (item_text (goal.at.After-put_item-d c).Start) (w3 (goal.at.After-put_item-d c).After-copy_row-c) c.put_item-d.ensures.0 c.put_item-d.ensures.1

pub write_decimal-a-requires : goal.write_decimal-a-requires
write_decimal-a-requires c = writing-fits (decimal c.args.number) _ (w0 (goal.at.write_decimal-a-requires c).Start)

pub copy_row-b-requires : goal.copy_row-b-requires
unfolding utf8 character_bytes pick
copy_row-b-requires c = writing-fits (utf8 ": ") _ (w1 (goal.at.copy_row-b-requires c).After-write_decimal-a)

pub copy_row-c-requires : goal.copy_row-c-requires
copy_row-c-requires c =
    fits-as _ _ _ _ c.reason_text.ensures (writing-fits (reason_text (goal.at.copy_row-c-requires c).Start) _ (w2 (goal.at.copy_row-c-requires c).After-copy_row-b))

pub put_item-d-requires : goal.put_item-d-requires
put_item-d-requires c =
    (c.requires.0.listed, c.requires.0.spoken, writing-fits (item_text (goal.at.put_item-d-requires c).Start) _ (w3 (goal.at.put_item-d-requires c).After-copy_row-c))

pub copy_row-requires : goal.copy_row-requires
unfolding utf8 character_bytes pick
copy_row-requires c = (w4 (goal.at.copy_row-requires c).After-put_item-d).room

pub returns : goal.returns
unfolding utf8 character_bytes pick
returns c =
    writing-ended (w4 (goal.at.returns c).After-put_item-d) c.copy_row.ensures.0 c.copy_row.ensures.1
