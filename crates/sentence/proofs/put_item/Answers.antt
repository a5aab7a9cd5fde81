use mathlib.Core.List.{List, ◌++◌}
use Prim.Native.Nat.{ℕ}
use Rattle.laws.proofs.Writing.{Writing, writing-begin, writing-fits, writing-last, writing-none, writing-run}
use Rattle.laws.specs.Pick.{pick}
use Rattle.laws.specs.Utf8.{character_bytes, utf8}
use Rattle.numbers.specs.Decimal.{decimal}
use Rattle.sentence.proofs.RunLaws.{item-none, item-some}
use Rattle.sentence.proofs.Texts.{fits-as, stored-as}
use Rattle.sentence.specs.inner.Texts.{item_at, sort_text_of}
use Rattle.sentence.proofs.put_item.Goals as goal
use Rattle.sentence.proofs.put_item.Goals.{After-copy_row-a, After-write_decimal-b, Else-sort-eq0, Start}

-- how far the item is stored, and what of it is left
abbrev Stored : Start → List ℕ → ℕ → List ℕ → Type 0
Stored start d i left = Writing start.args.out.now start.args.at (item_at start.args.sort start.args.index start.args.language) d i left

w1 : (c : Else-sort-eq0)
    → Stored (goal.at.Else-sort-eq0 c).Start c.args.out.now c.args.at (sort_text_of c.args.sort c.args.language ++ (decimal c.args.index ++ utf8 ")"))
w1 c =
    writing-begin _ _ _ _ (item-some c.args.sort c.args.index c.args.language c.if-sort-eq0.false) c.requires.2

w2 : (c : After-copy_row-a)
    → Stored (goal.at.After-copy_row-a c).Start c.copy_row-a.new.out c.copy_row-a.result (decimal c.args.index ++ utf8 ")")
w2 c =
    let stored = stored-as _ _ _ _ _ _ c.sort_text.ensures c.copy_row-a.ensures in
    writing-run (sort_text_of c.args.sort c.args.language) (w1 (goal.at.After-copy_row-a c).Else-sort-eq0) stored.0 stored.1

w3 : (c : After-write_decimal-b)
    → Stored (goal.at.After-write_decimal-b c).Start c.write_decimal-b.new.out c.write_decimal-b.result (utf8 ")")
w3 c =
    writing-run (decimal c.args.index) (w2 (goal.at.After-write_decimal-b c).After-copy_row-a) c.write_decimal-b.ensures.0 c.write_decimal-b.ensures.1

pub returns-then-sort-eq0 : goal.returns-then-sort-eq0
returns-then-sort-eq0 c = writing-none _ _ _ (item-none c.args.sort c.args.index c.args.language c.if-sort-eq0.true)

pub copy_row-a-requires : goal.copy_row-a-requires
copy_row-a-requires c =
    fits-as _ _ _ _ c.sort_text.ensures (writing-fits (sort_text_of c.args.sort c.args.language) _ (w1 (goal.at.copy_row-a-requires c).Else-sort-eq0))

pub write_decimal-b-requires : goal.write_decimal-b-requires
write_decimal-b-requires c =
    writing-fits (decimal c.args.index) _ (w2 (goal.at.write_decimal-b-requires c).After-copy_row-a)

pub copy_row-requires : goal.copy_row-requires
unfolding utf8 character_bytes pick
copy_row-requires c = (w3 (goal.at.copy_row-requires c).After-write_decimal-b).room

pub returns : goal.returns
unfolding utf8 character_bytes pick
returns c =
    writing-last (w3 (goal.at.returns c).After-write_decimal-b) c.copy_row.ensures.0 c.copy_row.ensures.1
