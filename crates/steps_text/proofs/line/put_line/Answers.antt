use mathlib.Core.List.{◌++◌}
use Rattle.laws.proofs.Writing.{Writing, writing-fits, writing-last, writing-run, writing_start}
use Rattle.steps_text.specs.Text.{field_text, line_text}
use Rattle.steps_text.proofs.line.put_line.Goals as goal
use Rattle.steps_text.proofs.line.put_line.Goals.{After-put_field-a, After-put_field-b, After-put_field-c}

w1 : (c : After-put_field-a)
    → Writing c.args.out.now c.args.at (line_text c.args.index c.args.kind c.args.size) c.put_field-a.new.out
    c.put_field-a.result (field_text c.args.kind 32 ++ (field_text c.args.size.width 32 ++ field_text c.args.size.height 10))
unfolding line_text
w1 c = writing-run (field_text c.args.index 32) (writing_start _ _ _ c.requires) c.put_field-a.ensures.0 c.put_field-a.ensures.1

w2 : (c : After-put_field-b)
    → Writing c.args.out.now c.args.at (line_text c.args.index c.args.kind c.args.size)
    c.put_field-b.new.out c.put_field-b.result (field_text c.args.size.width 32 ++ field_text c.args.size.height 10)
w2 c = writing-run (field_text c.args.kind 32) (w1 (goal.at.After-put_field-b c).After-put_field-a) c.put_field-b.ensures.0 c.put_field-b.ensures.1

w3 : (c : After-put_field-c)
    → Writing c.args.out.now c.args.at (line_text c.args.index c.args.kind c.args.size)
    c.put_field-c.new.out c.put_field-c.result (field_text c.args.size.height 10)
w3 c =
    writing-run (field_text c.args.size.width 32) (w2 (goal.at.After-put_field-c c).After-put_field-b) c.put_field-c.ensures.0 c.put_field-c.ensures.1

pub put_field-a-requires : goal.put_field-a-requires
unfolding line_text
put_field-a-requires c =
    writing-fits (field_text c.args.index 32) _
    (writing_start c.args.out.now c.args.at (line_text c.args.index c.args.kind c.args.size) c.requires)

pub put_field-b-requires : goal.put_field-b-requires
put_field-b-requires c = writing-fits (field_text c.args.kind 32) _ (w1 (goal.at.put_field-b-requires c).After-put_field-a)

pub put_field-c-requires : goal.put_field-c-requires
put_field-c-requires c =
    writing-fits (field_text c.args.size.width 32) _ (w2 (goal.at.put_field-c-requires c).After-put_field-b)

pub put_field-requires : goal.put_field-requires
put_field-requires c = (w3 (goal.at.put_field-requires c).After-put_field-c).room

pub returns : goal.returns
returns c = writing-last (w3 (goal.at.returns c).After-put_field-c) c.put_field.ensures.0 c.put_field.ensures.1
