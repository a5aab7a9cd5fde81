use mathlib.Core.List.{◌++◌}
use Rattle.laws.proofs.Writing.{Writing, writing-fits, writing-last, writing-run, writing_start}
use Rattle.steps_text.specs.Text.{field_text, refusal_text, refused_line}
use Rattle.steps_text.proofs.line.put_refused_line.Goals as goal
use Rattle.steps_text.proofs.line.put_refused_line.Goals.{After-put_field-a, After-put_field-b}

w1 : (c : After-put_field-a)
    → Writing c.args.out.now c.args.at (refused_line c.args.index c.args.kind c.args.e) c.put_field-a.new.out
    c.put_field-a.result (field_text c.args.kind 32 ++ refusal_text c.args.e)
unfolding refused_line
w1 c = writing-run (field_text c.args.index 32) (writing_start _ _ _ c.requires) c.put_field-a.ensures.0 c.put_field-a.ensures.1

w2 : (c : After-put_field-b)
    → Writing c.args.out.now c.args.at (refused_line c.args.index c.args.kind c.args.e)
    c.put_field-b.new.out c.put_field-b.result (refusal_text c.args.e)
w2 c = writing-run (field_text c.args.kind 32) (w1 (goal.at.After-put_field-b c).After-put_field-a) c.put_field-b.ensures.0 c.put_field-b.ensures.1

pub put_field-a-requires : goal.put_field-a-requires
unfolding refused_line
put_field-a-requires c =
    writing-fits (field_text c.args.index 32) _
    (writing_start c.args.out.now c.args.at (refused_line c.args.index c.args.kind c.args.e) c.requires)

pub put_field-b-requires : goal.put_field-b-requires
put_field-b-requires c = writing-fits (field_text c.args.kind 32) _ (w1 (goal.at.put_field-b-requires c).After-put_field-a)

pub put_refusal-requires : goal.put_refusal-requires
put_refusal-requires c = (w2 (goal.at.put_refusal-requires c).After-put_field-b).room

pub returns : goal.returns
returns c = writing-last (w2 (goal.at.returns c).After-put_field-b) c.put_refusal.ensures.0 c.put_refusal.ensures.1
