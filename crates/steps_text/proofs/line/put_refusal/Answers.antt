use native.Mathlib.Omega.{arith}
use Rattle.laws.proofs.Writing.{Writing, writing-last, writing-run, writing_start}
use Rattle.laws.specs.Pick.{pick}
use Rattle.laws.specs.Reason.{number_of}
use Rattle.laws.specs.Utf8.{character_bytes, utf8}
use Rattle.steps_text.proofs.TextLaws.{length-refusal}
use Rattle.steps_text.specs.Text.{field_text, refusal_text, refused_word}
use Rattle.steps_text.proofs.line.put_refusal.Goals as goal
use Rattle.steps_text.proofs.line.put_refusal.Goals.{After-copy_row-a}

w1 : (c : After-copy_row-a)
    → Writing c.args.out.now c.args.at (refusal_text c.args.e) c.copy_row-a.new.out c.copy_row-a.result
    (field_text (number_of c.args.e.reason) 10)
unfolding refusal_text refused_word utf8 character_bytes pick
w1 c = writing-run refused_word (writing_start _ _ _ c.requires) c.copy_row-a.ensures.0 c.copy_row-a.ensures.1

pub copy_row-a-requires : goal.copy_row-a-requires
copy_row-a-requires c = omega (arith, length-refusal c.args.e, c.requires)

pub put_field-requires : goal.put_field-requires
put_field-requires c = rw c.number.ensures (w1 (goal.at.put_field-requires c).After-copy_row-a).room

pub returns : goal.returns
returns c =
    let h = rw c.number.ensures at c.put_field.ensures in
    writing-last (w1 (goal.at.returns c).After-copy_row-a) h.0 h.1
