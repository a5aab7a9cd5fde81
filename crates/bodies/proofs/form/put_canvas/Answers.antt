use mathlib.Core.List.{◌++◌}
use Rattle.laws.proofs.Writing.{Writing, writing-fits, writing-last, writing-run, writing_start}
use Rattle.numbers.specs.Field.{big_endian_bytes}
use Rattle.bodies.specs.Form.{canvas_bytes}
use Rattle.bodies.proofs.form.put_canvas.Goals as goal
use Rattle.bodies.proofs.form.put_canvas.Goals.{After-write_field-middle, Start}

-- the two sides in turn
w1 : (c : Start) → Writing c.args.out.now c.args.at (canvas_bytes c.args.bytes c.args.width c.args.height) c.args.out.now c.args.at (big_endian_bytes c.args.bytes c.args.width ++ big_endian_bytes c.args.bytes c.args.height)
unfolding canvas_bytes
w1 c = writing_start _ _ _ c.requires.1

w2 : (c : After-write_field-middle) → Writing c.args.out.now c.args.at (canvas_bytes c.args.bytes c.args.width c.args.height) c.write_field-middle.new.out c.write_field-middle.result (big_endian_bytes c.args.bytes c.args.height)
w2 c =
    writing-run (big_endian_bytes c.args.bytes c.args.width) (w1 (goal.at.After-write_field-middle c).Start) c.write_field-middle.ensures.0 c.write_field-middle.ensures.1

pub write_field-middle-requires : goal.write_field-middle-requires
write_field-middle-requires c = (c.requires.0, writing-fits (big_endian_bytes c.args.bytes c.args.width) _ (w1 (goal.at.write_field-middle-requires c).Start))

pub write_field-requires : goal.write_field-requires
write_field-requires c =
    (c.requires.0, (w2 (goal.at.write_field-requires c).After-write_field-middle).room)

pub returns : goal.returns
returns c =
    writing-last (w2 (goal.at.returns c).After-write_field-middle) c.write_field.ensures.0 c.write_field.ensures.1
