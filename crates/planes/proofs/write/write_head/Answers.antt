use mathlib.Core.List.{◌++◌}
use Rattle.laws.proofs.Writing.{Writing, writing-fits, writing-last, writing-run, writing_start}
use Rattle.numbers.specs.Number.{number_bytes}
use Rattle.planes.specs.Bytes.{head_bytes}
use Rattle.planes.proofs.write.write_head.Goals as goal
use Rattle.planes.proofs.write.write_head.Goals.{After-write_number-a, After-write_number-b, After-write_number-c, After-write_number-d, Start}

-- the numbers in turn
w0 : (c : Start)
    → Writing c.args.out.now c.args.at (head_bytes c.args.form) c.args.out.now c.args.at
    (number_bytes c.args.form.width
    ++ (number_bytes c.args.form.height
    ++ (number_bytes c.args.form.format.chroma ++ (number_bytes c.args.form.format.depth ++ (number_bytes c.args.form.format.alpha)))))
unfolding head_bytes
w0 c = writing_start _ _ _ c.requires

w1 : (c : After-write_number-a)
    → Writing c.args.out.now c.args.at (head_bytes c.args.form) c.write_number-a.new.out c.write_number-a.result
    (number_bytes c.args.form.height
    ++ (number_bytes c.args.form.format.chroma
    ++ (number_bytes c.args.form.format.depth ++ (number_bytes c.args.form.format.alpha))))
w1 c = writing-run (number_bytes c.args.form.width) (w0 (goal.at.After-write_number-a c).Start) c.write_number-a.ensures.0 c.write_number-a.ensures.1

w2 : (c : After-write_number-b)
    → Writing c.args.out.now c.args.at (head_bytes c.args.form) c.write_number-b.new.out c.write_number-b.result
    (number_bytes c.args.form.format.chroma
    ++ (number_bytes c.args.form.format.depth ++ (number_bytes c.args.form.format.alpha)))
w2 c = writing-run (number_bytes c.args.form.height) (w1 (goal.at.After-write_number-b c).After-write_number-a) c.write_number-b.ensures.0 c.write_number-b.ensures.1

w3 : (c : After-write_number-c)
    → Writing c.args.out.now c.args.at (head_bytes c.args.form) c.write_number-c.new.out c.write_number-c.result
    (number_bytes c.args.form.format.depth ++ (number_bytes c.args.form.format.alpha))
w3 c =
    writing-run (number_bytes c.args.form.format.chroma) (w2 (goal.at.After-write_number-c c).After-write_number-b) c.write_number-c.ensures.0
    c.write_number-c.ensures.1

w4 : (c : After-write_number-d)
    → Writing c.args.out.now c.args.at (head_bytes c.args.form) c.write_number-d.new.out c.write_number-d.result
    (number_bytes c.args.form.format.alpha)
w4 c =
    writing-run (number_bytes c.args.form.format.depth) (w3 (goal.at.After-write_number-d c).After-write_number-c) c.write_number-d.ensures.0
    c.write_number-d.ensures.1

pub write_number-a-requires : goal.write_number-a-requires
write_number-a-requires c = writing-fits (number_bytes c.args.form.width) _ (w0 (goal.at.write_number-a-requires c).Start)

pub write_number-b-requires : goal.write_number-b-requires
write_number-b-requires c = writing-fits (number_bytes c.args.form.height) _ (w1 (goal.at.write_number-b-requires c).After-write_number-a)

pub write_number-c-requires : goal.write_number-c-requires
write_number-c-requires c =
    writing-fits (number_bytes c.args.form.format.chroma) _ (w2 (goal.at.write_number-c-requires c).After-write_number-b)

pub write_number-d-requires : goal.write_number-d-requires
write_number-d-requires c =
    writing-fits (number_bytes c.args.form.format.depth) _ (w3 (goal.at.write_number-d-requires c).After-write_number-c)

pub write_number-requires : goal.write_number-requires
write_number-requires c = (w4 (goal.at.write_number-requires c).After-write_number-d).room

pub returns : goal.returns
returns c = writing-last (w4 (goal.at.returns c).After-write_number-d) c.write_number.ensures.0 c.write_number.ensures.1
