use mathlib.Core.List.{List, ◌++◌}
use mathlib.Core.Path.{◌∙◌, ap}
use Prim.Native.Nat.{◌*◌, ◌+◌, ℕ}
use lib.ListN.{length}
use Rattle.laws.proofs.Writing.{Writing, writing-fits, writing-last, writing-run, writing_start}
use Rattle.laws.specs.Puts.{puts}
use Rattle.numbers.specs.Number.{number_bytes}
use Rattle.planes.specs.Bytes.{plane_head}
use Rattle.image.specs.Format.{row_size, rows_of}
use Rattle.image.specs.declared.format.Form.{Form}
use Rattle.image.specs.declared.format.Part.{Part}
use Rattle.planes.proofs.write.write_plane_head.Goals as goal
use Rattle.planes.proofs.write.write_plane_head.Goals.{After-row_size, After-write_number-a}

-- the two numbers in turn
abbrev row : Form → Part → List ℕ
row m p = number_bytes (row_size m p)

abbrev len : Form → Part → List ℕ
len m p = number_bytes (rows_of m p * row_size m p)

start : (c : After-row_size)
    → Writing c.args.out.now c.args.at (plane_head c.args.form c.args.part) c.args.out.now c.args.at
    (row c.args.form c.args.part ++ len c.args.form c.args.part)
unfolding plane_head
start c = writing_start _ _ _ c.requires.1

first : (c : After-write_number-a)
    → Writing c.args.out.now c.args.at (plane_head c.args.form c.args.part) c.write_number-a.new.out
    c.write_number-a.result (len c.args.form c.args.part)
first c =
    writing-run (row c.args.form c.args.part) (start (goal.at.After-write_number-a c).After-row_size)
    (c.write_number-a.ensures.0 ∙ ap (λ (n : ℕ). c.args.at + length (number_bytes n)) c.row_size.ensures)
    (c.write_number-a.ensures.1 ∙ ap (λ (n : ℕ). puts c.args.out.now c.args.at (number_bytes n)) c.row_size.ensures)

pub write_number-a-requires : goal.write_number-a-requires
write_number-a-requires c = rw c.row_size.ensures (writing-fits (row c.args.form c.args.part) (len c.args.form c.args.part) (start c))

pub write_number-requires : goal.write_number-requires
write_number-requires c = rw c.plane_len.ensures (first (goal.at.write_number-requires c).After-write_number-a).room

pub returns : goal.returns
returns c =
    writing-last (first (goal.at.returns c).After-write_number-a)
    (c.write_number.ensures.0
    ∙ ap (λ (n : ℕ). c.write_number-a.result + length (number_bytes n)) c.plane_len.ensures)
    (c.write_number.ensures.1
    ∙ ap (λ (n : ℕ). puts c.write_number-a.new.out c.write_number-a.result (number_bytes n)) c.plane_len.ensures)
