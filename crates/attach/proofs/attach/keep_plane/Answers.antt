use mathlib.Core.List.{List, ◌++◌}
use mathlib.Core.Path.{◌∙◌, ap}
use Prim.Native.Nat.{◌+◌, ◌≤◌, ℕ}
use native.Mathlib.Omega.{arith}
use lib.ListN.{length, length-append}
use Rattle.laws.proofs.Writing.{Writing, writing-fits, writing-last, writing-run, writing_start}
use Rattle.laws.specs.Puts.{puts}
use Rattle.numbers.specs.Number.{number_bytes}
use Rattle.records.specs.Record.{data_of}
use Rattle.attach.specs.Attach.{kept_plane}
use Rattle.attach.proofs.attach.keep_plane.Goals as goal
use Rattle.attach.proofs.attach.keep_plane.Goals.{After-write_number-a, After-write_number-b, Start}

begun : (c : Start) → Writing c.args.out.now c.args.at (kept_plane c.args.s.now c.args.q) c.args.out.now c.args.at (number_bytes c.args.q.stride ++ (number_bytes c.args.q.len ++ data_of c.args.s.now c.args.q))
unfolding kept_plane
begun c = writing_start _ _ _ c.requires.1

-- there is room for its numbers and its bytes, in any order
room : (c : Start) → c.args.at + (length (number_bytes c.args.q.stride) + (length (number_bytes c.args.q.len) + length (data_of c.args.s.now c.args.q))) ≤ length c.args.out.now
room c = omega (arith, (begun c).room, length-append (number_bytes c.args.q.stride) (number_bytes c.args.q.len ++ data_of c.args.s.now c.args.q), length-append (number_bytes c.args.q.len) (data_of c.args.s.now c.args.q))

w1 : (c : After-write_number-a)
    → Writing c.args.out.now c.args.at (kept_plane c.args.s.now c.args.q) c.write_number-a.new.out
    c.write_number-a.result (number_bytes c.args.q.len ++ data_of c.args.s.now c.args.q)
w1 c = writing-run (number_bytes c.args.q.stride) (begun (goal.at.After-write_number-a c).Start) c.write_number-a.ensures.0 c.write_number-a.ensures.1

w2 : (c : After-write_number-b)
    → Writing c.args.out.now c.args.at (kept_plane c.args.s.now c.args.q) c.write_number-b.new.out
    c.write_number-b.result (data_of c.args.s.now c.args.q)
w2 c =
    writing-run (number_bytes c.args.q.len) (w1 (goal.at.After-write_number-b c).After-write_number-a) c.write_number-b.ensures.0 c.write_number-b.ensures.1

pub write_number-a-requires : goal.write_number-a-requires
write_number-a-requires c = omega (arith, room (goal.at.write_number-a-requires c).Start)

pub write_number-b-requires : goal.write_number-b-requires
write_number-b-requires c = writing-fits (number_bytes c.args.q.len) _ (w1 (goal.at.write_number-b-requires c).After-write_number-a)

pub copy_row-requires : goal.copy_row-requires
copy_row-requires c = rw c.plane_data.ensures (w2 (goal.at.copy_row-requires c).After-write_number-b).room

pub returns : goal.returns
returns c =
    writing-last (w2 (goal.at.returns c).After-write_number-b)
    (c.copy_row.ensures.0 ∙ ap (λ (l : List ℕ). c.write_number-b.result + length l) c.plane_data.ensures)
    (c.copy_row.ensures.1
    ∙ ap (puts c.write_number-b.new.out c.write_number-b.result) c.plane_data.ensures)
