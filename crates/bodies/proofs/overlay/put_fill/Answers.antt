use mathlib.Core.List.{List, ◌++◌}
use Prim.Native.Nat.{ℕ}
use native.Mathlib.Omega.{arith}
use Rattle.laws.proofs.Writing.{Writing, writing-fits, writing-last, writing-run, writing_start}
use Rattle.numbers.specs.Field.{big_endian_bytes}
use Rattle.numbers.specs.inner.Length.{FieldLength}
use Rattle.bodies.specs.Overlay.{fill_bytes}
use Rattle.bodies.proofs.overlay.put_fill.Goals as goal
use Rattle.bodies.proofs.overlay.put_fill.Goals.{After-write_field-a, After-write_field-b, After-write_field-c, Start}

-- four fields of two bytes
abbrev Stored : Start → List ℕ → ℕ → List ℕ → Type 0
Stored c d i left = Writing c.args.out.now c.args.at (fill_bytes c.args.fill) d i left

red : (c : Start) → Stored c c.args.out.now c.args.at (big_endian_bytes 2 c.args.fill.red ++ (big_endian_bytes 2 c.args.fill.green ++ (big_endian_bytes 2 c.args.fill.blue ++ big_endian_bytes 2 c.args.fill.alpha)))
unfolding fill_bytes
red c = writing_start _ _ _ c.requires

green : (c : After-write_field-a) → Stored (goal.at.After-write_field-a c).Start c.write_field-a.new.out c.write_field-a.result (big_endian_bytes 2 c.args.fill.green ++ (big_endian_bytes 2 c.args.fill.blue ++ big_endian_bytes 2 c.args.fill.alpha))
green c =
    writing-run (big_endian_bytes 2 c.args.fill.red) (red (goal.at.After-write_field-a c).Start) c.write_field-a.ensures.0 c.write_field-a.ensures.1

blue : (c : After-write_field-b) → Stored (goal.at.After-write_field-b c).Start c.write_field-b.new.out c.write_field-b.result (big_endian_bytes 2 c.args.fill.blue ++ big_endian_bytes 2 c.args.fill.alpha)
blue c =
    writing-run (big_endian_bytes 2 c.args.fill.green) (green (goal.at.After-write_field-b c).After-write_field-a) c.write_field-b.ensures.0 c.write_field-b.ensures.1

alpha : (c : After-write_field-c) → Stored (goal.at.After-write_field-c c).Start c.write_field-c.new.out c.write_field-c.result (big_endian_bytes 2 c.args.fill.alpha)
alpha c =
    writing-run (big_endian_bytes 2 c.args.fill.blue) (blue (goal.at.After-write_field-c c).After-write_field-b) c.write_field-c.ensures.0 c.write_field-c.ensures.1

short : FieldLength 2
short = record { least = omega arith; most = omega arith; even = omega arith }

pub write_field-a-requires : goal.write_field-a-requires
write_field-a-requires c =
    (short, writing-fits (big_endian_bytes 2 c.args.fill.red) _ (red (goal.at.write_field-a-requires c).Start))

pub write_field-b-requires : goal.write_field-b-requires
write_field-b-requires c =
    (short, writing-fits (big_endian_bytes 2 c.args.fill.green) _ (green (goal.at.write_field-b-requires c).After-write_field-a))

pub write_field-c-requires : goal.write_field-c-requires
write_field-c-requires c =
    (short, writing-fits (big_endian_bytes 2 c.args.fill.blue) _ (blue (goal.at.write_field-c-requires c).After-write_field-b))

pub write_field-requires : goal.write_field-requires
write_field-requires c =
    (short, (alpha (goal.at.write_field-requires c).After-write_field-c).room)

pub returns : goal.returns
returns c =
    writing-last (alpha (goal.at.returns c).After-write_field-c) c.write_field.ensures.0 c.write_field.ensures.1
