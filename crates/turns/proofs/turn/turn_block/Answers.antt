use mathlib.Core.List.{List}
use mathlib.Core.Path.{◌∙◌, ap, refl, sym}
use Prim.Native.Nat.{◌*◌, ◌+◌, ◌≤◌, ℕ}
use native.Mathlib.Omega.{arith}
use lib.ListN.{length}
use Rattle.laws.proofs.Puts.{length-puts}
use Rattle.laws.specs.Puts.{puts}
use Rattle.paste.proofs.RowLaws.{rows_more, rows_none}
use Rattle.turns.proofs.CourseLaws.{row_fits}
use Rattle.turns.specs.inner.Course.{BlockFits, course_row, row_from}
use Rattle.turns.specs.inner.Stepped.{step_to}
use Rattle.turns.proofs.turn.turn_block.Given.{Over}
use Rattle.turns.proofs.turn.turn_block.Goals as goal
use Rattle.turns.proofs.turn.turn_block.Goals.{In-loop-y}

room : (g : Over) (c : In-loop-y g) → c.args.at + c.loop-y.y * c.args.pitch + c.args.n * g.row.BYTES ≤ length c.loop-y.out
unfolding BlockFits
room g c =
    omega (arith, c.requires.1 c.loop-y.y c.loop-y-test.true, c.loop-y.invariant.1)

pub loop-y-init : goal.loop-y-init
loop-y-init g c = (omega arith, refl, sym (rows_none _ _ _ _ _ refl))

pub overflow_mul-y : goal.overflow_mul-y
overflow_mul-y g c = omega (arith, room g (goal.at.overflow_mul-y g c).In-loop-y)

pub overflow_add-at : goal.overflow_add-at
overflow_add-at g c = omega (arith, room g (goal.at.overflow_add-at g c).In-loop-y)

pub write_steps-requires : goal.write_steps-requires
unfolding row_from step_to
write_steps-requires g c =
    (row_fits _ _ _ _ _ c.requires.0 c.loop-y.y c.loop-y-test.true, room g (goal.at.write_steps-requires g c).In-loop-y)

pub loop-y-preserved : goal.loop-y-preserved
unfolding course_row row_from step_to
loop-y-preserved g c = (
  omega arith,
  ap length c.write_steps.ensures.1 ∙ length-puts _ _ _ ∙ c.loop-y.invariant.1,
  c.write_steps.ensures.1
      ∙ ap (λ (q : List ℕ). puts q (c.args.at + c.loop-y.y * c.args.pitch) (course_row c.args.plane.now g.row.BYTES c.args.c c.args.n c.loop-y.y)) c.loop-y.invariant.2
      ∙ rows_more c.args.out.now c.args.at c.args.pitch (course_row c.args.plane.now g.row.BYTES c.args.c c.args.n) c.loop-y.y,
)
