use mathlib.Core.List.{List}
use mathlib.Core.Path.{◌∙◌, ◌≡◌, ap, refl, sym}
use Prim.Native.Nat.{◌*◌, ◌+◌, ◌≤◌, ℕ}
use native.Mathlib.Omega.{arith}
use lib.ListN.{length}
use Rattle.paste.proofs.RowLaws.{length-store_rows}
use Rattle.paste.specs.Stored.{store_rows}
use Rattle.turns.proofs.CourseLaws.{block-fits, block_room, block_at, blocks_more, blocks-none, blocks-whole, from-behind}
use Rattle.turns.specs.inner.Course.{course_row}
use Rattle.turns.specs.inner.Stepped.{step_to}
use Rattle.turns.proofs.turn.turn_band.Given.{Over}
use Rattle.turns.proofs.turn.turn_band.Goals as goal
use Rattle.turns.proofs.turn.turn_band.Goals.{After-min-n, In-loop-k}

wide : (g : Over) (c : After-min-n g) → (1 ≤ c.min-n.result) × (c.loop-k.k + c.min-n.result ≤ c.args.columns)
wide g c = (omega (arith, c.min-n.ensures, c.loop-k-test.true), omega (arith, c.min-n.ensures, c.loop-k-test.true))

pub loop-k-init : goal.loop-k-init
loop-k-init g c = (omega arith, refl, sym (blocks-none _ _ _ _ _ c.requires.0 _ _ _))

pub overflow_mul-block : goal.overflow_mul-block
overflow_mul-block g c =
    omega (arith, c.requires.0.small c.loop-k.k 0 (omega arith) (omega arith))

pub overflow_add-block : goal.overflow_add-block
overflow_add-block g c =
    omega (arith, c.requires.0.small c.loop-k.k 0 (omega arith) (omega arith))

pub overflow_mul-block-in-loop-k : goal.overflow_mul-block-in-loop-k
overflow_mul-block-in-loop-k g c =
    omega (arith, c.requires.0.small c.loop-k.k 0 (omega arith) (omega arith), from-behind _ _ _ _ _ c.requires.0 c.loop-k.k 1 (omega arith) (omega (arith, c.loop-k-test.true)) c.requires.2)

pub overflow_sub-block : goal.overflow_sub-block
overflow_sub-block g c =
    omega (arith, from-behind _ _ _ _ _ c.requires.0 c.loop-k.k 1 (omega arith) (omega (arith, c.loop-k-test.true)) c.requires.2)

pub turn_block-requires : goal.turn_block-requires
unfolding step_to
turn_block-requires g c =
    let w = wide g (goal.at.turn_block-requires g c).After-min-n in (
      block-fits _ _ _ _ _ c.requires.0 c.loop-k.k c.min-n.result w.0 w.1,
      block_room _ _ _ _ _ c.requires.0 c.loop-k.k c.min-n.result w.0 w.1 c.args.at _ (omega (arith, c.requires.1, c.loop-k.invariant.1)),
    )

pub loop-k-preserved : goal.loop-k-preserved
unfolding step_to
loop-k-preserved g c =
    let w = wide g (goal.at.loop-k-preserved g c).After-min-n in (
      omega (arith, w),
      ap length c.turn_block.ensures ∙ length-store_rows _ _ _ _ _ ∙ c.loop-k.invariant.1,
      c.turn_block.ensures
          ∙ ap (λ (q : List ℕ). store_rows q (c.args.at + c.loop-k.k * g.row.BYTES) (c.args.columns * g.row.BYTES) (course_row c.args.plane.now g.row.BYTES (block_at c.args.c c.loop-k.k) c.min-n.result) c.args.rows) c.loop-k.invariant.2
          ∙ blocks_more _ _ _ _ _ c.requires.0 c.loop-k.k c.min-n.result w.0 w.1 c.args.out.now c.args.at _ refl,
    )

pub returns : goal.returns
returns g c =
    let e : c.loop-k.k ≡ c.args.columns = omega (arith, c.loop-k-test.false, c.loop-k.invariant.0) in (
      refl,
      c.loop-k.invariant.2 ∙ ap (λ (n : ℕ). store_rows c.args.out.now c.args.at (c.args.columns * g.row.BYTES) (course_row c.args.plane.now g.row.BYTES c.args.c n) c.args.rows) e
          ∙ blocks-whole _ _ _ _ _ c.requires.0 c.args.out.now c.args.at,
    )
