use mathlib.Core.List.{◌++◌}
use Prim.Native.Nat.{◌+◌}
use native.Mathlib.Omega.{arith}
use Rattle.laws.proofs.Writing.{Writing, writing-as, writing-done, writing-fits, writing-last, writing-run, writing_start}
use Rattle.laws.specs.Pick.{pick}
use Rattle.laws.specs.Utf8.{character_bytes, utf8}
use Rattle.steps_text.proofs.Going.{Going, going_end, going_next, going-refused, going-stands, going_start, heading-lines, text-stored}
use Rattle.steps_text.specs.Text.{heading, line_text, lines_from, refused_line}
use Rattle.steps_text.proofs.text.write_text.Goals as goal
use Rattle.steps_text.proofs.text.write_text.Goals.{After-put_line-arg-1, After-put_refused_line-arg-1}

last_line : (c : After-put_refused_line-arg-1)
    → Writing c.copy_row-end.new.out c.copy_row-end.result c.loop-index.invariant.0 c.loop-index.out c.loop-index.end
    (refused_line c.loop-index.index c.step-made.result.kind c.in-Err.e)
last_line c =
    writing-as c.loop-index.invariant.3
    (going-refused _ _ _ _ c.loop-index.size c.loop-index.invariant.2 c.step-made.result _ c.loop-index-test.true c.step-made.ensures
    (c.in-Err.is))

more : (c : After-put_line-arg-1)
    → (g : Going c.args.s.now c.args.input.chain.count c.step-made.result.next (c.loop-index.index + 1))
    × Writing c.copy_row-end.new.out c.copy_row-end.result c.loop-index.invariant.0 c.loop-index.out c.loop-index.end
    (line_text c.loop-index.index c.step-made.result.kind c.in-Ok.z
    ++ lines_from (c.loop-index.index + 1) g.rest c.in-Ok.z)
more c =
    let k = going_next _ _ _ _ c.loop-index.size c.loop-index.invariant.2 c.step-made.result _ c.loop-index-test.true c.step-made.ensures
    (c.in-Ok.is) in
    (k.0, writing-as c.loop-index.invariant.3 k.1)

pub copy_row-end-requires : goal.copy_row-end-requires
copy_row-end-requires c = let k = going_start _ _ c.requires.0 in omega (arith, heading-lines _ _ k.1, c.requires.1)

pub loop-index-init : goal.loop-index-init
loop-index-init c =
    let k = going_start _ _ c.requires.0 in (
      _,
      k.1,
      k.0,
      writing_start _ _ _
          (omega (arith, heading-lines _ _ k.1, c.requires.1, c.copy_row-end.ensures.0, c.copy_row-end.auto.out)),
    )

pub step-made-requires : goal.step-made-requires
step-made-requires c = going-stands _ _ _ _ c.loop-index.invariant.2 c.loop-index-test.true

pub put_refused_line-requires : goal.put_refused_line-requires
put_refused_line-requires c = (last_line c).room

pub returns-in-Err : goal.returns-in-Err
unfolding heading utf8 character_bytes pick
returns-in-Err c =
    text-stored _ _ _ _ _ _ _ c.loop-index.invariant.1 c.copy_row-end.ensures.0 c.copy_row-end.ensures.1
    (writing-last (last_line (goal.at.returns-in-Err c).After-put_refused_line-arg-1) c.put_refused_line.ensures.0
    c.put_refused_line.ensures.1)

pub put_line-end-requires : goal.put_line-end-requires
put_line-end-requires c =
    writing-fits (line_text c.loop-index.index c.step-made.result.kind c.in-Ok.z)
    (lines_from (c.loop-index.index + 1) (more c).0.rest c.in-Ok.z) (more c).1

pub loop-index-preserved : goal.loop-index-preserved
loop-index-preserved c =
    let k = more (goal.at.loop-index-preserved c).After-put_line-arg-1 in (
      c.loop-index.invariant.0,
      c.loop-index.invariant.1,
      k.0,
      writing-run (line_text c.loop-index.index c.step-made.result.kind c.in-Ok.z) k.1 c.put_line-end.ensures.0
          c.put_line-end.ensures.1,
    )

pub returns : goal.returns
unfolding heading utf8 character_bytes pick
returns c =
    text-stored _ _ _ _ _ _ _ c.loop-index.invariant.1 c.copy_row-end.ensures.0 c.copy_row-end.ensures.1
    (writing-done (writing-as c.loop-index.invariant.3 (going_end _ _ _ _ c.loop-index.size c.loop-index.invariant.2 c.loop-index-test.false)))
