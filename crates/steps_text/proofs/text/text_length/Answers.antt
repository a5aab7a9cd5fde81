use mathlib.Core.Path.{◌∙◌, ◌≡◌, ap}
use Prim.Native.Nat.{◌+◌}
use native.Mathlib.Omega.{arith}
use lib.ListN.{length, length-append}
use Rattle.steps_text.proofs.Going.{Going, going_end, going_next, going-refused, going-stands, going_start, heading-lines}
use Rattle.steps_text.proofs.TextLaws.{text-short}
use Rattle.steps_text.specs.Text.{line_text, lines_from, text_of}
use Rattle.steps_text.proofs.text.text_length.Goals as goal
use Rattle.steps_text.proofs.text.text_length.Goals.{After-line_length-total, After-refused_line_length}

last_line : (c : After-refused_line_length)
    → c.loop-index.total + c.refused_line_length.result ≡ length (text_of c.args.s.now)
last_line c =
    let e = going-refused c.args.s.now _ _ _ c.loop-index.size c.loop-index.invariant.0 c.step-made.result _ c.loop-index-test.true c.step-made.ensures
    (c.in-Err.is) in
    omega (arith, c.loop-index.invariant.1, ap length e, c.refused_line_length.ensures)

more : (c : After-line_length-total)
    → (g : Going c.args.s.now c.args.input.chain.count c.step-made.result.next (c.loop-index.index + 1))
    × (c.loop-index.total + c.line_length-total.result + length (lines_from (c.loop-index.index + 1) g.rest c.in-Ok.z)
    ≡ length (text_of c.args.s.now))
more c =
    let k = going_next c.args.s.now _ _ _ c.loop-index.size c.loop-index.invariant.0 c.step-made.result _ c.loop-index-test.true c.step-made.ensures
    (c.in-Ok.is) in (
      k.0,
      omega (
        arith,
        c.loop-index.invariant.1,
        ap length k.1
            ∙ length-append (line_text c.loop-index.index c.step-made.result.kind c.in-Ok.z)
            (lines_from (c.loop-index.index + 1) k.0.rest c.in-Ok.z),
        c.line_length-total.ensures,
      ),
    )

pub loop-index-init : goal.loop-index-init
loop-index-init c = let k = going_start _ _ c.requires in (k.0, heading-lines _ _ k.1)

pub step-made-requires : goal.step-made-requires
step-made-requires c = going-stands _ _ _ _ c.loop-index.invariant.0 c.loop-index-test.true

pub overflow_add-result : goal.overflow_add-result
overflow_add-result c =
    omega (arith, last_line c, text-short c.args.s.now)

pub returns-in-Err : goal.returns-in-Err
returns-in-Err c = last_line c

pub overflow_add-total : goal.overflow_add-total
overflow_add-total c =
    omega (arith, (more c).1, text-short c.args.s.now)

pub loop-index-preserved : goal.loop-index-preserved
loop-index-preserved c = more c

pub returns : goal.returns
returns c = omega (arith, c.loop-index.invariant.1, ap length (going_end c.args.s.now _ _ _ c.loop-index.size c.loop-index.invariant.0 c.loop-index-test.false))
