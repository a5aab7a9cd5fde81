use mathlib.Core.Path.{◌∙◌}
use native.Mathlib.Omega.{arith}
use lib.ListN.{drop_of_length-le}
use Rattle.laws.proofs.Writing.{writing-as, writing-done, writing-put, writing-whole}
use Rattle.words.proofs.CanvasLaws.{marks-length, marks-next, puts_whole}
use Rattle.words.specs.Canvas.{marks_of}
use Rattle.words.proofs.canvas.marks_of.Goals as goal

pub loop-i-init : goal.loop-i-init
loop-i-init c = writing-whole _ _ (rw (marks-length _ c.requires) (omega arith))

pub loop-i-preserved : goal.loop-i-preserved
loop-i-preserved c = writing-put (writing-as c.loop-i.invariant (marks-next _ c.loop-i.i c.requires c.loop-i-test.true))

pub returns : goal.returns
returns c = (writing-done (writing-as c.loop-i.invariant (drop_of_length-le (marks_of c.args.state.now) {i = c.loop-i.i} (rw (marks-length _ c.requires) (omega arith))))).1 ∙ puts_whole _ _ (marks-length _ c.requires)
