use mathlib.Core.Path.{◌∙◌, refl, sym}
use Rattle.session.proofs.MarkLaws.{any-end, any_here, any-onward}
use Rattle.session.proofs.marks.any_marked.Goals as goal

pub loop-word-init : goal.loop-word-init
loop-word-init c = refl

pub returns-then-word-ne0 : goal.returns-then-word-ne0
returns-then-word-ne0 c = sym (c.loop-word.invariant ∙ any_here _ _ _ c.loop-word-test.true c.if-word-ne0.true)

pub loop-word-preserved : goal.loop-word-preserved
loop-word-preserved c = c.loop-word.invariant ∙ any-onward _ _ _ c.loop-word-test.true c.if-word-ne0.false

pub returns : goal.returns
returns c = sym (c.loop-word.invariant ∙ any-end _ _ _ c.loop-word-test.false)
