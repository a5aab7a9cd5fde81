use mathlib.Core.Path.{◌∙◌, refl, sym}
use native.Mathlib.Omega.{arith}
use Rattle.session.proofs.MarkLaws.{clear-end, clear-not, clear-onward}
use Rattle.session.proofs.marks.none_beyond.Goals as goal

pub loop-i-init : goal.loop-i-init
loop-i-init c = refl

pub past_count-requires : goal.past_count-requires
past_count-requires c = (c.loop-i-test.true, omega arith)

pub returns-then-past_count-ne0 : goal.returns-then-past_count-ne0
returns-then-past_count-ne0 c = sym (c.loop-i.invariant ∙ clear-not _ _ _ _ c.loop-i-test.true (λ z. c.if-past_count-ne0.true (c.past_count.ensures ∙ z)))

pub loop-i-preserved : goal.loop-i-preserved
loop-i-preserved c = c.loop-i.invariant ∙ clear-onward _ _ _ _ c.loop-i-test.true (sym c.past_count.ensures ∙ c.if-past_count-ne0.false)

pub returns : goal.returns
returns c = sym (c.loop-i.invariant ∙ clear-end _ _ _ _ c.loop-i-test.false)
