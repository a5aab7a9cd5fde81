use mathlib.Core.Bool.{not}
use mathlib.Core.Path.{◌∙◌, ap, sym}
use native.Mathlib.Nat.{sub-zero}
use native.Mathlib.Omega.{arith}
use borrow.Author.Tests.{not-false, not-true}
use Rattle.session.proofs.MarkLaws.{all_end, all-missing, all-onward}
use Rattle.session.specs.Marks.{all_marked}
use Rattle.session.proofs.marks.all_marked.Goals as goal

pub loop-i-init : goal.loop-i-init
loop-i-init c = ap (all_marked c.args.marks.now 0) (sym (sub-zero _))

pub marked-requires : goal.marked-requires
marked-requires c = omega (arith, c.loop-i-test.true, c.requires)

pub returns-then-not-marked : goal.returns-then-not-marked
returns-then-not-marked c = sym (c.loop-i.invariant ∙ all-missing _ _ _ c.loop-i-test.true (sym c.marked.ensures ∙ not-true _ (ap not c.if-not-marked.true)))

pub loop-i-preserved : goal.loop-i-preserved
loop-i-preserved c = c.loop-i.invariant ∙ all-onward _ _ _ c.loop-i-test.true (sym c.marked.ensures ∙ not-false _ (ap not c.if-not-marked.false))

pub returns : goal.returns
returns c = sym (c.loop-i.invariant ∙ all_end _ _ _ c.loop-i-test.false)
