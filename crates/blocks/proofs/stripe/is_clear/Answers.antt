use mathlib.Core.Path.{ap}
use mathlib.Core.Bool.{not}
use mathlib.Core.Bool.{true≢false}
use mathlib.Core.Path.{◌∙◌, sym}
use native.Mathlib.Omega.{arith}
use borrow.Author.Tests.{not-false}
use Rattle.laws.proofs.Order.{by_equal}
use Rattle.blocks.proofs.ListLaws.{none_below}
use Rattle.blocks.proofs.stripe.is_clear.Goals as goal

pub returns-in_default : goal.returns-in_default
returns-in_default c = λ e. absurd (true≢false (sym e))

pub loop-k-init : goal.loop-k-init
loop-k-init c = λ i h. absurd (none_below i h)

pub misses-requires : goal.misses-requires
misses-requires c =
    (omega (arith, c.requires.0 c.in-Some.n c.in-Some.is, c.loop-k-test.true), c.requires.1)

pub returns-then-not-misses : goal.returns-then-not-misses
returns-then-not-misses c = λ e. absurd (true≢false (sym e))

pub loop-k-preserved : goal.loop-k-preserved
loop-k-preserved c =
    λ i h. by_equal i c.loop-k.k (λ e. rw e (sym c.misses.ensures ∙ not-false _ (ap not c.if-not-misses.false))) (λ e. c.loop-k.invariant i (omega arith))

pub returns : goal.returns
returns c = λ e. record { many = c.in-Some.n; listed = c.in-Some.is; each = λ k h. c.loop-k.invariant k (omega (arith, c.loop-k-test.false)) }
