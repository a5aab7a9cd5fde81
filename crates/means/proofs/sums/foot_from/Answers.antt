use mathlib.Core.Path.{◌∙◌, ap, sym}
use Prim.Native.Nat.{◌*◌, ◌+◌, ◌-◌, min, ℕ}
use borrow.Author.Tests.{le-leb, lt-leb}
use Rattle.laws.proofs.Order.{pick-false, pick_true}
use Rattle.means.specs.inner.Columns.{foot_from}
use Rattle.means.proofs.sums.foot_from.Goals as goal

pub returns-then-a : goal.returns-then-a
unfolding foot_from
returns-then-a c = sym (pick_true _ _ _ (le-leb _ _ c.if-a.true))

pub returns : goal.returns
unfolding foot_from
returns c =
    ap (λ (n : ℕ). record { start = n; end = n + 256 }) (c.min-start.ensures ∙ ap (λ (n : ℕ). min n (256 * (c.args.a.from - 1))) c.saturating_sub.ensures) ∙ sym (pick-false _ _ _ (lt-leb _ _ c.if-a.false))
