use mathlib.Core.Path.{◌∙◌, ap, sym}
use Prim.Native.Nat.{◌*◌, ◌+◌, ◌-◌, min, ℕ}
use borrow.Author.Tests.{le-leb, lt-leb}
use Rattle.laws.proofs.Order.{pick-false, pick_true}
use Rattle.sampling.specs.Area.{around_of, foot_of, share_of}
use Rattle.sampling.proofs.area.footprint.Goals as goal

pub returns-then-a : goal.returns-then-a
unfolding foot_of share_of
returns-then-a c = sym (pick_true _ _ _ (le-leb _ _ c.if-a.true))

pub returns : goal.returns
unfolding foot_of around_of
returns c = ap (λ (n : ℕ). record { start = n; end = n + 256 }) (c.min-start.ensures ∙ ap (λ (n : ℕ). min n (256 * (c.args.a.from - 1))) c.saturating_sub.ensures) ∙ sym (pick-false _ _ _ (lt-leb _ _ c.if-a.false))
