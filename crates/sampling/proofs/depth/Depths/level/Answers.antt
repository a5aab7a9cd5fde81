use mathlib.Core.Path.{◌∙◌, ◌≡◌, ap₂, sym}
use Prim.Native.Nat.{◌*◌, ◌+◌, ◌/◌, ◌<◌, min}
use native.Mathlib.Omega.{arith}
use borrow.Author.Tests.{eq-eqb}
use Rattle.laws.proofs.Order.{mul-below}
use Rattle.laws.specs.Pick.{pick}
use Rattle.image.proofs.FormLaws.{top-high, top-low}
use Rattle.image.specs.Format.{top_at}
use Rattle.sampling.proofs.PlaceLaws.{level-other}
use Rattle.sampling.specs.Depth.{level_of}
use Rattle.sampling.specs.Rounded.{rounded}
use Rattle.sampling.proofs.depth.Depths.level.Goals as goal
use Rattle.sampling.proofs.depth.Depths.level.Goals.{After-top_at-new}

worked : (c : After-top_at-new) → (c.args.v * c.top_at-new.result + c.top_at-old.result / 2) / c.top_at-old.result ≡ rounded (c.args.v * top_at c.args.self.new) (top_at c.args.self.old)
unfolding rounded
worked c = rw (c.top_at-old.ensures, c.top_at-new.ensures)

high : (c : After-top_at-new) → c.top_at-new.result < 65536
high c =
    omega (arith, c.top_at-new.ensures, top-high c.args.self.new c.args.self.fit.new_high)

pub returns-then-self : goal.returns-then-self
unfolding level_of pick
returns-then-self c = simp (eq-eqb _ _ c.if-self.true)

pub overflow_mul-level : goal.overflow_mul-level
overflow_mul-level c =
    omega (arith, mul-below 65535 65535 c.args.v c.top_at-new.result (omega (arith, c.ranges.v)) (omega (arith, high c)))

pub overflow_add-level : goal.overflow_add-level
overflow_add-level c =
    omega (arith, mul-below 65535 65535 c.args.v c.top_at-new.result (omega (arith, c.ranges.v)) (omega (arith, high c)), c.top_at-old.ensures, top-high c.args.self.old c.args.self.fit.old_high)

pub nonzero_div-level-2 : goal.nonzero_div-level-2
nonzero_div-level-2 c =
    omega (arith, c.top_at-old.ensures, top-low c.args.self.old c.args.self.fit.old_low)

pub returns : goal.returns
returns c =
    c.min.ensures ∙ ap₂ min (worked (goal.at.returns c).After-top_at-new) c.top_at-new.ensures ∙ sym (level-other _ _ _ c.if-self.false)
