use mathlib.Core.Path.{ap}
use Prim.Native.Nat.{◌*◌, ℕ}
use native.Mathlib.Omega.{arith}
use Rattle.opaque.proofs.WindowLaws.{step_small, window-worked}
use Rattle.opaque.proofs.axis.window_of.Goals as goal

pub overflow_mul-at : goal.overflow_mul-at
overflow_mul-at c =
    omega (arith, c.requires, c.min-at.ensures, c.step_of.ensures, step_small c.args.half c.min-at.result, ap (λ (k : ℕ). c.min-at.result * k) c.step_of.ensures)

pub overflow_add-at : goal.overflow_add-at
overflow_add-at c =
    omega (arith, c.requires, c.min-at.ensures, step_small c.args.half c.min-at.result, ap (λ (k : ℕ). c.min-at.result * k) c.step_of.ensures)

pub returns : goal.returns
returns c =
    window-worked c.args.half c.args.o c.args.side c.args.samples _ _ _ _ _ _ c.reach-s.ensures c.min-at.ensures c.min-end.ensures c.saturating_sub.ensures c.step_of.ensures c.saturating_sub-2.ensures
