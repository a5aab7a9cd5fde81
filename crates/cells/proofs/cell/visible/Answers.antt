use mathlib.Core.Path.{◌∙◌, ap}
use Prim.Native.Nat.{◌-◌, ◌^◌, min}
use native.Mathlib.Omega.{arith}
use Rattle.laws.proofs.Order.{mul-below}
use Rattle.cells.proofs.CellLaws.{visible-min}
use Rattle.cells.proofs.cell.visible.Goals as goal

pub overflow_mul-i : goal.overflow_mul-i
overflow_mul-i c = omega (arith, mul-below (2 ^ 32 - 1) (2 ^ 32 - 1) c.args.i c.args.tile (omega arith) (omega (arith, c.requires)))

pub returns : goal.returns
returns c = c.min.ensures ∙ ap (min c.args.tile) c.saturating_sub.ensures ∙ visible-min c.args.canvas c.args.tile c.args.i
