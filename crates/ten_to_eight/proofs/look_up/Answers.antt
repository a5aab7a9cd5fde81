use mathlib.Core.Path.{◌∙◌, ap}
use Prim.Native.Nat.{ℕ}
use native.Mathlib.Omega.{arith}
use lib.ListN.{get_or}
use Rattle.ten_to_eight.proofs.TableLaws.{looked-up}
use Rattle.ten_to_eight.proofs.look_up.Goals as goal

pub overflow_cast-result : goal.overflow_cast-result
overflow_cast-result c = omega (arith, c.type_inv.table c.min.result)

pub returns : goal.returns
returns c =
    ap (λ (n : ℕ). get_or c.args.table.now n 0) c.min.ensures ∙ looked-up c.args.table.now c.requires c.args.v
