use mathlib.Core.Path.{◌∙◌, sym}
use Prim.Native.Nat.{◌*◌, ◌+◌, ◌-◌, ◌<◌, ◌^◌, ◌≤◌}
use native.Mathlib.Omega.{arith}
use Rattle.laws.proofs.Order.{mul-below}
use Rattle.numbers.proofs.Number.{read-bounds}
use Rattle.records.proofs.record.read_plane.Goals as goal
use Rattle.records.proofs.record.read_plane.Goals.{Else-stride-row}

product : (c : Else-stride-row)
    → c.in_ok-stride.stride * (c.args.rows - 1) ≤ 4294967295 * 4294967294
product c =
    let k = read-bounds _ _ _ _ (sym c.read_number.ensures ∙ c.in_ok-stride.was) in
    mul-below 4294967295 4294967294 c.in_ok-stride.stride (c.args.rows - 1) (omega (arith, k.0)) (omega (arith, c.requires))

pub overflow_mul-stride : goal.overflow_mul-stride
overflow_mul-stride c = omega (arith, product c)

pub overflow_add-stride : goal.overflow_add-stride
overflow_add-stride c =
    let h : c.in_ok-stride.stride * (c.args.rows - 1) + c.args.row < 2 ^ 64 = omega (arith, product c, c.requires) in
    record { fits = h }

pub overflow_sub-s : goal.overflow_sub-s
overflow_sub-s c = (read-bounds _ _ _ _ (sym c.read_number-2.ensures ∙ c.in_ok-len.was)).1
