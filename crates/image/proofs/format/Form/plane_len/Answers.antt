use mathlib.Core.Path.{◌≡◌, ap₂}
use Prim.Native.Nat.{◌*◌, ◌^◌, ◌≤◌, ℕ}
use native.Mathlib.Omega.{arith}
use Rattle.image.proofs.FormLaws.{size-le}
use Rattle.image.specs.Format.{row_size, rows_of}
use Rattle.image.proofs.format.Form.plane_len.Goals as goal
use Rattle.image.proofs.format.Form.plane_len.Goals.{After-rows}

-- the product is the plane's bytes
module _ (c : After-rows) where
  product : c.rows.result * c.row_size-row.result ≡ rows_of c.args.self c.args.part * row_size c.args.self c.args.part
  unfolding rows_of
  product = ap₂ (λ (x y : ℕ). x * y) c.rows.ensures c.row_size-row.ensures

  small : c.rows.result * c.row_size-row.result ≤ 2 ^ 31
  small = rw product (size-le c.args.self c.requires c.args.part)

pub overflow_mul-result : goal.overflow_mul-result
overflow_mul-result c = omega (arith, small c)

pub overflow_cast-result : goal.overflow_cast-result
overflow_cast-result c = omega (arith, small c)

pub returns : goal.returns
returns c = product c
