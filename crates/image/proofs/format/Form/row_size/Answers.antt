use mathlib.Core.Path.{◌≡◌, ap₂}
use Prim.Native.Nat.{◌*◌, ◌^◌, ◌≤◌, ℕ}
use native.Mathlib.Omega.{arith}
use Rattle.image.proofs.FormLaws.{row-le}
use Rattle.image.specs.Format.{columns_of, row_size}
use Rattle.image.proofs.format.Form.row_size.Goals as goal
use Rattle.image.proofs.format.Form.row_size.Goals.{After-bytes_per_sample}

-- the product is the row's bytes
module _ (c : After-bytes_per_sample) where
  product : c.columns.result * c.bytes_per_sample.result ≡ row_size c.args.self c.args.part
  unfolding row_size columns_of
  product = ap₂ (λ (x y : ℕ). x * y) c.columns.ensures c.bytes_per_sample.ensures

  small : c.columns.result * c.bytes_per_sample.result ≤ 2 ^ 31
  small = rw product (row-le c.args.self c.requires c.args.part)

pub overflow_mul-result : goal.overflow_mul-result
overflow_mul-result c = omega (arith, small c)

pub overflow_cast-result : goal.overflow_cast-result
overflow_cast-result c = omega (arith, small c)

pub returns : goal.returns
returns c = product c
