use mathlib.Core.Path.{◌∙◌, sym}
use Prim.Native.Nat.{◌-◌, ◌^◌}
use native.Mathlib.Omega.{arith}
use Rattle.laws.proofs.Order.{mul-below}
use Rattle.derived.proofs.Taken.{grid-taken}
use Rattle.tiles.proofs.TilesLaws.{count-some}
use Rattle.tiles.specs.Tiles.{count_of}
use Rattle.tiles.proofs.judge.read_tiles.Goals as goal

pub overflow_mul-g : goal.overflow_mul-g
overflow_mul-g c =
    omega (arith, mul-below (2 ^ 32 - 1) (2 ^ 32 - 1) c.in_ok-g.g.rows c.in_ok-g.g.columns (omega arith) (omega arith))

pub judge_tiles-requires : goal.judge_tiles-requires
unfolding count_of
judge_tiles-requires c =
    let k = grid-taken _ _ (λ i. omega (arith, c.type_inv.body i)) (sym c.parse.ensures ∙ c.in_ok-g.was) in rw c.if-count-g.false (count-some c.in_ok-g.g k.positive_rows k.positive_columns)
