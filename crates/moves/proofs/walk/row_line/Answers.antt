use Prim.Native.Nat.{◌<◌, ◌^◌}
use native.Mathlib.Nat.{lt_of_le_of_lt}
use native.Mathlib.Omega.{arith}
use lib.Dec.{lit<}
use Rattle.laws.proofs.Order.{mul-below}
use Rattle.moves.proofs.Walks.{reach-small}
use Rattle.moves.proofs.walk.row_line.Goals as goal
use Rattle.moves.proofs.walk.row_line.Goals.{After-reach, After-reach-else-w}

across-small : (c : After-reach) → c.reach.result < 2 ^ 32
across-small c = rw c.reach.ensures (reach-small _ _ _ _ c.requires.across_small c.requires.bounded)

down-small : (c : After-reach-else-w) → c.reach-else-w.result < 2 ^ 32
down-small c = rw c.reach-else-w.ensures (reach-small _ _ _ _ c.requires.down_small c.requires.bounded)

pub overflow_mul-origin : goal.overflow_mul-origin
overflow_mul-origin c = record { fits = lt_of_le_of_lt (mul-below 4294967295 2 c.reach.result c.args.bytes (omega (arith, across-small c)) c.requires.sample) (lit< tt) }

pub overflow_mul-origin-else-w : goal.overflow_mul-origin-else-w
overflow_mul-origin-else-w c = record { fits = lt_of_le_of_lt (mul-below 4294967295 4294967295 c.reach-else-w.result c.args.stride (omega (arith, down-small c)) (omega (arith, c.requires.row))) (lit< tt) }
