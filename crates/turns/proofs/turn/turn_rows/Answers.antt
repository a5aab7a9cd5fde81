use native.Mathlib.Omega.{arith}
use mathlib.Core.Path.{◌≡◌}
use Rattle.turns.proofs.turn.turn_rows.Goals as goal
use Rattle.turns.proofs.turn.turn_rows.Goals.{Else-bytes-eq1}

two : (c : Else-bytes-eq1) → c.args.bytes ≡ 2
two c =
    omega (arith, c.requires.0.positive, c.requires.0.bounded, c.if-bytes-eq1.false)

pub turn_bands-requires : goal.turn_bands-requires
turn_bands-requires c =
    (rw c.if-bytes-eq1.true at c.requires.0, rw c.if-bytes-eq1.true at c.requires.1)

pub returns-then-bytes-eq1 : goal.returns-then-bytes-eq1
returns-then-bytes-eq1 c =
    rw c.if-bytes-eq1.true c.turn_bands.ensures

pub turn_bands-requires-else-bytes-eq1 : goal.turn_bands-requires-else-bytes-eq1
turn_bands-requires-else-bytes-eq1 c =
    (rw (two (goal.at.turn_bands-requires-else-bytes-eq1 c).Else-bytes-eq1) at c.requires.0, rw (two (goal.at.turn_bands-requires-else-bytes-eq1 c).Else-bytes-eq1) at c.requires.1)

pub returns-else-bytes-eq1 : goal.returns-else-bytes-eq1
returns-else-bytes-eq1 c =
    rw (two (goal.at.returns-else-bytes-eq1 c).Else-bytes-eq1) c.turn_bands-else-bytes-eq1.ensures
