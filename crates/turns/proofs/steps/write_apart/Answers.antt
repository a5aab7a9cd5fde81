use Rattle.turns.proofs.SteppedLaws.{two_bytes}
use Rattle.turns.proofs.steps.write_apart.Goals as goal

pub write_steps-requires : goal.write_steps-requires
write_steps-requires c =
    rw c.if-bytes-eq1.true at c.requires

pub returns-then-bytes-eq1 : goal.returns-then-bytes-eq1
returns-then-bytes-eq1 c =
    rw c.if-bytes-eq1.true c.write_steps.ensures

pub write_steps-requires-else-bytes-eq1 : goal.write_steps-requires-else-bytes-eq1
write_steps-requires-else-bytes-eq1 c =
    rw (two_bytes c.requires.0 c.if-bytes-eq1.false) at c.requires

pub returns-else-bytes-eq1 : goal.returns-else-bytes-eq1
returns-else-bytes-eq1 c =
    rw (two_bytes c.requires.0 c.if-bytes-eq1.false) c.write_steps-else-bytes-eq1.ensures
