use native.Mathlib.Omega.{arith}
use Rattle.rasters.proofs.LevelLaws.{ten-rule}
use Rattle.rasters.proofs.write.write_rows.Goals as goal

pub write_rows-requires : goal.write_rows-requires
write_rows-requires c =
    (ten-rule _ _ c.in-Near.is (omega arith) (omega arith), c.requires.1)

pub write_levels-requires : goal.write_levels-requires
write_levels-requires c =
    (c.in-Near.is, c.has_table.ensures c.if-has_table.true, c.requires.1)
