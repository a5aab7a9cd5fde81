use mathlib.Core.Path.{refl}
use native.Mathlib.Omega.{arith}
use lib.ListN.{length-set}
use Rattle.rasters.proofs.LevelLaws.{levels-all, levels-more, none_below}
use Rattle.rasters.specs.inner.Levels.{Levels}
use Rattle.rasters.proofs.levels.fill_table.Goals as goal

pub loop-v-init : goal.loop-v-init
unfolding Levels
loop-v-init c = (refl, λ u l. absurd (none_below u l))

pub loop-v-preserved : goal.loop-v-preserved
loop-v-preserved c =
    (simp length-set c.loop-v.invariant.0, levels-more c.loop-v.table c.args.depths c.loop-v.v _ c.loop-v.invariant.1 (omega (arith, c.loop-v-test.true, c.loop-v.invariant.0)) c.level.ensures)

pub returns : goal.returns
returns c = (levels-all _ _ c.loop-v.v _ c.loop-v.invariant.1 (omega (arith, c.loop-v-test.false, c.loop-v.invariant.0)), c.loop-v.invariant.0)
