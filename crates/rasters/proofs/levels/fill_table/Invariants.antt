use mathlib.Core.Path.{◌≡◌}
use lib.ListN.{length}
use Rattle.rasters.specs.inner.Levels.{Levels}
use Rattle.rasters.proofs.levels.fill_table.Given as goal

abbrev pub invariant-loop-v : goal.invariant-loop-v
invariant-loop-v l = (length l.table ≡ length l.initial.table) × Levels l.table l.depths l.v
