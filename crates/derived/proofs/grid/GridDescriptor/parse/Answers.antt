use mathlib.Core.Path.{◌∙◌, sym}
use Rattle.derived.proofs.Taken.{start-bytes}
use Rattle.derived.proofs.grid.GridDescriptor.parse.Goals as goal

pub read_grid-requires : goal.read_grid-requires
read_grid-requires c = (start-bytes _ _ (sym c.read_start.ensures ∙ c.in_ok-bytes.was)).1
