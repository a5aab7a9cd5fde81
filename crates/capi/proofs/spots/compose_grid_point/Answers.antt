use Rattle.words.proofs.Codes.{spot-as}
use Rattle.words.specs.Spots.{flag_of}
use Rattle.capi.proofs.spots.compose_grid_point.Goals as goal

pub returns : goal.returns
unfolding flag_of
returns c = spot-as _ _ _ _ _ _ c.grid_point.ensures c.put_point.ensures
