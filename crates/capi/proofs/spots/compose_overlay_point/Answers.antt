use Rattle.words.proofs.Codes.{spot-as}
use Rattle.words.specs.Spots.{flag_of}
use Rattle.capi.proofs.spots.compose_overlay_point.Goals as goal

pub returns : goal.returns
unfolding flag_of
returns c = spot-as _ _ _ _ _ _ c.overlay_point.ensures c.put_point.ensures
