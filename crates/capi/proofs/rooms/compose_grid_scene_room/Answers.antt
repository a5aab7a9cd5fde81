use mathlib.Core.Path.{◌∙◌, ap}
use Rattle.words.proofs.CanvasLaws.{length-code}
use Rattle.words.specs.Code.{answer_code}
use Rattle.words.specs.Spots.{flag_of}
use Rattle.capi.proofs.rooms.compose_grid_scene_room.Goals as goal

pub returns : goal.returns
unfolding flag_of
returns c = c.answer_code.ensures ∙ ap answer_code c.grid_room.ensures ∙ length-code _
