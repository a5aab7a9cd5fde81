use mathlib.Core.Path.{◌∙◌, ap}
use Rattle.words.specs.Code.{answer_code}
use Rattle.words.specs.Spots.{flag_of}
use Rattle.capi.proofs.scenes.compose_grid_scene.Goals as goal

pub returns : goal.returns
unfolding flag_of
returns c = (c.answer_code.ensures ∙ ap answer_code c.grid_scene.ensures.0, c.grid_scene.ensures.1, c.grid_scene.ensures.2)
