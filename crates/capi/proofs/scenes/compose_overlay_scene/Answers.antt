use mathlib.Core.Path.{◌∙◌, ap}
use Rattle.words.specs.Code.{answer_code}
use Rattle.words.specs.Spots.{flag_of}
use Rattle.capi.proofs.scenes.compose_overlay_scene.Goals as goal

pub returns : goal.returns
unfolding flag_of
returns c =
    rw (← c.colour_of.ensures)
    (c.answer_code.ensures ∙ ap answer_code c.overlay_scene.ensures.0, c.overlay_scene.ensures.1, c.overlay_scene.ensures.2)
