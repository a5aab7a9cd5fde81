use mathlib.Core.Path.{◌∙◌, ap}
use Rattle.words.specs.Code.{answer_code}
use Rattle.words.specs.Spots.{flag_of}
use Rattle.capi.proofs.scenes.compose_transforms.Goals as goal

pub returns : goal.returns
unfolding flag_of
returns c =
    (c.answer_code.ensures ∙ ap answer_code c.apply_transforms.ensures.0, c.apply_transforms.ensures.1, c.apply_transforms.ensures.2)
