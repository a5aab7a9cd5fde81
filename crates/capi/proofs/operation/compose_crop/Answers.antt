use mathlib.Core.Path.{◌∙◌, ap}
use Rattle.words.specs.Code.{answer_code}
use Rattle.words.specs.Properties.{crop_by}
use Rattle.capi.proofs.operation.compose_crop.Goals as goal

pub returns : goal.returns
unfolding crop_by
returns c =
    (c.answer_code.ensures ∙ ap answer_code c.crop.ensures.0, c.crop.ensures.1)
