use mathlib.Core.Path.{◌∙◌, ap}
use Rattle.words.specs.Code.{answer_code}
use Rattle.capi.proofs.properties.compose_steps.Goals as goal

pub returns : goal.returns
returns c = (c.answer_code.ensures ∙ ap answer_code c.steps_text.ensures.0, c.steps_text.ensures.1)
