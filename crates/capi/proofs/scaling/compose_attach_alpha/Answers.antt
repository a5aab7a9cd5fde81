use mathlib.Core.Path.{◌∙◌, ap}
use Rattle.words.specs.Code.{answer_code}
use Rattle.capi.proofs.scaling.compose_attach_alpha.Goals as goal

pub returns : goal.returns
returns c = (c.answer_code.ensures ∙ ap answer_code c.attach_alpha.ensures.0, c.attach_alpha.ensures.1)
