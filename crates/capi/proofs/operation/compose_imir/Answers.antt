use mathlib.Core.Path.{◌∙◌, ap}
use Rattle.words.specs.Code.{answer_code}
use Rattle.capi.proofs.operation.compose_imir.Goals as goal

pub returns : goal.returns
returns c = (c.answer_code.ensures ∙ ap answer_code c.apply_imir.ensures.0, c.apply_imir.ensures.1)
