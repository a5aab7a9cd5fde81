use mathlib.Core.Path.{◌∙◌, ap}
use Rattle.words.specs.Code.{answer_code}
use Rattle.capi.proofs.scaling.compose_iscl.Goals as goal

pub returns : goal.returns
returns c = (c.answer_code.ensures ∙ ap answer_code c.apply_iscl.ensures.0, c.apply_iscl.ensures.1)
