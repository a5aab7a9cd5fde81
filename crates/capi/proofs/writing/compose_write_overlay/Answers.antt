use mathlib.Core.Path.{◌∙◌, ap}
use Rattle.words.specs.Code.{answer_code}
use Rattle.words.specs.Descriptors.{fill_by}
use Rattle.capi.proofs.writing.compose_write_overlay.Goals as goal

pub returns : goal.returns
unfolding fill_by
returns c =
    (c.answer_code.ensures ∙ ap answer_code c.write_overlay.ensures.0, c.write_overlay.ensures.1)
