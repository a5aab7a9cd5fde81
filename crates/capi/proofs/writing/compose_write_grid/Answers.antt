use mathlib.Core.Path.{◌∙◌, ap}
use Rattle.words.specs.Code.{answer_code}
use Rattle.words.specs.Descriptors.{grid_by}
use Rattle.capi.proofs.writing.compose_write_grid.Goals as goal

pub returns : goal.returns
unfolding grid_by
returns c =
    (c.answer_code.ensures ∙ ap answer_code c.write_grid.ensures.0, c.write_grid.ensures.1)
