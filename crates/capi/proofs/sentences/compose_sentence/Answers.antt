use mathlib.Core.Path.{◌∙◌, ap}
use Rattle.words.specs.Code.{answer_code}
use Rattle.capi.proofs.sentences.compose_sentence.Goals as goal

pub returns : goal.returns
returns c = (c.answer_code.ensures ∙ ap answer_code c.write_sentence.ensures.0, c.write_sentence.ensures.1)
