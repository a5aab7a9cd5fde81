use mathlib.Core.Path.{◌∙◌, refl}
use Rattle.laws.specs.Pick.{pick}
use Rattle.laws.specs.Utf8.{character_bytes, utf8}
use Rattle.sentence.proofs.Texts.{text-found}
use Rattle.sentence.specs.Table.{sorts}
use Rattle.sentence.specs.inner.Texts.{sort_text_of}
use Rattle.sentence.proofs.table.sort_text.Goals as goal

pub returns : goal.returns
unfolding sort_text_of sorts utf8 character_bytes pick
returns c = c.told.ensures ∙ text-found _ sorts c.args.sort c.args.language refl refl
