use Prim.Native.Nat.{◌-◌}
use mathlib.Core.Path.{◌∙◌, refl}
use Rattle.laws.specs.Pick.{pick}
use Rattle.laws.specs.Utf8.{character_bytes, utf8}
use Rattle.sentence.proofs.Texts.{text-found}
use Rattle.sentence.specs.Table.{reasons}
use Rattle.sentence.specs.inner.Texts.{reason_text_of}
use Rattle.sentence.proofs.table.reason_text.Goals as goal

pub returns : goal.returns
unfolding reason_text_of reasons utf8 character_bytes pick
returns c = c.told.ensures ∙ text-found _ reasons (c.args.number - 1) c.args.language refl refl
