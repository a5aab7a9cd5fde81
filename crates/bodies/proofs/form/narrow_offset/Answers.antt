use mathlib.Core.Path.{◌∙◌, refl, sym}
use borrow.Author.Tests.{le-leb, lt-leb}
use Rattle.bodies.proofs.FormLaws.{narrow-split}
use Rattle.bodies.proofs.form.narrow_offset.Goals as goal

pub returns-then-offset-le32767 : goal.returns-then-offset-le32767
returns-then-offset-le32767 c = sym (narrow-split _ ∙ rw (← c.signed-offset.ensures, le-leb _ _ c.if-offset-le32767.true) refl)

pub returns-else-offset-le32767 : goal.returns-else-offset-le32767
returns-else-offset-le32767 c = sym (narrow-split _ ∙ rw (← c.signed-offset.ensures, lt-leb _ _ c.if-offset-le32767.false) refl)
