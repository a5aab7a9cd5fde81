use mathlib.Core.Bool.{not}
use mathlib.Core.Path.{◌∙◌, ap, sym}
use borrow.Author.Tests.{not-false, not-true}
use Rattle.image.specs.Format.{has_part}
use Rattle.inputs.proofs.FrameLaws.{found_none, found-refused, found_some}
use Rattle.inputs.proofs.alpha_check.alpha_at.Goals as goal

pub returns-then-not-has : goal.returns-then-not-has
unfolding has_part
returns-then-not-has c =
    c.no_alpha-then-not-has.ensures
    ∙ sym (found_none _ _ _ (sym c.read_record.ensures ∙ c.in-Ok.is)
    (not-true _ (ap not (sym c.has.ensures) ∙ (ap not c.if-not-has.true))))

pub returns-in-Err : goal.returns-in-Err
returns-in-Err c = c.no_alpha.ensures ∙ sym (found-refused _ _ _ (sym c.read_record.ensures ∙ c.in-Err.is))

pub returns-else-not-has : goal.returns-else-not-has
unfolding has_part
returns-else-not-has c =
    sym (found_some _ _ _ _ (sym c.read_record.ensures ∙ c.in-Ok.is) (not-false _ (ap not (sym c.has.ensures) ∙ (ap not c.if-not-has.false)))
    c.bytes_per_sample.ensures)
