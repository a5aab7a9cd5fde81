use mathlib.Core.Path.{◌∙◌, ap, sym}
use Rattle.laws.proofs.Out.{then-done, then-refused}
use Rattle.image.proofs.JudgedLaws.{form-sound}
use Rattle.words.specs.Code.{code_of}
use Rattle.capi.proofs.rooms.compose_record_size.Goals as goal

pub record_size-requires : goal.record_size-requires
record_size-requires c =
    form-sound _ _ _ _ _ _ (sym c.judge.ensures ∙ c.in-Ok.is)

pub returns-in-Err : goal.returns-in-Err
unfolding code_of
returns-in-Err c =
    c.refusal_code.ensures ∙ ap code_of (sym (then-refused _ (sym c.judge.ensures ∙ c.in-Err.is)))

pub returns-in-Ok : goal.returns-in-Ok
unfolding code_of
returns-in-Ok c =
    c.record_size.ensures ∙ ap code_of (sym (then-done _ (sym c.judge.ensures ∙ c.in-Ok.is)))
