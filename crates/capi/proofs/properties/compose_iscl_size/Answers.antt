use mathlib.Core.Path.{◌∙◌, ap, sym}
use lib.ListN.{length}
use Rattle.laws.proofs.Out.{fitted-room, fitted_short, then-done, then-refused}
use Rattle.words.proofs.Codes.{done-code, refused-code, two-words}
use Rattle.words.specs.Properties.{iscl_of, iscl_words, size_fields}
use Rattle.capi.proofs.properties.compose_iscl_size.Goals as goal

pub returns-then-answer-lt2 : goal.returns-then-answer-lt2
unfolding iscl_words iscl_of size_fields
returns-then-answer-lt2 c = refused-code _ _ _ _ (then-done _ (sym c.output_size.ensures ∙ c.in-Ok.is) ∙ fitted_short _ _ c.if-answer-lt2.true) c.refusal_code-then-answer-lt2.ensures

pub returns-in-Err : goal.returns-in-Err
unfolding iscl_words iscl_of
returns-in-Err c = refused-code _ _ _ _ (then-refused _ (sym c.output_size.ensures ∙ c.in-Err.is)) c.refusal_code.ensures

pub returns-else-answer-lt2 : goal.returns-else-answer-lt2
unfolding iscl_words iscl_of size_fields
returns-else-answer-lt2 c =
    done-code _ (size_fields c.in-Ok.z) c.args.answer.now _
    (then-done _ (sym c.output_size.ensures ∙ c.in-Ok.is) ∙ fitted-room (length c.args.answer.now) _ c.if-answer-lt2.false) c.if-answer-lt2.false
    (two-words _ _ _ _ _ c.put_words.ensures.1)
