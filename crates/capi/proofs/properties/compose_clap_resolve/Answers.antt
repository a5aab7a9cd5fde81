use mathlib.Core.Path.{◌∙◌, sym}
use lib.ListN.{length}
use Rattle.laws.proofs.Out.{fitted-room, fitted_short, then-done, then-refused}
use Rattle.words.proofs.Codes.{done-code, refused-code}
use Rattle.words.specs.Properties.{clap_of, clap_words, crop_fields}
use Rattle.capi.proofs.properties.compose_clap_resolve.Goals as goal

pub returns-then-answer-lt8 : goal.returns-then-answer-lt8
unfolding clap_words clap_of crop_fields
returns-then-answer-lt8 c =
    refused-code _ _ _ _ (then-done _ (sym c.resolve.ensures ∙ c.in-Ok.is) ∙ fitted_short _ _ c.if-answer-lt8.true) c.refusal_code-then-answer-lt8.ensures

pub returns-in-Err : goal.returns-in-Err
unfolding clap_words clap_of
returns-in-Err c =
    refused-code _ _ _ _ (then-refused _ (sym c.resolve.ensures ∙ c.in-Err.is)) c.refusal_code.ensures

pub returns-else-answer-lt8 : goal.returns-else-answer-lt8
unfolding clap_words clap_of crop_fields
returns-else-answer-lt8 c =
    done-code _ (crop_fields c.in-Ok.k) c.args.answer.now _
    (then-done _ (sym c.resolve.ensures ∙ c.in-Ok.is) ∙ fitted-room (length c.args.answer.now) _ c.if-answer-lt8.false)
    c.if-answer-lt8.false
    c.put_crop.ensures
