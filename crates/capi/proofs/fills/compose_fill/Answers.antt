use mathlib.Core.Path.{◌∙◌, ap, sym}
use lib.ListN.{length}
use Rattle.laws.proofs.Out.{fitted-room, fitted_short, then-done, then-refused}
use Rattle.words.proofs.Codes.{done-code, refused-code}
use Rattle.words.specs.Fill.{fill_words, fill_fields}
use Rattle.capi.proofs.fills.compose_fill.Goals as goal

pub returns-then-answer-lt3 : goal.returns-then-answer-lt3
unfolding fill_words fill_fields
returns-then-answer-lt3 c =
    refused-code _ _ _ _
    (then-done _ (rw c.colour_of.ensures at (sym c.fill_to_ycbcr.ensures ∙ c.in-Ok.is))
    ∙ fitted_short _ _ c.if-answer-lt3.true)
    c.refusal_code-then-answer-lt3.ensures

pub returns-in-Err : goal.returns-in-Err
unfolding fill_words
returns-in-Err c = refused-code _ _ _ _ (then-refused _ (rw c.colour_of.ensures at (sym c.fill_to_ycbcr.ensures ∙ c.in-Err.is))) c.refusal_code.ensures

pub returns-else-answer-lt3 : goal.returns-else-answer-lt3
unfolding fill_words fill_fields
returns-else-answer-lt3 c =
    done-code _ (fill_fields c.in-Ok.s) c.args.answer.now _
    (then-done _ (rw c.colour_of.ensures at (sym c.fill_to_ycbcr.ensures ∙ c.in-Ok.is))
    ∙ fitted-room (length c.args.answer.now) _ c.if-answer-lt3.false)
    c.if-answer-lt3.false c.put_fill.ensures
