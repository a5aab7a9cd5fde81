use mathlib.Core.List.{[], ◌∷◌}
use mathlib.Core.Path.{◌∙◌, ap, sym}
use lib.ListN.{length}
use Rattle.laws.proofs.Out.{fitted-room, fitted_short, then-done, then-refused}
use Rattle.words.proofs.Codes.{done-code, refused-code, two-words, words-after}
use Rattle.words.specs.Descriptors.{grid_words, grid_fields}
use Rattle.capi.proofs.descriptors.compose_grid_descriptor.Goals as goal

pub returns-then-answer-lt4 : goal.returns-then-answer-lt4
unfolding grid_words grid_fields
returns-then-answer-lt4 c = refused-code _ _ _ _ (then-done _ (sym c.parse.ensures ∙ c.in-Ok.is) ∙ fitted_short _ _ c.if-answer-lt4.true) c.refusal_code-then-answer-lt4.ensures

pub returns-in-Err : goal.returns-in-Err
unfolding grid_words
returns-in-Err c = refused-code _ _ _ _ (then-refused _ (sym c.parse.ensures ∙ c.in-Err.is)) c.refusal_code.ensures

pub returns-else-answer-lt4 : goal.returns-else-answer-lt4
unfolding grid_words grid_fields
returns-else-answer-lt4 c =
    done-code _ (grid_fields c.in-Ok.g) c.args.answer.now _
    (then-done _ (sym c.parse.ensures ∙ c.in-Ok.is) ∙ fitted-room (length c.args.answer.now) _ c.if-answer-lt4.false) c.if-answer-lt4.false
    (words-after _ _ _ (c.in-Ok.g.rows ∷ c.in-Ok.g.columns ∷ []) _ _ _ (two-words _ _ _ _ _ c.put_words-a.ensures.1) c.put_words-a.ensures.0
    (two-words _ _ _ _ _ c.put_words.ensures.1))
