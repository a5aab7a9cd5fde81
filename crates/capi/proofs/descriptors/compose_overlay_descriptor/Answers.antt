use mathlib.Core.List.{[], ◌∷◌}
use mathlib.Core.Path.{◌∙◌, ap, sym}
use native.Mathlib.Omega.{arith}
use lib.ListN.{length}
use borrow.Author.Rules.{rules}
use Rattle.laws.proofs.Out.{fitted-room, fitted_short, then-done, then-refused}
use Rattle.words.proofs.Codes.{done-code, refused-code, two-words, words-after}
use Rattle.words.specs.Descriptors.{overlay_words, overlay_fields}
use Rattle.capi.proofs.descriptors.compose_overlay_descriptor.Goals as goal

pub returns-then-answer-lt6 : goal.returns-then-answer-lt6
unfolding overlay_words overlay_fields
returns-then-answer-lt6 c = refused-code _ _ _ _ (then-done _ (sym c.parse.ensures ∙ c.in-Ok.is) ∙ fitted_short _ _ c.if-answer-lt6.true) c.refusal_code-then-answer-lt6.ensures

pub returns-in-Err : goal.returns-in-Err
unfolding overlay_words
returns-in-Err c = refused-code _ _ _ _ (then-refused _ (sym c.parse.ensures ∙ c.in-Err.is)) c.refusal_code.ensures

pub returns-else-answer-lt6 : goal.returns-else-answer-lt6
unfolding overlay_words overlay_fields
returns-else-answer-lt6 c =
    done-code _ (overlay_fields c.in-Ok.d) c.args.answer.now _
    (then-done _ (sym c.parse.ensures ∙ c.in-Ok.is) ∙ fitted-room (length c.args.answer.now) _ c.if-answer-lt6.false) c.if-answer-lt6.false
    (words-after _ _ _ (c.in-Ok.d.canvas_fill.red ∷ c.in-Ok.d.canvas_fill.green ∷ c.in-Ok.d.canvas_fill.blue ∷ c.in-Ok.d.canvas_fill.alpha ∷ []) _ _ _
    (words-after _ _ _ (c.in-Ok.d.canvas_fill.red ∷ c.in-Ok.d.canvas_fill.green ∷ []) _ _ _ (two-words _ _ _ _ _ c.put_words-a.ensures.1) c.put_words-a.ensures.0 (two-words _ _ _ _ _ c.put_words-b.ensures.1))
    (omega (arith, c.put_words-a.ensures.0, c.put_words-b.ensures.0)) (two-words _ _ _ _ _ c.put_words.ensures.1))
