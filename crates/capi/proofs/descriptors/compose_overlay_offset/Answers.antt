use mathlib.Core.List.{[], ◌∷◌}
use mathlib.Core.Path.{◌∙◌, ap, sym}
use native.Mathlib.Omega.{arith}
use lib.ListN.{length}
use borrow.Author.Rules.{rules}
use borrow.Author.Tests.{le-leb, lt-leb}
use Rattle.laws.proofs.Out.{fitted-room, fitted_short, refuse-no, refuse-yes, then-done, then-refused}
use Rattle.laws.specs.Out.{fitted}
use Rattle.words.proofs.Codes.{done-code, refused-code, two-words, words-after}
use Rattle.words.specs.Descriptors.{offset_words, offset_fields}
use Rattle.derived.proofs.Taken.{overlay-taken}
use Rattle.capi.proofs.descriptors.compose_overlay_offset.Goals as goal

pub returns-then-index-count : goal.returns-then-index-count
unfolding offset_words
returns-then-index-count c = refused-code _ _ _ _ (then-done _ (sym c.parse.ensures ∙ c.in-Ok.is) ∙ refuse-yes _ _ (le-leb _ _ c.if-index-count.true)) c.refusal_code-then-index-count.ensures

pub returns-then-answer-lt4 : goal.returns-then-answer-lt4
unfolding offset_words offset_fields
returns-then-answer-lt4 c =
    refused-code _ _ _ _
    (then-done _ (sym c.parse.ensures ∙ c.in-Ok.is)
    ∙ refuse-no _ _ (lt-leb _ _ c.if-index-count.false)
    ∙ fitted_short _ _ c.if-answer-lt4.true)
    c.refusal_code-then-answer-lt4.ensures

pub offset-place-requires : goal.offset-place-requires
offset-place-requires c = let k = overlay-taken _ _ _ (sym c.parse.ensures ∙ c.in-Ok.is) in (k.0, omega (arith, k.1, c.if-index-count.false))

pub returns-in-Err : goal.returns-in-Err
unfolding offset_words
returns-in-Err c = refused-code _ _ _ _ (then-refused _ (sym c.parse.ensures ∙ c.in-Err.is)) c.refusal_code.ensures

pub returns-else-answer-lt4 : goal.returns-else-answer-lt4
unfolding offset_words offset_fields
returns-else-answer-lt4 c =
    done-code _ (offset_fields c.offset-place.result) c.args.answer.now _
    (then-done _ (sym c.parse.ensures ∙ c.in-Ok.is)
    ∙ refuse-no _ _ (lt-leb _ _ c.if-index-count.false)
    ∙ ap (λ x. fitted (length c.args.answer.now) (offset_fields x)) (sym c.offset-place.ensures)
    ∙ fitted-room (length c.args.answer.now) _ c.if-answer-lt4.false)
    c.if-answer-lt4.false
    (words-after _ _ _ (c.offset-place.result.horizontal.ahead ∷ c.offset-place.result.horizontal.behind ∷ []) _ _ _ (two-words _ _ _ _ _ c.put_words-a.ensures.1) c.put_words-a.ensures.0
    (two-words _ _ _ _ _ c.put_words.ensures.1))
