use mathlib.Core.Path.{◌∙◌, ap, sym}
use native.Mathlib.Omega.{arith}
use borrow.Author.Rules.{rules}
use Rattle.laws.proofs.Out.{then-refused}
use Rattle.laws.specs.Puts.{puts}
use Rattle.derived.proofs.Taken.{overlay-taken}
use Rattle.words.proofs.Codes.{done-code, refused-code}
use Rattle.words.proofs.OffsetLaws.{offset-even, offsets-done, offsets-short}
use Rattle.words.specs.Descriptors.{offsets_fields, offsets_words}
use Rattle.capi.proofs.descriptors.compose_overlay_offsets.Goals as goal

pub returns-then-answer-count : goal.returns-then-answer-count
returns-then-answer-count c =
    refused-code _ _ _ _ (offsets-short _ _ _ _ (sym c.parse.ensures ∙ c.in-Ok.is) c.if-answer-count.true) c.refusal_code-then-answer-count.ensures

pub put_offsets-requires : goal.put_offsets-requires
put_offsets-requires c =
    let e = sym c.parse.ensures ∙ c.in-Ok.is in let k = overlay-taken _ _ _ e in (k.0, offset-even _ _ _ e, omega (arith, k.1, c.if-answer-count.false))

pub returns-in-Err : goal.returns-in-Err
unfolding offsets_words
returns-in-Err c =
    refused-code _ _ _ _ (then-refused _ (sym c.parse.ensures ∙ c.in-Err.is)) c.refusal_code.ensures

pub returns-else-answer-count : goal.returns-else-answer-count
returns-else-answer-count c =
    let q = sym c.parse.ensures ∙ c.in-Ok.is in
    let k = offsets-done _ _ _ _ q c.if-answer-count.false in
    done-code _ _ c.args.answer.now _ k.0 k.1
    (c.put_offsets.ensures ∙ ap (λ n. puts c.args.answer.now 0 (offsets_fields c.args.body.now c.in-Ok.d n)) (overlay-taken _ _ _ q).1)
