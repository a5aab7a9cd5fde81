use native.Mathlib.Omega.{arith}
use Rattle.words.proofs.Codes.{done-code, named-long, refused-code, spot-done, spot-refused, spot-short, words-behind}
use Rattle.words.specs.Spots.{named_fields, point_fields, sight_fields}
use Rattle.words.proofs.answers.put_point.Goals as goal

pub returns-then-answer-lt10 : goal.returns-then-answer-lt10
returns-then-answer-lt10 c = refused-code _ _ _ _ (spot-short _ _ _ (c.in-Ok.is) c.if-answer-lt10.true) c.refusal_code-then-answer-lt10.ensures

pub returns-in-Err : goal.returns-in-Err
returns-in-Err c = refused-code _ _ _ _ (spot-refused _ _ _ (c.in-Err.is)) c.refusal_code.ensures

pub returns-else-answer-lt10 : goal.returns-else-answer-lt10
unfolding point_fields
returns-else-answer-lt10 c =
    let k = spot-done _ _ c.in-Ok.p (c.in-Ok.is) c.if-answer-lt10.false in
    done-code _ (point_fields c.in-Ok.p) c.args.answer.now _ k.0 k.1
    (words-behind _ _ _ (named_fields c.in-Ok.p.named) (sight_fields c.in-Ok.p.sight) 0 _ c.put_named-a.ensures.1
    (omega (arith, c.put_named-a.ensures.0, named-long c.in-Ok.p.named)) c.put_sight.ensures)
