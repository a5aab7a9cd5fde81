use mathlib.Core.List.{◌++◌}
use mathlib.Core.Path.{◌∙◌, ap, sym}
use lib.ListN.{length}
use Rattle.laws.proofs.Out.{fitted-room, fitted_short, then-done, then-refused}
use Rattle.laws.proofs.Writing.{Writing, writing-last, writing-run, writing_start}
use Rattle.words.proofs.Codes.{done-code, refused-code}
use Rattle.words.specs.Read.{form_fields, plane_fields, record_words, record_fields}
use Rattle.capi.proofs.read.compose_record.Goals as goal
use Rattle.capi.proofs.read.compose_record.Goals.{After-put_form-a, After-put_plane-b, After-put_plane-c, After-put_plane-d}

-- the words in turn
w0 : (c : After-put_form-a)
    → Writing c.args.answer.now 0 (record_fields c.in-Ok.f) c.put_form-a.new.answer c.put_form-a.result
    (plane_fields c.in-Ok.f.luma
    ++ (plane_fields c.in-Ok.f.cb ++ (plane_fields c.in-Ok.f.cr ++ (plane_fields c.in-Ok.f.alpha))))
unfolding record_fields form_fields plane_fields
w0 c = writing-run (form_fields c.in-Ok.f.form) (writing_start _ _ _ c.if-answer-lt17.false) c.put_form-a.ensures.0 c.put_form-a.ensures.1

w1 : (c : After-put_plane-b)
    → Writing c.args.answer.now 0 (record_fields c.in-Ok.f) c.put_plane-b.new.answer c.put_plane-b.result
    (plane_fields c.in-Ok.f.cb ++ (plane_fields c.in-Ok.f.cr ++ (plane_fields c.in-Ok.f.alpha)))
unfolding plane_fields
w1 c = writing-run (plane_fields c.in-Ok.f.luma) (w0 (goal.at.After-put_plane-b c).After-put_form-a) c.put_plane-b.ensures.0 c.put_plane-b.ensures.1

w2 : (c : After-put_plane-c)
    → Writing c.args.answer.now 0 (record_fields c.in-Ok.f) c.put_plane-c.new.answer c.put_plane-c.result
    (plane_fields c.in-Ok.f.cr ++ (plane_fields c.in-Ok.f.alpha))
unfolding plane_fields
w2 c =
    writing-run (plane_fields c.in-Ok.f.cb) (w1 (goal.at.After-put_plane-c c).After-put_plane-b) c.put_plane-c.ensures.0 c.put_plane-c.ensures.1

w3 : (c : After-put_plane-d)
    → Writing c.args.answer.now 0 (record_fields c.in-Ok.f) c.put_plane-d.new.answer c.put_plane-d.result
    (plane_fields c.in-Ok.f.alpha)
unfolding plane_fields
w3 c =
    writing-run (plane_fields c.in-Ok.f.cr) (w2 (goal.at.After-put_plane-d c).After-put_plane-c) c.put_plane-d.ensures.0 c.put_plane-d.ensures.1

pub returns-then-answer-lt17 : goal.returns-then-answer-lt17
unfolding record_words record_fields form_fields plane_fields
returns-then-answer-lt17 c = refused-code _ _ _ _ (then-done _ (sym c.parse_record.ensures ∙ c.in-Ok.is) ∙ fitted_short _ _ c.if-answer-lt17.true) c.refusal_code-then-answer-lt17.ensures

pub returns-in-Err : goal.returns-in-Err
unfolding record_words
returns-in-Err c = refused-code _ _ _ _ (then-refused _ (sym c.parse_record.ensures ∙ c.in-Err.is)) c.refusal_code.ensures

pub returns-else-answer-lt17 : goal.returns-else-answer-lt17
unfolding record_words record_fields form_fields plane_fields
returns-else-answer-lt17 c =
    done-code _ (record_fields c.in-Ok.f) c.args.answer.now _
    (then-done _ (sym c.parse_record.ensures ∙ c.in-Ok.is) ∙ fitted-room (length c.args.answer.now) _ c.if-answer-lt17.false)
    c.if-answer-lt17.false (writing-last (w3 (goal.at.returns-else-answer-lt17 c).After-put_plane-d) c.put_plane.ensures.0 c.put_plane.ensures.1).1
