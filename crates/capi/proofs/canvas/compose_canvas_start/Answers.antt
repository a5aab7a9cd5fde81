use mathlib.Core.Path.{◌∙◌, sym}
use Rattle.laws.proofs.Out.{fitted-room, fitted_short, then-done, then-refused}
use Rattle.words.proofs.CanvasLaws.{start-words}
use Rattle.words.proofs.Codes.{done-code, refused-code}
use Rattle.words.specs.Canvas.{start_run, words_of}
use Rattle.capi.proofs.canvas.compose_canvas_start.Goals as goal

pub returns-then-state-lt1034 : goal.returns-then-state-lt1034
unfolding start_run
returns-then-state-lt1034 c =
    let e = sym c.start.ensures ∙ c.in-Ok.is in
    refused-code _ _ _ _ (then-done _ e ∙ fitted_short _ _ (rw (start-words _ _ e) c.if-state-lt1034.true))
    c.refusal_code-then-state-lt1034.ensures

pub returns-in-Err : goal.returns-in-Err
unfolding start_run
returns-in-Err c = refused-code _ _ _ _ (then-refused _ (sym c.start.ensures ∙ c.in-Err.is)) c.refusal_code.ensures

pub returns-else-state-lt1034 : goal.returns-else-state-lt1034
unfolding start_run
returns-else-state-lt1034 c =
    done-code _ (words_of c.in-Ok.canvas) _ _
    (then-done _ (sym c.start.ensures ∙ c.in-Ok.is)
    ∙ fitted-room _ _ (rw c.put_canvas.ensures.0 c.if-state-lt1034.false))
    (rw c.put_canvas.ensures.0 c.if-state-lt1034.false) c.put_canvas.ensures.1
