use mathlib.Core.Path.{◌∙◌, ap, sym}
use lib.ListN.{length}
use Rattle.session.specs.Session.{finish_of}
use Rattle.session.specs.declared.state.Canvas.{Canvas}
use Rattle.words.proofs.CanvasLaws.{length-code, state-read, state-short}
use Rattle.words.specs.Canvas.{finish_run}
use Rattle.words.specs.Code.{answer_code, code_of}
use Rattle.capi.proofs.canvas.compose_canvas_finish.Goals as goal

pub returns-then-state-lt1034 : goal.returns-then-state-lt1034
unfolding finish_run code_of
returns-then-state-lt1034 c = c.refusal_code.ensures ∙ sym (ap code_of (state-short _ _ c.if-state-lt1034.true))

pub returns : goal.returns
unfolding finish_run
returns c =
    c.answer_code.ensures
    ∙ ap answer_code c.finish.ensures
    ∙ length-code _
    ∙ ap (λ (s : Canvas). code_of (finish_of s (length c.args.buffer.now))) c.canvas_of-canvas.ensures
    ∙ ap code_of (sym (state-read _ _ c.if-state-lt1034.false))
