use mathlib.Core.Path.{◌∙◌, ap, sym}
use Rattle.session.specs.declared.state.Canvas.{Canvas}
use Rattle.session.specs.Session.{place_of}
use Rattle.words.proofs.CanvasLaws.{drawn-answers, drawn-short, state-read, state-short}
use Rattle.words.specs.Canvas.{place_run}
use Rattle.capi.proofs.canvas.compose_canvas_place.Goals as goal

pub returns-then-state-lt1034 : goal.returns-then-state-lt1034
unfolding place_run
returns-then-state-lt1034 c = drawn-short _ _ _ _ _ (state-short _ _ c.if-state-lt1034.true) c.refusal_code.ensures

pub returns : goal.returns
unfolding place_run
returns c =
    drawn-answers _ _ _ _ _ _ _ _
    (state-read _ _ c.if-state-lt1034.false
    ∙ ap (λ (s : Canvas). place_of s c.args.index c.args.record.now c.args.buffer.now) (sym c.canvas_of-canvas.ensures))
    c.place.ensures.0 c.keep.ensures c.place.ensures.1
