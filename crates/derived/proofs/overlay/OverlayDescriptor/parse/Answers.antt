use mathlib.Core.Path.{◌∙◌, sym}
use Rattle.derived.proofs.Taken.{canvas-taken, start-bytes}
use Rattle.derived.proofs.overlay.OverlayDescriptor.parse.Goals as goal

pub read_canvas-requires : goal.read_canvas-requires
read_canvas-requires c = (start-bytes _ _ (sym c.read_start.ensures ∙ c.in_ok-bytes.was)).1

pub judge_inputs-requires : goal.judge_inputs-requires
judge_inputs-requires c = (
  (start-bytes _ _ (sym c.read_start.ensures ∙ c.in_ok-bytes.was)).1,
  (canvas-taken _ _ _ _ (sym c.read_canvas.ensures ∙ c.in_ok-canvas.was)).1,
)
