use mathlib.Core.Path.{◌∙◌, sym}
use Rattle.session.proofs.DrawLaws.{begun_first, begun-later}
use Rattle.session.proofs.draw.begin.Goals as goal

pub returns-then-first : goal.returns-then-first
returns-then-first c = c.paint_canvas.ensures ∙ sym (begun_first _ _ _ c.if-first.true)

pub returns-else-first : goal.returns-else-first
returns-else-first c = sym (begun-later _ _ _ c.if-first.false)
