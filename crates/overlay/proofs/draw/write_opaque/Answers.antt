use Rattle.overlay.proofs.OpaqueLaws.{opaque-drawn}
use Rattle.overlay.proofs.draw.write_opaque.Goals as goal

pub returns : goal.returns
returns c = (
  c.paint_canvas-size.ensures.0,
  λ list. opaque-drawn c.args.plan.form c.args.body.now c.args.tray.now list c.args.plan.descriptor _
      c.args.g.colour c.args.g.alpha c.args.out.now _ _ c.requires.0 c.requires.2 c.requires.3 c.requires.4 c.paint_canvas-size.ensures.1
      c.lay_inputs.ensures,
)
