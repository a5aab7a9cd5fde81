use mathlib.Core.Path.{◌∙◌, ap, ap₂, sym}
use Prim.Native.Nat.{ℕ}
use lib.ListN.{length}
use Rattle.laws.specs.Puts.{puts}
use Rattle.image.specs.declared.format.Form.{Form}
use Rattle.planes.specs.Bytes.{head_bytes}
use Rattle.paste.specs.Stored.{headed}
use Rattle.paste.specs.inner.Even.{by_part, flat_pic}
use Rattle.grid.proofs.PaintLaws.{canvas-flat, head-alpha}
use Rattle.grid.proofs.paint.paint_canvas.Goals as goal

pub paint_canvas-requires : goal.paint_canvas-requires
paint_canvas-requires c =
    (c.requires.0, ap (λ (m : Form). length (head_bytes m)) c.with_alpha.ensures ∙ head-alpha c.args.canvas c.args.shown c.requires.1 c.requires.0.alpha, c.requires.2)

pub returns : goal.returns
returns c =
    c.paint_canvas.ensures.1
    ∙ ap₂ (λ (m : Form) (v : ℕ). puts c.args.out.now 0 (headed (head_bytes m) (flat_pic c.args.canvas (by_part 0 0 0 v))))
    c.with_alpha.ensures c.top.ensures
    ∙ ap (puts c.args.out.now 0) (sym (canvas-flat c.args.canvas c.args.shown))
