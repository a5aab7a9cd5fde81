use mathlib.Core.Path.{refl}
use native.Mathlib.Omega.{arith}
use borrow.Author.Rules.{rules}
use Rattle.overlay.proofs.StripedLaws.{overlay-drawn}
use Rattle.overlay.proofs.stripes.write_overlay.Goals as goal

pub paint_canvas-size-requires : goal.paint_canvas-size-requires
paint_canvas-size-requires c =
    (c.requires.0.plan.form, refl, c.requires.1)

pub write_blocks-requires : goal.write_blocks-requires
write_blocks-requires c =
    (c.requires.0, search rules, search rules, search rules, omega (arith, c.requires.1, c.paint_canvas-size.auto.out))

pub returns : goal.returns
returns c =
    (c.paint_canvas-size.ensures.0, overlay-drawn c.requires.0 _ _ _ c.paint_canvas-size.ensures.1 c.write_blocks.ensures)
