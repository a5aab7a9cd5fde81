use mathlib.Core.Path.{◌∙◌, ap}
use native.Mathlib.Omega.{arith}
use lib.ListN.{length}
use Rattle.laws.proofs.Puts.{length-puts}
use Rattle.planes.specs.Bytes.{head_bytes, size_of}
use Rattle.paste.proofs.EvenLaws.{flat-written}
use Rattle.paste.proofs.paint.paint_canvas.Goals as goal

pub write_head-a-requires : goal.write_head-a-requires
unfolding size_of
write_head-a-requires c = omega (arith, c.requires.1, c.requires.2)

pub paint_plane-b-requires : goal.paint_plane-b-requires
unfolding size_of
paint_plane-b-requires c =
    (c.requires.0, omega (arith, c.requires.1, c.requires.2, c.write_head-a.ensures.0, ap length c.write_head-a.ensures.1 ∙ length-puts _ _ _))

pub paint_plane-c-requires : goal.paint_plane-c-requires
unfolding size_of
paint_plane-c-requires c =
    (c.requires.0, omega (arith, c.requires.1, c.requires.2, c.write_head-a.ensures.0, ap length c.write_head-a.ensures.1 ∙ length-puts _ _ _, c.paint_plane-b.ensures.0, ap length c.paint_plane-b.ensures.1 ∙ length-puts _ _ _))

pub paint_plane-d-requires : goal.paint_plane-d-requires
unfolding size_of
paint_plane-d-requires c = (
  c.requires.0,
  omega (
    arith,
    c.requires.1,
    c.requires.2,
    c.write_head-a.ensures.0,
    ap length c.write_head-a.ensures.1 ∙ length-puts _ _ _,
    c.paint_plane-b.ensures.0,
    ap length c.paint_plane-b.ensures.1 ∙ length-puts _ _ _,
    c.paint_plane-c.ensures.0,
    ap length c.paint_plane-c.ensures.1 ∙ length-puts _ _ _,
  ),
)

pub paint_plane-requires : goal.paint_plane-requires
unfolding size_of
paint_plane-requires c = (
  c.requires.0,
  omega (
    arith,
    c.requires.1,
    c.requires.2,
    c.write_head-a.ensures.0,
    ap length c.write_head-a.ensures.1 ∙ length-puts _ _ _,
    c.paint_plane-b.ensures.0,
    ap length c.paint_plane-b.ensures.1 ∙ length-puts _ _ _,
    c.paint_plane-c.ensures.0,
    ap length c.paint_plane-c.ensures.1 ∙ length-puts _ _ _,
    c.paint_plane-d.ensures.0,
    ap length c.paint_plane-d.ensures.1 ∙ length-puts _ _ _,
  ),
)

pub returns : goal.returns
returns c =
    flat-written (head_bytes c.args.shown) c.args.canvas c.args.y c.args.cb c.args.cr c.args.alpha _ _
    _ _ _ _ _ _ _ _ _ c.requires.1 c.requires.2 c.write_head-a.ensures.0 c.write_head-a.ensures.1 c.paint_plane-b.ensures.0 c.paint_plane-b.ensures.1
    c.paint_plane-c.ensures.0 c.paint_plane-c.ensures.1 c.paint_plane-d.ensures.0 c.paint_plane-d.ensures.1
    c.paint_plane.ensures.0 c.paint_plane.ensures.1
