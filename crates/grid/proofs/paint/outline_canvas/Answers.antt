use mathlib.Core.Path.{◌∙◌, ap}
use Prim.Native.Nat.{ℕ}
use native.Mathlib.Omega.{arith}
use lib.ListN.{length}
use Rattle.laws.proofs.Puts.{length-puts}
use Rattle.laws.specs.Puts.{puts}
use Rattle.image.specs.declared.format.Part.TheVariants.{Alpha}
use Rattle.planes.specs.Bytes.{plane_bytes, size_of}
use Rattle.paste.specs.inner.Even.{even_pic}
use Rattle.grid.proofs.PaintLaws.{colours_of, under-written}
use Rattle.grid.proofs.paint.outline_canvas.Goals as goal

pub write_head-a-requires : goal.write_head-a-requires
unfolding size_of
write_head-a-requires c = omega (arith, c.requires.1)

pub outline_plane-b-requires : goal.outline_plane-b-requires
unfolding size_of
outline_plane-b-requires c =
    (c.requires.0, omega (arith, c.requires.1, c.write_head-a.ensures.0, ap length c.write_head-a.ensures.1 ∙ length-puts _ _ _))

pub outline_plane-c-requires : goal.outline_plane-c-requires
unfolding size_of
outline_plane-c-requires c =
    (c.requires.0, omega (arith, c.requires.1, c.write_head-a.ensures.0, ap length c.write_head-a.ensures.1 ∙ length-puts _ _ _, c.outline_plane-b.ensures.0, ap length c.outline_plane-b.ensures.1.1 ∙ length-puts _ _ _))

pub outline_plane-d-requires : goal.outline_plane-d-requires
unfolding size_of
outline_plane-d-requires c =
    (c.requires.0, omega (arith, c.requires.1, c.write_head-a.ensures.0, ap length c.write_head-a.ensures.1 ∙ length-puts _ _ _, c.outline_plane-b.ensures.0, ap length c.outline_plane-b.ensures.1.1 ∙ length-puts _ _ _, c.outline_plane-c.ensures.0, ap length c.outline_plane-c.ensures.1.1 ∙ length-puts _ _ _))

pub paint_plane-requires : goal.paint_plane-requires
unfolding size_of
paint_plane-requires c = (
  c.requires.0,
  omega (
    arith,
    c.requires.1,
    c.write_head-a.ensures.0,
    ap length c.write_head-a.ensures.1 ∙ length-puts _ _ _,
    c.outline_plane-b.ensures.0,
    ap length c.outline_plane-b.ensures.1.1 ∙ length-puts _ _ _,
    c.outline_plane-c.ensures.0,
    ap length c.outline_plane-c.ensures.1.1 ∙ length-puts _ _ _,
    c.outline_plane-d.ensures.0,
    ap length c.outline_plane-d.ensures.1.1 ∙ length-puts _ _ _,
  ),
)

pub returns : goal.returns
returns c = (
  colours_of c.outline_plane-b.ensures.1.0 c.outline_plane-c.ensures.1.0 c.outline_plane-d.ensures.1.0,
  under-written c.args.canvas _ _ _ _ _ _ _ _ _ _ _ _ _ _ c.requires.1 c.write_head-a.ensures.0 c.write_head-a.ensures.1
      c.outline_plane-b.ensures.0 c.outline_plane-b.ensures.1.1 c.outline_plane-c.ensures.0 c.outline_plane-c.ensures.1.1
      c.outline_plane-d.ensures.0 c.outline_plane-d.ensures.1.1 c.paint_plane.ensures.0
      (c.paint_plane.ensures.1
      ∙ ap (λ (v : ℕ). puts c.outline_plane-d.new.out c.outline_plane-d.result (plane_bytes (even_pic c.args.canvas v) Alpha))
      c.top.ensures),
)
