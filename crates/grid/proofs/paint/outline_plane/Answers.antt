use mathlib.Core.Bool.{true}
use mathlib.Core.Path.{◌∙◌, ◌≡◌, sym}
use Prim.Native.Nat.{◌*◌, ◌+◌}
use native.Mathlib.Omega.{arith}
use lib.ListN.{length}
use Rattle.laws.proofs.Order.{pick_true}
use Rattle.laws.specs.Puts.{Bytes}
use Rattle.image.specs.Format.{has_part, row_size, rows_of}
use Rattle.planes.specs.Bytes.{plane_head, plane_size}
use Rattle.grid.proofs.PaintLaws.{plane-lacks, plane-there}
use Rattle.grid.proofs.paint.outline_plane.Goals as goal
use Rattle.grid.proofs.paint.outline_plane.Goals.{Then-has}

there : (c : Then-has) → has_part c.args.form.format c.args.part ≡ true
there c = sym c.has.ensures ∙ c.if-has.true

size : (c : Then-has)
    → plane_size c.args.form c.args.part
    ≡ length (plane_head c.args.form c.args.part) + rows_of c.args.form c.args.part * row_size c.args.form c.args.part
unfolding plane_size
size c = pick_true _ _ _ (there c)

pub write_plane_head-a-requires : goal.write_plane_head-a-requires
write_plane_head-a-requires c =
    (c.requires.0, omega (arith, c.requires.1, size (goal.at.write_plane_head-a-requires c).Then-has))

pub overflow_add-result : goal.overflow_add-result
overflow_add-result c =
    omega (arith, c.requires.1, size (goal.at.overflow_add-result c).Then-has, c.write_plane_head-a.ensures.0, c.plane_len.ensures)

pub returns-then-has : goal.returns-then-has
unfolding Bytes
returns-then-has c =
    (omega (arith, size (goal.at.returns-then-has c).Then-has, c.write_plane_head-a.ensures.0, c.plane_len.ensures), plane-there _ _ _ _ _ (there (goal.at.returns-then-has c).Then-has) c.requires.1 c.write_plane_head-a.ensures.1 (λ i. omega (arith, c.type_inv.out i)))

pub returns-else-has : goal.returns-else-has
returns-else-has c = plane-lacks _ _ _ _ (sym c.has.ensures ∙ c.if-has.false)
