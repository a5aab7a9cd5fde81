use mathlib.Core.List.{◌∷◌}
use Prim.Native.Nat.{◌-◌, ◌≤◌}
use native.Mathlib.Omega.{arith}
use lib.ListN.{length, length-set, set}
use Rattle.laws.proofs.Writing.{Writing, writing-ended, writing-put, writing-whole}
use Rattle.derived.specs.Canvas.{field_bytes}
use Rattle.bodies.proofs.FormLaws.{field-length, length-grid, tile-count}
use Rattle.bodies.specs.Form.{canvas_bytes}
use Rattle.bodies.specs.Grid.{grid_body_in}
use Rattle.bodies.proofs.grid.put_grid.Goals as goal
use Rattle.bodies.proofs.grid.put_grid.Goals.{Start}

-- four bytes, then the canvas
body : (c : Start) → Writing c.args.out.now 0 (grid_body_in c.args.flags c.args.grid) c.args.out.now 0 (0 ∷ (c.args.flags ∷ ((c.args.grid.rows - 1) ∷ ((c.args.grid.columns - 1) ∷ canvas_bytes (field_bytes c.args.flags) c.args.grid.output_width c.args.grid.output_height))))
unfolding grid_body_in
body c = writing-whole _ _ c.requires.2

canvas : (c : Start) → Writing c.args.out.now 0 (grid_body_in c.args.flags c.args.grid) (set (set (set (set c.args.out.now 0 0) 1 c.args.flags) 2 (c.args.grid.rows - 1)) 3 (c.args.grid.columns - 1)) 4 (canvas_bytes (field_bytes c.args.flags) c.args.grid.output_width c.args.grid.output_height)
canvas c = writing-put (writing-put (writing-put (writing-put (body c))))

long : (c : Start) → 8 ≤ length c.args.out.now
long c = omega (arith, c.requires.2, length-grid c.args.flags c.args.grid, field-length c.args.flags)

pub bounds-out-0 : goal.bounds-out-0
bounds-out-0 c = omega (arith, long (goal.at.bounds-out-0 c).Start)

pub bounds-out-1 : goal.bounds-out-1
bounds-out-1 c = simp length-set (omega (arith, long (goal.at.bounds-out-1 c).Start))

pub overflow_sub-out : goal.overflow_sub-out
overflow_sub-out c = (tile-count _ c.requires.0).0

pub overflow_cast-out : goal.overflow_cast-out
overflow_cast-out c = omega (arith, tile-count _ c.requires.0)

pub bounds-out-2 : goal.bounds-out-2
bounds-out-2 c = simp length-set (omega (arith, long (goal.at.bounds-out-2 c).Start))

pub overflow_sub-out-2 : goal.overflow_sub-out-2
overflow_sub-out-2 c =
    (tile-count _ c.requires.1).0

pub overflow_cast-out-2 : goal.overflow_cast-out-2
overflow_cast-out-2 c =
    omega (arith, tile-count _ c.requires.1)

pub bounds-out-3 : goal.bounds-out-3
bounds-out-3 c =
    simp length-set (omega (arith, long (goal.at.bounds-out-3 c).Start))

pub put_canvas-requires : goal.put_canvas-requires
put_canvas-requires c =
    rw c.field_bytes.ensures (field-length c.args.flags, (canvas (goal.at.put_canvas-requires c).Start).room)

pub returns : goal.returns
returns c =
    writing-ended (canvas (goal.at.returns c).Start) (rw c.field_bytes.ensures at c.put_canvas.ensures.0) (rw c.field_bytes.ensures at c.put_canvas.ensures.1)
