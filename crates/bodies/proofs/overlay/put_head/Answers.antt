use mathlib.Core.List.{List, ◌++◌, ◌∷◌}
use Prim.Native.Nat.{◌≤◌, ℕ}
use native.Mathlib.Omega.{arith}
use lib.ListN.{length, length-set, set}
use Rattle.laws.proofs.Writing.{Writing, writing-ended, writing-fits, writing-put, writing-run, writing-whole}
use Rattle.derived.specs.Canvas.{field_bytes}
use Rattle.bodies.proofs.FormLaws.{field-length, length-head}
use Rattle.bodies.specs.Form.{canvas_bytes}
use Rattle.bodies.specs.Overlay.{fill_bytes}
use Rattle.bodies.specs.inner.Words.{overlay_head}
use Rattle.bodies.specs.inner.Words.{overlay_head}
use Rattle.bodies.proofs.overlay.put_head.Goals as goal
use Rattle.bodies.proofs.overlay.put_head.Goals.{After-put_fill-at, Start}

-- two bytes, the fill, the canvas
abbrev Stored : Start → List ℕ → ℕ → List ℕ → Type 0
Stored c d i left = Writing c.args.out.now 0 (overlay_head c.args.flags c.args.fill c.args.width c.args.height) d i left

head : (c : Start) → Stored c c.args.out.now 0 (0 ∷ (c.args.flags ∷ (fill_bytes c.args.fill ++ canvas_bytes (field_bytes c.args.flags) c.args.width c.args.height)))
unfolding overlay_head
head c = writing-whole _ _ c.requires

fill : (c : Start) → Stored c (set (set c.args.out.now 0 0) 1 c.args.flags) 2 (fill_bytes c.args.fill ++ canvas_bytes (field_bytes c.args.flags) c.args.width c.args.height)
fill c = writing-put (writing-put (head c))

long : (c : Start) → 10 ≤ length c.args.out.now
long c = omega (arith, c.requires, length-head c.args.flags c.args.fill c.args.width c.args.height)

canvas : (c : After-put_fill-at) → Stored (goal.at.After-put_fill-at c).Start c.put_fill-at.new.out c.put_fill-at.result (canvas_bytes (field_bytes c.args.flags) c.args.width c.args.height)
canvas c =
    writing-run (fill_bytes c.args.fill) (fill (goal.at.After-put_fill-at c).Start) c.put_fill-at.ensures.0 c.put_fill-at.ensures.1

pub bounds-out-0 : goal.bounds-out-0
bounds-out-0 c = omega (arith, long (goal.at.bounds-out-0 c).Start)

pub bounds-out-1 : goal.bounds-out-1
bounds-out-1 c = simp length-set (omega (arith, long (goal.at.bounds-out-1 c).Start))

pub put_fill-at-requires : goal.put_fill-at-requires
put_fill-at-requires c = writing-fits (fill_bytes c.args.fill) _ (fill (goal.at.put_fill-at-requires c).Start)

pub put_canvas-requires : goal.put_canvas-requires
put_canvas-requires c =
    rw c.field_bytes.ensures (field-length c.args.flags, (canvas (goal.at.put_canvas-requires c).After-put_fill-at).room)

pub returns : goal.returns
returns c =
    writing-ended (canvas (goal.at.returns c).After-put_fill-at) (rw c.field_bytes.ensures at c.put_canvas.ensures.0) (rw c.field_bytes.ensures at c.put_canvas.ensures.1)
