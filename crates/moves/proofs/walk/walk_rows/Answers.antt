use mathlib.Core.List.{List, ◌++◌}
use mathlib.Core.Path.{◌∙◌, ◌≡◌, ap, sym}
use Prim.Native.Nat.{◌*◌, ◌+◌, ◌≤◌, ℕ}
use native.Mathlib.Omega.{arith}
use lib.ListN.{length}
use Rattle.laws.proofs.Span.{span-end, span-step}
use Rattle.laws.proofs.Writing.{writing-as, writing-done, writing-fits, writing-run, writing_start}
use Rattle.laws.specs.Puts.{puts}
use Rattle.laws.specs.Span.{span}
use Rattle.planes.proofs.ByteLaws.{length-samples_of}
use Rattle.planes.specs.Bytes.{samples_of}
use Rattle.planes.specs.inner.Line.{line_bytes}
use Rattle.planes.specs.declared.samples.Line.{Line}
use Rattle.moves.proofs.Walks.{length-walk_bytes, line-fits, row-bytes, row_fits}
use Rattle.moves.specs.inner.Move.{walk_at, walk_bytes}
use Rattle.moves.proofs.walk.walk_rows.Goals as goal
use Rattle.moves.proofs.walk.walk_rows.Goals.{In-loop-y}

-- the row y
module _ (c : In-loop-y) where
  abbrev item : ℕ → List ℕ
  item v =
      samples_of c.args.bytes (λ x. walk_at c.args.plane.now c.args.bytes c.args.stride c.args.w x v)
      c.args.columns

  step : span item c.loop-y.y c.args.rows ≡ item c.loop-y.y ++ span item (c.loop-y.y + 1) c.args.rows
  step = span-step item c.loop-y.y c.args.rows c.loop-y-test.true

  long : length (item c.loop-y.y) ≡ c.args.columns * c.args.bytes
  long = length-samples_of c.args.bytes _ c.args.columns c.requires.0.positive c.requires.0.bounded

  room : c.loop-y.i + c.args.columns * c.args.bytes ≤ length c.loop-y.out
  room = rw (← long) (writing-fits (item c.loop-y.y) _ (writing-as c.loop-y.invariant.2 step))

pub loop-y-init : goal.loop-y-init
unfolding walk_bytes
loop-y-init c = (
  omega arith,
  omega arith,
  writing_start _ _ _
      (rw (length-walk_bytes c.args.plane.now c.args.bytes c.args.stride c.args.w c.args.columns
      c.args.rows c.requires.0.positive c.requires.0.bounded)
      c.requires.1),
)

pub row_line-l-requires : goal.row_line-l-requires
row_line-l-requires c = row_fits _ _ _ _ _ _ c.requires.0 c.loop-y.y c.loop-y-test.true

pub write_line-i-requires : goal.write_line-i-requires
write_line-i-requires c = (rw c.row_line-l.ensures (line-fits _ _ _ _ _ _ c.requires.0 c.loop-y.y c.loop-y-test.true), room (goal.at.write_line-i-requires c).In-loop-y)

pub loop-y-preserved : goal.loop-y-preserved
loop-y-preserved c = (
  omega arith,
  omega (arith, c.write_line-i.ensures.0, c.loop-y.invariant.1),
  writing-run (item (goal.at.loop-y-preserved c).In-loop-y c.loop-y.y) (writing-as c.loop-y.invariant.2 (step (goal.at.loop-y-preserved c).In-loop-y))
      (c.write_line-i.ensures.0 ∙ ap (λ (k : ℕ). c.loop-y.i + k) (sym (long (goal.at.loop-y-preserved c).In-loop-y)))
      (c.write_line-i.ensures.1
      ∙ ap (puts c.loop-y.out c.loop-y.i)
      (ap (λ (l : Line). line_bytes c.args.plane.now c.args.bytes l c.args.columns) c.row_line-l.ensures
      ∙ row-bytes _ _ _ _ _ _)),
)

pub returns : goal.returns
returns c =
    let e : c.loop-y.y ≡ c.args.rows = omega arith in (
      c.loop-y.invariant.1 ∙ ap (λ (k : ℕ). c.args.at + k * (c.args.columns * c.args.bytes)) e,
      (writing-done (writing-as c.loop-y.invariant.2 (span-end _ _ _ c.loop-y-test.false))).1,
    )
