use mathlib.Core.List.{List, ◌++◌}
use mathlib.Core.Path.{◌∙◌, ◌≡◌, ap, sym}
use Prim.Native.Nat.{◌*◌, ◌+◌, ◌≤◌, ℕ}
use native.Mathlib.Omega.{arith}
use lib.ListN.{length}
use Rattle.laws.proofs.Span.{length-span-all, span-end, span-step}
use Rattle.laws.proofs.Writing.{writing-as, writing-done, writing-fits, writing-run, writing_start}
use Rattle.laws.specs.Puts.{puts}
use Rattle.laws.specs.Span.{span}
use Rattle.turns.specs.inner.Stepped.{stepped}
use Rattle.moves.proofs.Mirrors.{length-mirror_row, mirror_row, mirrored-bytes, mirrored-fits, mirrored-small}
use Rattle.moves.proofs.Walks.{row_fits}
use Rattle.moves.proofs.walk.mirror_rows.Goals as goal
use Rattle.moves.proofs.walk.mirror_rows.Goals.{In-loop-y}

abbrev item : (c : In-loop-y) (v : ℕ) → List ℕ
item c v =
    mirror_row c.args.plane.now c.args.bytes c.args.stride c.args.columns c.args.w.down c.args.w.half_down (c.args.w.across.from * c.args.bytes) v

step : (c : In-loop-y) → span (item c) c.loop-y.y c.args.rows ≡ item c c.loop-y.y ++ span (item c) (c.loop-y.y + 1) c.args.rows
step c =
    span-step (item c) c.loop-y.y c.args.rows c.loop-y-test.true

long : (c : In-loop-y) → length (item c c.loop-y.y) ≡ c.args.columns * c.args.bytes
long c =
    length-mirror_row _ _ _ _ _ _ _ _ c.requires.0.positive c.requires.0.bounded

room : (c : In-loop-y) → c.loop-y.i + c.args.columns * c.args.bytes ≤ length c.loop-y.out
room c = rw (← long c) (writing-fits (item c c.loop-y.y) _ (writing-as c.loop-y.invariant.2 (step c)))

pub loop-y-init : goal.loop-y-init
loop-y-init c =
    let n = length-span-all (mirror_row c.args.plane.now c.args.bytes c.args.stride c.args.columns c.args.w.down c.args.w.half_down (c.args.w.across.from * c.args.bytes)) (c.args.columns * c.args.bytes) c.args.rows
    (λ v. length-mirror_row _ _ _ _ _ _ _ v c.requires.0.positive c.requires.0.bounded) in
    (omega arith, omega arith, writing_start _ _ _ (rw n c.requires.1))

pub reach-requires : goal.reach-requires
reach-requires c =
    let f = row_fits _ _ _ _ _ _ c.requires.0 c.loop-y.y c.loop-y-test.true in (f.down_small, f.bounded, f.down c.requires.2.rows)

pub overflow_mul-j : goal.overflow_mul-j
overflow_mul-j c =
    let s = rw (← c.reach.ensures) at (mirrored-small _ _ _ _ _ _ c.requires.0 c.requires.2 c.loop-y.y c.loop-y-test.true) in record { fits = omega (arith, s) }

pub overflow_add-j : goal.overflow_add-j
overflow_add-j c =
    let s = rw (← c.reach.ensures) at (mirrored-small _ _ _ _ _ _ c.requires.0 c.requires.2 c.loop-y.y c.loop-y-test.true) in record { fits = omega (arith, s) }

pub reverse_row-i-requires : goal.reverse_row-i-requires
reverse_row-i-requires c =
    (rw c.reach.ensures (mirrored-fits _ _ _ _ _ _ c.requires.0 c.requires.2 c.loop-y.y c.loop-y-test.true), room (goal.at.reverse_row-i-requires c).In-loop-y)

pub loop-y-preserved : goal.loop-y-preserved
unfolding mirror_row
loop-y-preserved c = (
  omega arith,
  omega (arith, c.reverse_row-i.ensures.0, c.loop-y.invariant.1),
  writing-run (item (goal.at.loop-y-preserved c).In-loop-y c.loop-y.y) (writing-as c.loop-y.invariant.2 (step (goal.at.loop-y-preserved c).In-loop-y))
      (c.reverse_row-i.ensures.0 ∙ ap (λ (k : ℕ). c.loop-y.i + k) (sym (long (goal.at.loop-y-preserved c).In-loop-y)))
      (c.reverse_row-i.ensures.1 ∙ ap (λ (j : ℕ). puts c.loop-y.out c.loop-y.i (stepped c.args.plane.now c.args.bytes (j * c.args.stride + c.args.w.across.from * c.args.bytes) 0 c.args.bytes c.args.columns)) c.reach.ensures),
)

pub returns : goal.returns
returns c =
    let e : c.loop-y.y ≡ c.args.rows = omega (arith, c.loop-y-test.false, c.loop-y.invariant.0) in (
      c.loop-y.invariant.1 ∙ ap (λ (k : ℕ). c.args.at + k * (c.args.columns * c.args.bytes)) e,
      (writing-done (writing-as c.loop-y.invariant.2 (span-end _ _ _ c.loop-y-test.false))).1
          ∙ ap (puts c.args.out.now c.args.at) (mirrored-bytes _ _ _ _ _ _ c.requires.0 c.requires.2),
    )
