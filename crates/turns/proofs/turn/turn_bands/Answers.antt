use mathlib.Core.List.{List}
use mathlib.Core.Path.{◌∙◌, ap, refl, sym}
use Prim.Native.Nat.{◌*◌, ◌+◌, ◌≤◌, ℕ}
use native.Mathlib.Nat.{add-mul}
use native.Mathlib.Omega.{arith}
use lib.ListN.{length}
use Rattle.laws.proofs.Order.{mul-below}
use Rattle.laws.proofs.Puts.{length-puts}
use Rattle.laws.proofs.Span.{span-end}
use Rattle.laws.specs.Puts.{puts}
use Rattle.laws.specs.Span.{span}
use Rattle.turns.proofs.CourseLaws.{band-fits, band_at, bands-more}
use Rattle.turns.specs.inner.Course.{course_row}
use Rattle.turns.specs.inner.Stepped.{step_to}
use Rattle.turns.proofs.turn.turn_bands.Given.{Over}
use Rattle.turns.proofs.turn.turn_bands.Goals as goal
use Rattle.turns.proofs.turn.turn_bands.Goals.{After-min-n}

high : (g : Over) (c : After-min-n g) → (1 ≤ c.min-n.result) × (c.loop-y.y + c.min-n.result ≤ c.args.rows)
high g c = (omega (arith, c.min-n.ensures, c.loop-y-test.true), omega (arith, c.min-n.ensures, c.loop-y-test.true))

pub loop-y-init : goal.loop-y-init
unfolding puts
loop-y-init g c = (omega arith, omega arith, refl, sym (ap (puts _ _) (span-end _ 0 0 (omega arith))))

pub turn_band-i-requires : goal.turn_band-i-requires
unfolding step_to
turn_band-i-requires g c =
    let w = high g (goal.at.turn_band-i-requires g c).After-min-n in (
      band-fits _ _ _ _ _ c.requires.0 c.loop-y.y c.min-n.result w.0 w.1,
      omega (arith, c.requires.1, c.loop-y.invariant.1, c.loop-y.invariant.2, add-mul c.loop-y.y c.min-n.result (c.args.columns * g.row.BYTES), mul-below c.args.rows (c.args.columns * g.row.BYTES) (c.loop-y.y + c.min-n.result) (c.args.columns * g.row.BYTES) w.1 (omega arith)),
      w.0,
    )

pub loop-y-preserved : goal.loop-y-preserved
unfolding step_to
loop-y-preserved g c =
    let w = high g (goal.at.loop-y-preserved g c).After-min-n in (
      omega (arith, w),
      omega (arith, c.turn_band-i.ensures.0, c.loop-y.invariant.1, add-mul c.loop-y.y c.min-n.result (c.args.columns * g.row.BYTES)),
      ap length c.turn_band-i.ensures.1 ∙ length-puts _ _ _ ∙ c.loop-y.invariant.2,
      c.turn_band-i.ensures.1
          ∙ ap (λ (q : List ℕ). puts q c.loop-y.i (span (course_row c.args.plane.now g.row.BYTES (band_at c.args.c c.loop-y.y) c.args.columns) 0 c.min-n.result)) c.loop-y.invariant.3
          ∙ bands-more _ _ _ _ _ c.requires.0 c.loop-y.y c.min-n.result w.0 w.1 c.args.out.now c.args.at c.loop-y.i c.loop-y.invariant.1,
    )
