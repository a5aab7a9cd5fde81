use mathlib.Core.Path.{◌∙◌, sym}
use native.Mathlib.Omega.{arith}
use Rattle.sight.proofs.Steps.{bounded-place, far-across, far-down}
use Rattle.sight.proofs.Sight.place.Goals as goal
use Rattle.sight.proofs.Sight.place.Goals.{then-area-gt4294967295-via-then-area-gt4294967295, then-area-gt4294967295-via-else-area-gt4294967295+then-area-gt4294967295-2}

pub returns-then-area-gt4294967295 : goal.returns-then-area-gt4294967295
returns-then-area-gt4294967295 c = elim c.then-area-gt4294967295.branch [
  | then-area-gt4294967295-via-then-area-gt4294967295 w ↦ far-across c.args.self _ _ (omega (arith, w.if-area-gt4294967295.true))
  | then-area-gt4294967295-via-else-area-gt4294967295+then-area-gt4294967295-2 w ↦ far-down c.args.self _ _ (omega (arith, w.if-area-gt4294967295.false)) (omega (arith, w.if-area-gt4294967295-2.true))
]

pub returns : goal.returns
returns c = c.bounded_place.ensures ∙ sym (bounded-place c.args.self _ _ (record { across = omega (arith, c.if-area-gt4294967295.false); down = omega (arith, c.if-area-gt4294967295-2.false) }))
