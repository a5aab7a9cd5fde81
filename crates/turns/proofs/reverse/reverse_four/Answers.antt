use mathlib.Core.Path.{sym}
use native.Mathlib.Omega.{arith}
use Rattle.laws.specs.Puts.{Bytes}
use Rattle.turns.proofs.SteppedLaws.{stepped-four}
use Rattle.turns.proofs.reverse.reverse_four.Goals as goal

pub returns : goal.returns
unfolding Bytes
returns c =
    sym (stepped-four c.args.out.now c.args.plane.now c.args.i c.args.j (λ x. omega (arith, c.type_inv.plane x)))
