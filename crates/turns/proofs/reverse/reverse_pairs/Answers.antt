use mathlib.Core.List.{List}
use mathlib.Core.Path.{◌∙◌, ◌≡◌, ap}
use Prim.Native.Nat.{◌*◌, ◌+◌, ◌-◌, ◌/◌, ℕ}
use native.Mathlib.Omega.{arith}
use Rattle.laws.specs.Puts.{puts}
use Rattle.turns.proofs.SteppedLaws.{stepped-more}
use Rattle.turns.specs.inner.Stepped.{stepped}
use Rattle.turns.proofs.reverse.reverse_pairs.Goals as goal
use Rattle.turns.proofs.reverse.reverse_pairs.Goals.{then-back, else-back, Joined-back}

-- read from the end back or from the start on
fours : (c : Joined-back) → c.if-back.out ≡ puts c.args.out.now c.args.at (stepped c.args.plane.now 2 c.args.from 0 2 (4 * (c.args.n / 4)))
fours c = elim c.if-back.branch [ then-back w ↦ w.out-is ∙ w.reverse_fours.ensures | else-back w ↦ w.out-is ∙ w.reverse_fours-else-back.ensures ]

pub returns : goal.returns
returns c =
    let m : ℕ = c.args.n / 4 in (
      c.write_steps.ensures.0 ∙ omega arith,
      c.write_steps.ensures.1
          ∙ ap (λ (q : List ℕ). puts q (c.args.at + 8 * m) (stepped c.args.plane.now 2 (c.args.from - 8 * m) 0 2 (c.args.n - 4 * m))) (fours (goal.at.returns c).Joined-back)
          ∙ stepped-more c.args.out.now c.args.plane.now c.args.at 2 c.args.from 0 2 (4 * m) (c.args.n - 4 * m) (omega arith) (omega arith) (λ z. omega (arith, c.requires, z))
          (omega arith) (omega arith) (omega arith),
    )
