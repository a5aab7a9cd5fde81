use mathlib.Core.Path.{ap₂, refl}
use Prim.Native.Nat.{◌*◌, ◌+◌, ◌≤◌, ℕ}
use native.Mathlib.Omega.{arith}
use Rattle.planes.specs.Bytes.{sample_in}
use Rattle.sampling.proofs.FootLaws.{weighing-done, weighing-fits, weighing-start, weighing-step}
use Rattle.sampling.specs.Area.{first_of, past_of}
use Rattle.sampling.proofs.area.row_sum.Goals as goal
use Rattle.sampling.proofs.area.row_sum.Goals.{After-weight, In-loop-j}

few : (c : After-weight)
    → sample_in c.args.plane.now c.args.bytes c.args.stride c.loop-j.j c.args.y ≤ 65535
few c = rw (← c.sample.ensures) (omega (arith, c.sample.type_inv))

pub loop-j-init : goal.loop-j-init
unfolding first_of past_of
loop-j-init c = (refl, weighing-start c.args.f _ 65535 c.requires.wide.positive)

pub overflow_add-sum : goal.overflow_add-sum
overflow_add-sum c =
    omega (
      arith,
      c.requires.wide.inside,
      c.requires.size,
      weighing-fits c.args.f (λ x. sample_in c.args.plane.now c.args.bytes c.args.stride x c.args.y) 65535
          c.requires.wide.positive c.loop-j.j c.loop-j.sum c.loop-j.invariant.1 (rw c.loop-j.invariant.0 at c.loop-j-test.true) (few c),
      ap₂ (λ (a b : ℕ). a * b) c.sample.ensures c.weight.ensures.0,
    )

pub loop-j-preserved : goal.loop-j-preserved
loop-j-preserved c = (
  c.loop-j.invariant.0,
  weighing-step c.args.f _ 65535 c.requires.wide.positive c.loop-j.j c.loop-j.sum c.loop-j.invariant.1
      (rw c.loop-j.invariant.0 at c.loop-j-test.true) (few c) _
      (ap₂ (λ (a b : ℕ). c.loop-j.sum + a * b) c.sample.ensures c.weight.ensures.0),
)

pub returns : goal.returns
returns c = weighing-done c.args.f _ 65535 c.requires.wide.positive c.loop-j.j c.loop-j.sum c.loop-j.invariant.1 (rw c.loop-j.invariant.0 at c.loop-j-test.false)
