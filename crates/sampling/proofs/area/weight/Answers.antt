use mathlib.Core.Path.{ap₂}
use Prim.Native.Nat.{◌-◌, ℕ}
use native.Mathlib.Omega.{arith}
use Rattle.sampling.proofs.FootLaws.{touched, weight-le, weight-some}
use Rattle.sampling.specs.Area.{weight_of}
use Rattle.sampling.proofs.area.weight.Goals as goal

pub overflow_mul-j : goal.overflow_mul-j
overflow_mul-j c = let t = touched c.args.f c.args.j c.requires.2 c.requires.3 in omega (arith, t.0, c.requires.1)

pub overflow_add-j : goal.overflow_add-j
overflow_add-j c = let t = touched c.args.f c.args.j c.requires.2 c.requires.3 in omega (arith, t.0, c.requires.1)

pub overflow_mul-j-2 : goal.overflow_mul-j-2
overflow_mul-j-2 c = let t = touched c.args.f c.args.j c.requires.2 c.requires.3 in omega (arith, t.0, c.requires.1)

pub overflow_sub-result : goal.overflow_sub-result
overflow_sub-result c = rw (c.min.ensures, c.max.ensures) (weight-some c.args.f c.args.j c.requires.0 c.requires.2 c.requires.3)

pub returns : goal.returns
unfolding weight_of
returns c = (ap₂ (λ (a b : ℕ). a - b) c.min.ensures c.max.ensures, rw (c.min.ensures, c.max.ensures) (weight-le c.args.f c.args.j c.requires.0 c.requires.2 c.requires.3))
