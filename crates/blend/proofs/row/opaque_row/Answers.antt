use mathlib.Core.Path.{◌∙◌, ◌≡◌, ap, refl}
use Prim.Native.Nat.{◌*◌, ◌+◌, ◌≤◌, min, ℕ}
use native.Mathlib.Omega.{arith}
use lib.ListN.{length-set}
use Rattle.laws.proofs.Order.{mul-below}
use Rattle.planes.specs.Bytes.{sample_in}
use Rattle.inputs.proofs.BlendLaws.{sample-product}
use Rattle.blend.proofs.RowLaws.{laid_more, laid_none}
use Rattle.blend.proofs.row.opaque_row.Given.{Over}
use Rattle.blend.proofs.row.opaque_row.Goals as goal
use Rattle.blend.proofs.row.opaque_row.Goals.{In-loop-i, Start}

few : (g : Over) (c : Start g) → (1 ≤ g.row.BYTES) × (g.row.BYTES ≤ 2)
few g c = (c.requires.2, c.requires.3)

-- what is laid of sample i
abbrev laid : (g : Over) → Start g → ℕ → ℕ → ℕ
laid g c i v = min (sample_in c.args.plane.now g.row.BYTES c.args.stride (c.args.x + i) c.args.y * c.args.top) (c.args.top * c.args.top)

pub loop-i-init : goal.loop-i-init
loop-i-init g c = (refl, laid_none c.args.acc.now c.args.k (laid g (goal.at.loop-i-init g c).Start))

pub overflow_add-x : goal.overflow_add-x
overflow_add-x g c =
    omega (arith, c.requires.1.inside c.loop-i.i c.loop-i-test.true, mul-below (c.args.x + c.loop-i.i) g.row.BYTES (c.args.x + c.loop-i.i) 1 (omega arith) (few g (goal.at.overflow_add-x g c).Start).0)

pub sample-m-requires : goal.sample-m-requires
sample-m-requires g c =
    let b = few g (goal.at.sample-m-requires g c).Start in (b.0, b.1, c.requires.1.inside c.loop-i.i c.loop-i-test.true)

pub overflow_mul-most : goal.overflow_mul-most
overflow_mul-most g c = omega (arith, sample-product c.args.top c.args.top (omega arith) (omega arith))

pub overflow_mul-m : goal.overflow_mul-m
overflow_mul-m g c = omega (arith, sample-product c.sample-m.result c.args.top (omega arith) (omega arith))

pub overflow_add-acc : goal.overflow_add-acc
overflow_add-acc g c = omega (arith, c.requires.0, c.loop-i-test.true, c.loop-i.invariant.0)

pub bounds-acc-k : goal.bounds-acc-k
bounds-acc-k g c = omega (arith, c.requires.0, c.loop-i-test.true, c.loop-i.invariant.0)

pub loop-i-preserved : goal.loop-i-preserved
loop-i-preserved g c = (
  length-set c.loop-i.acc (c.args.k + c.loop-i.i) c.min.result ∙ c.loop-i.invariant.0,
  laid_more c.args.acc.now c.args.k (laid g (goal.at.loop-i-preserved g c).Start) c.loop-i.acc c.loop-i.i c.loop-i.invariant.1 c.min.result
      (omega (arith, c.requires.0, c.loop-i-test.true, c.loop-i.invariant.0))
      (c.min.ensures ∙ ap (λ (m : ℕ). min (m * c.args.top) (c.args.top * c.args.top)) c.sample-m.ensures),
)

pub returns : goal.returns
returns g c =
    let e : c.loop-i.i ≡ c.args.n = omega (arith, c.loop-i-test.false) in rw e at c.loop-i.invariant.1
