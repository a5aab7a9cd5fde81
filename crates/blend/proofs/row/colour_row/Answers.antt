use mathlib.Core.Path.{◌∙◌, ◌≡◌, ap₂, refl}
use Prim.Native.Nat.{◌+◌, ◌≤◌, ℕ}
use native.Mathlib.Omega.{arith}
use lib.ListN.{get_or, length-set}
use Rattle.laws.proofs.Order.{mul-below}
use Rattle.laws.specs.Puts.{Bytes}
use Rattle.planes.specs.Bytes.{sample_in}
use Rattle.blend.proofs.RowLaws.{depth-bytes, laid-held, laid_more, laid_none, sample-low}
use Rattle.blend.specs.Overlay.{over_colour}
use Rattle.blend.proofs.row.colour_row.Given.{Over}
use Rattle.blend.proofs.row.colour_row.Goals as goal
use Rattle.blend.proofs.row.colour_row.Goals.{In-loop-i, Start}

few : (g : Over) (c : Start g) → (1 ≤ g.row.BYTES) × (g.row.BYTES ≤ 2)
few g c = depth-bytes c.args.d g.row.BYTES c.requires.5

-- what is laid of sample i
abbrev laid : (g : Over) → Start g → ℕ → ℕ → ℕ
laid g c i v = over_colour c.args.top (sample_in c.args.plane.now g.row.BYTES c.args.stride (c.args.x + i) c.args.y) (sample_in c.args.alpha.now g.row.BYTES c.args.alpha_stride (c.args.x + i) c.args.y) c.args.premultiplied v

pub loop-i-init : goal.loop-i-init
loop-i-init g c = (refl, laid_none c.args.acc.now c.args.k (laid g (goal.at.loop-i-init g c).Start))

pub overflow_add-x : goal.overflow_add-x
overflow_add-x g c =
    omega (arith, c.requires.1.inside c.loop-i.i c.loop-i-test.true, mul-below (c.args.x + c.loop-i.i) g.row.BYTES (c.args.x + c.loop-i.i) 1 (omega arith) (few g (goal.at.overflow_add-x g c).Start).0)

pub sample-m-requires : goal.sample-m-requires
sample-m-requires g c =
    let b = few g (goal.at.sample-m-requires g c).Start in (b.0, b.1, c.requires.1.inside c.loop-i.i c.loop-i-test.true)

pub overflow_add-x-in-loop-i : goal.overflow_add-x-in-loop-i
overflow_add-x-in-loop-i g c =
    omega (arith, c.requires.2.inside c.loop-i.i c.loop-i-test.true, mul-below (c.args.x + c.loop-i.i) g.row.BYTES (c.args.x + c.loop-i.i) 1 (omega arith) (few g (goal.at.overflow_add-x-in-loop-i g c).Start).0)

pub sample-a-requires : goal.sample-a-requires
sample-a-requires g c =
    let b = few g (goal.at.sample-a-requires g c).Start in (b.0, b.1, c.requires.2.inside c.loop-i.i c.loop-i-test.true)

pub overflow_add-at : goal.overflow_add-at
overflow_add-at g c = omega (arith, c.requires.0.bounded, c.loop-i-test.true, c.loop-i.invariant.0)

pub bounds-acc-at : goal.bounds-acc-at
bounds-acc-at g c = omega (arith, c.requires.0.bounded, c.loop-i-test.true, c.loop-i.invariant.0)

pub sample_colour-requires : goal.sample_colour-requires
unfolding Bytes
sample_colour-requires g c =
    let b = few g (goal.at.sample_colour-requires g c).Start in (
      c.requires.3,
      c.requires.4,
      c.requires.5,
      rw c.sample-m.ensures (sample-low _ _ _ _ _ (λ i. omega (arith, c.type_inv.plane i)) b.0 b.1),
      rw c.sample-a.ensures (sample-low _ _ _ _ _ (λ i. omega (arith, c.type_inv.alpha i)) b.0 b.1),
      laid-held c.args.acc.now c.args.k (laid g (goal.at.sample_colour-requires g c).Start) c.loop-i.acc c.loop-i.i c.loop-i.invariant.1 c.args.top _ c.requires.0 c.loop-i-test.true,
    )

pub loop-i-preserved : goal.loop-i-preserved
loop-i-preserved g c = (
  length-set c.loop-i.acc (c.args.k + c.loop-i.i) c.sample_colour.result ∙ c.loop-i.invariant.0,
  laid_more c.args.acc.now c.args.k (laid g (goal.at.loop-i-preserved g c).Start) c.loop-i.acc c.loop-i.i c.loop-i.invariant.1 c.sample_colour.result
      (omega (arith, c.requires.0.bounded, c.loop-i-test.true, c.loop-i.invariant.0))
      (c.sample_colour.ensures ∙ ap₂ (λ (m a : ℕ). over_colour c.args.top m a c.args.premultiplied (get_or c.loop-i.acc (c.args.k + c.loop-i.i) 0)) c.sample-m.ensures c.sample-a.ensures),
)

pub returns : goal.returns
returns g c =
    let e : c.loop-i.i ≡ c.args.n = omega (arith, c.loop-i-test.false) in rw e at c.loop-i.invariant.1
