use mathlib.Core.Path.{◌≡◌, ap, ap₂, refl}
use Prim.Native.Nat.{◌*◌, ◌+◌, ◌-◌, ◌<◌, ◌^◌, ◌≤◌, ℕ}
use native.Mathlib.Omega.{arith}
use borrow.Author.Rules.{Fits-under}
use Rattle.planes.specs.Bytes.{sample_in}
use Rattle.sampling.proofs.FootLaws.{mean-small, sum-whole, weighing-done, weighing-fits, weighing-start, weighing-step, whole-small}
use Rattle.sampling.proofs.RedrawLaws.{row-sum-fits}
use Rattle.sampling.specs.Area.{area_mean, first_of, past_of, weighed}
use Rattle.sampling.specs.Rounded.{rounded}
use Rattle.sampling.proofs.area.area_sample.Goals as goal
use Rattle.sampling.proofs.area.area_sample.Goals.{After-loop-j, After-row_sum, In-loop-j, Start}

whole : (c : Start) → (1 ≤ (c.args.across.end - c.args.across.start) * (c.args.down.end - c.args.down.start)) × ((c.args.across.end - c.args.across.start) * (c.args.down.end - c.args.down.start) ≤ 2 ^ 46)
whole c = whole-small c.args.across c.args.down _ _ c.requires.wide c.requires.tall c.requires.size

abbrev row_of : (c : Start) → ℕ → ℕ
row_of c y = weighed c.args.across (λ x. sample_in c.args.plane.now c.args.bytes c.args.stride x y)

left : (c : In-loop-j) → c.loop-j.j < past_of c.args.down
left c = rw c.loop-j.invariant.0 at c.loop-j-test.true

few : (c : After-row_sum) → row_of (goal.at.After-row_sum c).Start c.loop-j.j ≤ (c.args.across.end - c.args.across.start) * 65535
few c = rw (← c.row_sum.ensures.0) c.row_sum.ensures.1

total : (c : After-loop-j)
    → (c.loop-j.sum ≡ weighed c.args.down (row_of (goal.at.After-loop-j c).Start))
    × (c.loop-j.sum ≤ 65535 * ((c.args.across.end - c.args.across.start) * (c.args.down.end - c.args.down.start)))
total c =
    let w = weighing-done c.args.down (row_of (goal.at.After-loop-j c).Start) ((c.args.across.end - c.args.across.start) * 65535) c.requires.tall.positive
    c.loop-j.j c.loop-j.sum c.loop-j.invariant.1 (rw c.loop-j.invariant.0 at c.loop-j-test.false) in (
      w.0,
      sum-whole c.loop-j.sum (c.args.across.end - c.args.across.start) (c.args.down.end - c.args.down.start)
          w.1,
    )

pub loop-j-init : goal.loop-j-init
unfolding first_of past_of
loop-j-init c = (refl, weighing-start c.args.down _ _ c.requires.tall.positive)

pub row_sum-requires : goal.row_sum-requires
row_sum-requires c = row-sum-fits _ _ _ _ c.args.down _ c.requires (left c)

pub overflow_add-sum : goal.overflow_add-sum
overflow_add-sum c =
    let f = weighing-fits c.args.down (row_of (goal.at.overflow_add-sum c).Start) ((c.args.across.end - c.args.across.start) * 65535) c.requires.tall.positive
    c.loop-j.j c.loop-j.sum c.loop-j.invariant.1 (left (goal.at.overflow_add-sum c).In-loop-j)
    (few (goal.at.overflow_add-sum c).After-row_sum) in
    let n = sum-whole _ (c.args.across.end - c.args.across.start) (c.args.down.end - c.args.down.start) f in
    omega (arith, n, (whole (goal.at.overflow_add-sum c).Start).1, ap₂ (λ (a b : ℕ). a * b) c.row_sum.ensures.0 c.weight.ensures.0)

pub loop-j-preserved : goal.loop-j-preserved
loop-j-preserved c = (
  c.loop-j.invariant.0,
  weighing-step c.args.down (row_of (goal.at.loop-j-preserved c).Start) ((c.args.across.end - c.args.across.start) * 65535) c.requires.tall.positive
      c.loop-j.j c.loop-j.sum c.loop-j.invariant.1 (left (goal.at.loop-j-preserved c).In-loop-j) (few (goal.at.loop-j-preserved c).After-row_sum) _
      (ap₂ (λ (a b : ℕ). c.loop-j.sum + a * b) c.row_sum.ensures.0 c.weight.ensures.0),
)

pub overflow_mul-whole : goal.overflow_mul-whole
overflow_mul-whole c = omega (arith, (whole (goal.at.overflow_mul-whole c).Start).1)

pub overflow_add-result : goal.overflow_add-result
overflow_add-result c = omega (arith, (whole (goal.at.overflow_add-result c).Start).1, (total (goal.at.overflow_add-result c).After-loop-j).1)

pub overflow_cast-result : goal.overflow_cast-result
overflow_cast-result c = Fits-under _ _ 65536 (mean-small _ _ _ (omega (arith, (whole (goal.at.overflow_cast-result c).Start).0)) (total (goal.at.overflow_cast-result c).After-loop-j).1) tt

pub returns : goal.returns
unfolding area_mean rounded
returns c =
    ap (λ (n : ℕ). rounded n ((c.args.across.end - c.args.across.start) * (c.args.down.end - c.args.down.start)))
    (total (goal.at.returns c).After-loop-j).0
