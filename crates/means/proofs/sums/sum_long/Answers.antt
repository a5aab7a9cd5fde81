use mathlib.Core.Path.{◌∙◌, ◌≡◌, ap, sym}
use Prim.Native.Nat.{◌*◌, ◌+◌, ◌-◌, ◌/◌, ◌<◌, ◌^◌, ◌≤◌, ℕ}
use native.Mathlib.Nat.{zero-add}
use native.Mathlib.Omega.{arith}
use lib.ListN.{get_or, length}
use Rattle.laws.proofs.Order.{mul-below}
use Rattle.means.proofs.ColumnLaws.{first-in, foot-short, head-all, head-part, head-past, inner-past, inner-whole, tail_none, tail-part, tail-some, weighing-at}
use Rattle.sampling.proofs.FootLaws.{Weighing, weighing-done, weighing-fits, weighing-start, weighing-step}
use Rattle.sampling.specs.Area.{first_of, weight_of}
use Rattle.means.proofs.sums.sum_long.Goals as goal
use Rattle.means.proofs.sums.sum_long.Goals.{After-loop-j, After-shared_slice_known-1, Start}

few : (c : After-shared_slice_known-1) (x : ℕ) → get_or c.args.sums.now (x - c.args.first) 0 ≤ 2 ^ 32 - 1
few c x = omega (arith, c.type_inv.sums (x - c.args.first))

short : (c : Start) → (c.args.f.end - c.args.f.start) * (2 ^ 32 - 1) ≤ 256 * 1024 * (2 ^ 32 - 1)
short c = mul-below (256 * 1024) (2 ^ 32 - 1) (c.args.f.end - c.args.f.start) (2 ^ 32 - 1) (omega (arith, foot-short c.args.f c.args.first (length c.args.sums.now) c.requires.2 c.requires.3, c.requires.4)) (omega arith)

head-room : (c : Start) → (c.args.first ≤ c.args.f.start / 256) × (c.args.f.start / 256 < c.args.first + length c.args.sums.now)
unfolding first_of
head-room c = (c.requires.2, omega (arith, first-in c.args.f c.requires.0, c.requires.3))

headed : (c : After-shared_slice_known-1) (acc : ℕ)
    → acc ≡ get_or c.args.sums.now (c.args.f.start / 256 - c.args.first) 0 * weight_of c.args.f (first_of c.args.f)
    → Weighing c.args.f (λ x. get_or c.args.sums.now (x - c.args.first) 0) (2 ^ 32 - 1) (c.args.f.start / 256 + 1) acc
unfolding first_of
headed c acc e =
    weighing-step c.args.f (λ x. get_or c.args.sums.now (x - c.args.first) 0) (2 ^ 32 - 1) c.requires.0
    (first_of c.args.f) 0 (weighing-start c.args.f _ (2 ^ 32 - 1) c.requires.0) (first-in c.args.f c.requires.0)
    (few c _) acc (e ∙ sym (zero-add _))

tailed : (c : After-loop-j) → Weighing c.args.f (λ x. get_or c.args.sums.now (x - c.args.first) 0) (2 ^ 32 - 1) (c.args.f.end / 256) c.loop-j.sum
tailed c =
    weighing-at c.args.f (λ x. get_or c.args.sums.now (x - c.args.first) 0) (2 ^ 32 - 1) c.loop-j.j (c.args.f.end / 256) c.loop-j.sum (omega (arith, c.loop-j.invariant.1, c.loop-j-test.false)) c.loop-j.invariant.2

pub overflow_sub-head : goal.overflow_sub-head
overflow_sub-head c = (head-room (goal.at.overflow_sub-head c).Start).0

pub bounds-sums-from : goal.bounds-sums-from
bounds-sums-from c = omega (arith, head-room (goal.at.bounds-sums-from c).Start)

pub returns-then-f-edge : goal.returns-then-f-edge
unfolding first_of
returns-then-f-edge c =
    (weighing-done c.args.f _ (2 ^ 32 - 1) c.requires.0 _ _
    (headed (goal.at.returns-then-f-edge c).After-shared_slice_known-1 _
    (ap (λ (w : ℕ). get_or c.args.sums.now (c.args.f.start / 256 - c.args.first) 0 * w)
    (sym (head-all c.args.f c.if-f-edge.true))))
    (head-past c.args.f c.if-f-edge.true)).0

pub loop-j-init : goal.loop-j-init
loop-j-init c =
    (omega arith, omega (arith, c.if-f-edge.false), headed (goal.at.loop-j-init c).After-shared_slice_known-1 _ (ap (λ (w : ℕ). get_or c.args.sums.now (c.args.f.start / 256 - c.args.first) 0 * w) (sym (head-part c.args.f c.if-f-edge.false))))

pub bounds-sums-j : goal.bounds-sums-j
bounds-sums-j c =
    omega (arith, (head-room (goal.at.bounds-sums-j c).Start).0, c.loop-j.invariant.0, inner-past c.args.f c.loop-j.j c.loop-j-test.true, c.requires.3)

pub overflow_add-sum : goal.overflow_add-sum
overflow_add-sum c =
    omega (
      arith,
      short (goal.at.overflow_add-sum c).Start,
      weighing-fits c.args.f (λ x. get_or c.args.sums.now (x - c.args.first) 0) (2 ^ 32 - 1) c.requires.0 c.loop-j.j
          c.loop-j.sum c.loop-j.invariant.2 (inner-past c.args.f c.loop-j.j c.loop-j-test.true) (few (goal.at.overflow_add-sum c).After-shared_slice_known-1 c.loop-j.j),
      ap (λ (w : ℕ). get_or c.args.sums.now (c.loop-j.j - c.args.first) 0 * w)
          (inner-whole c.args.f c.loop-j.j c.loop-j.invariant.0 c.loop-j-test.true),
    )

pub loop-j-preserved : goal.loop-j-preserved
loop-j-preserved c = (
  omega (arith, c.loop-j.invariant.0),
  omega (arith, c.loop-j-test.true),
  weighing-step c.args.f (λ x. get_or c.args.sums.now (x - c.args.first) 0) (2 ^ 32 - 1) c.requires.0 c.loop-j.j
      c.loop-j.sum c.loop-j.invariant.2 (inner-past c.args.f c.loop-j.j c.loop-j-test.true) (few (goal.at.loop-j-preserved c).After-shared_slice_known-1 c.loop-j.j) _
      (ap (λ (w : ℕ). c.loop-j.sum + get_or c.args.sums.now (c.loop-j.j - c.args.first) 0 * w)
      (sym (inner-whole c.args.f c.loop-j.j c.loop-j.invariant.0 c.loop-j-test.true))),
)

pub returns-then-tail-eq0 : goal.returns-then-tail-eq0
returns-then-tail-eq0 c =
    (weighing-done c.args.f _ (2 ^ 32 - 1) c.requires.0 _ _ (tailed (goal.at.returns-then-tail-eq0 c).After-loop-j) (tail_none c.args.f c.if-tail-eq0.true)).0

pub bounds-sums-last : goal.bounds-sums-last
bounds-sums-last c =
    omega (arith, (head-room (goal.at.bounds-sums-last c).Start).0, c.loop-j.invariant.0, c.loop-j.invariant.1, (tail-some c.args.f c.if-tail-eq0.false).0, c.requires.3)

pub overflow_add-result : goal.overflow_add-result
overflow_add-result c =
    omega (
      arith,
      short (goal.at.overflow_add-result c).Start,
      weighing-fits c.args.f (λ x. get_or c.args.sums.now (x - c.args.first) 0) (2 ^ 32 - 1) c.requires.0
          (c.args.f.end / 256) c.loop-j.sum (tailed (goal.at.overflow_add-result c).After-loop-j) (tail-some c.args.f c.if-tail-eq0.false).0
          (few (goal.at.overflow_add-result c).After-shared_slice_known-1 (c.args.f.end / 256)),
      ap (λ (w : ℕ). get_or c.args.sums.now (c.args.f.end / 256 - c.args.first) 0 * w)
          (tail-part c.args.f (omega (arith, c.loop-j.invariant.0, c.loop-j.invariant.1))),
    )

pub returns : goal.returns
returns c =
    (weighing-done c.args.f _ (2 ^ 32 - 1) c.requires.0 _ _
    (weighing-step c.args.f (λ x. get_or c.args.sums.now (x - c.args.first) 0) (2 ^ 32 - 1) c.requires.0
    (c.args.f.end / 256) c.loop-j.sum (tailed (goal.at.returns c).After-loop-j) (tail-some c.args.f c.if-tail-eq0.false).0
    (few (goal.at.returns c).After-shared_slice_known-1 (c.args.f.end / 256)) _
    (ap (λ (w : ℕ). c.loop-j.sum + get_or c.args.sums.now (c.args.f.end / 256 - c.args.first) 0 * w)
    (sym (tail-part c.args.f (omega (arith, c.loop-j.invariant.0, c.loop-j.invariant.1))))))
    (tail-some c.args.f c.if-tail-eq0.false).1).0
