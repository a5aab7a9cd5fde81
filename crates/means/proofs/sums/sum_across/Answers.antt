use mathlib.Core.Path.{◌∙◌, ap, sym}
use Prim.Native.Nat.{◌*◌, ◌+◌, ◌-◌, ◌/◌, ◌<◌, ◌^◌, ◌≤◌, ℕ}
use native.Mathlib.Nat.{zero-add}
use native.Mathlib.Omega.{arith}
use lib.ListN.{get_or, length}
use Rattle.means.proofs.ColumnLaws.{first-in, head-part, second-part, second_past}
use Rattle.sampling.proofs.FootLaws.{Weighing, weighing-done, weighing-start, weighing-step}
use Rattle.sampling.specs.Area.{first_of}
use Rattle.means.proofs.sums.sum_across.Goals as goal
use Rattle.means.proofs.sums.sum_across.Goals.{After-shared_slice_known-1, Start, Then-f-edge}

few : (c : After-shared_slice_known-1) (i : ℕ) → get_or c.args.sums.now i 0 ≤ 2 ^ 32 - 1
few c i = omega (arith, c.type_inv.sums i)

head-room : (c : Start) → c.args.first ≤ c.args.f.start / 256
unfolding first_of
head-room c = c.requires.2

room : (c : Then-f-edge) → c.args.f.start / 256 + 1 < c.args.first + length c.args.sums.now
room c =
    omega (arith, (second_past c.args.f c.if-edge-f.true c.if-f-edge.true).0, c.requires.3)

headed : (c : Then-f-edge)
    → Weighing c.args.f (λ x. get_or c.args.sums.now (x - c.args.first) 0) (2 ^ 32 - 1) (c.args.f.start / 256 + 1)
    (get_or c.args.sums.now (c.args.f.start / 256 - c.args.first) 0
    * (256 * (c.args.f.start / 256) + 256 - c.args.f.start))
unfolding first_of
headed c =
    weighing-step c.args.f (λ x. get_or c.args.sums.now (x - c.args.first) 0) (2 ^ 32 - 1) c.requires.0
    (first_of c.args.f) 0 (weighing-start c.args.f _ (2 ^ 32 - 1) c.requires.0) (first-in c.args.f c.requires.0)
    (few (goal.at.Then-f-edge c).After-shared_slice_known-1 _) _
    (ap (λ (w : ℕ). get_or c.args.sums.now (c.args.f.start / 256 - c.args.first) 0 * w)
    (sym (head-part c.args.f c.if-edge-f.true))
    ∙ sym (zero-add _))

pub overflow_sub-head : goal.overflow_sub-head
overflow_sub-head c =
    head-room (goal.at.overflow_sub-head c).Start

pub bounds-sums-from : goal.bounds-sums-from
bounds-sums-from c =
    omega (arith, head-room (goal.at.bounds-sums-from c).Start, room (goal.at.bounds-sums-from c).Then-f-edge)

pub overflow_sub-next : goal.overflow_sub-next
overflow_sub-next c =
    omega (arith, head-room (goal.at.overflow_sub-next c).Start)

pub bounds-sums-from-then-f-edge : goal.bounds-sums-from-then-f-edge
bounds-sums-from-then-f-edge c =
    omega (arith, head-room (goal.at.bounds-sums-from-then-f-edge c).Start, room (goal.at.bounds-sums-from-then-f-edge c).Then-f-edge)

pub returns-then-f-edge : goal.returns-then-f-edge
returns-then-f-edge c =
    (weighing-done c.args.f _ (2 ^ 32 - 1) c.requires.0 _ _
    (weighing-step c.args.f (λ x. get_or c.args.sums.now (x - c.args.first) 0) (2 ^ 32 - 1) c.requires.0
    (c.args.f.start / 256 + 1) _ (headed (goal.at.returns-then-f-edge c).Then-f-edge) (second_past c.args.f c.if-edge-f.true c.if-f-edge.true).0
    (few (goal.at.returns-then-f-edge c).After-shared_slice_known-1 _) _
    (ap (λ (w : ℕ).
    get_or c.args.sums.now (c.args.f.start / 256 - c.args.first) 0
    * (256 * (c.args.f.start / 256) + 256 - c.args.f.start)
    + get_or c.args.sums.now (c.args.f.start / 256 + 1 - c.args.first) 0 * w)
    (sym (second-part c.args.f c.if-edge-f.true c.if-f-edge.true))))
    (second_past c.args.f c.if-edge-f.true c.if-f-edge.true).1).0
