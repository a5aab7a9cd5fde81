use Rattle.std.proofs.Common.{◌≡◌, ℕ, ◌+◌, ◌*◌, ◌/◌, ◌^◌, ◌<◌, ◌≤◌, sym, ap, ◌∙◌, subst, arith, lit<, le→leb}
use lib.Ieee.{in_float}
use lib.Ieee.Positive.{den, num}
use Rattle.fill.proofs.WholeLaws.{Plain, above_zero, answer-down, answer-top, answer-up, answer-zero, below_top, below-wide, ge-cross, half-value, lt-cross, part-is, part-lt, plain}
use Rattle.fill.proofs.samples.whole.Goals as goal
use Rattle.fill.proofs.samples.whole.Goals.{After-truncating_f64_to_u64-t, Then-x-top}

-- ---- what the first two tests say
wide : (c : Then-x-top) → c.args.top ≤ 2 ^ 53
wide c = omega (arith, c.ranges.top)

x-plain : (c : Then-x-top) → Plain c.args.x
x-plain c = plain _ c.args.top c.if-x.true c.if-x-top.true (wide c)

x_below : (c : Then-x-top) → num c.args.x < c.args.top * den c.args.x
x_below c = below_top _ _ (x-plain c) c.if-x-top.true (wide c)

-- the whole part
part : (c : After-truncating_f64_to_u64-t) → c.truncating_f64_to_u64-t.result ≡ num c.args.x / den c.args.x
part c = c.truncating_f64_to_u64-t.ensures ∙ part-is _ c.args.top (x-plain (goal.at.After-truncating_f64_to_u64-t c).Then-x-top) (x_below (goal.at.After-truncating_f64_to_u64-t c).Then-x-top) (omega (arith, c.ranges.top))

small : (c : After-truncating_f64_to_u64-t) → c.truncating_f64_to_u64-t.result < c.args.top
small c = subst (λ (k : ℕ). k < c.args.top) (sym (part c)) (part-lt c.args.x _ (x_below (goal.at.After-truncating_f64_to_u64-t c).Then-x-top))

pub truncating_f64_to_u64-t-requires : goal.truncating_f64_to_u64-t-requires
truncating_f64_to_u64-t-requires c = record {
  lower_bound = above_zero _ c.if-x.true;
  upper_bound = below-wide _ c.args.top (x-plain c) (x_below c) (omega (arith, c.ranges.top));
}

pub overflow_add-half : goal.overflow_add-half
overflow_add-half c = omega (arith, small c, c.ranges.top)

pub overflow_add-half-then-x-top : goal.overflow_add-half-then-x-top
overflow_add-half-then-x-top c = omega (arith, small c, c.ranges.top)

pub int_to_float-half : goal.int_to_float-half
unfolding in_float
int_to_float-half c = le→leb (c.truncating_f64_to_u64-t.result + c.truncating_f64_to_u64-t.result + 1) (2 ^ 53) (omega (arith, small (goal.at.int_to_float-half c).After-truncating_f64_to_u64-t, c.ranges.top))

pub overflow_cast-result : goal.overflow_cast-result
overflow_cast-result c = omega (arith, small (goal.at.overflow_cast-result c).After-truncating_f64_to_u64-t, c.ranges.top)

pub returns-then-x-half : goal.returns-then-x-half
returns-then-x-half c =
    let h : num c.args.x * 2 < (c.truncating_f64_to_u64-t.result + c.truncating_f64_to_u64-t.result + 1) * den c.args.x = lt-cross c.args.x _ (c.truncating_f64_to_u64-t.result + c.truncating_f64_to_u64-t.result + 1) 2 (x-plain (goal.at.returns-then-x-half c).Then-x-top) (lit< tt) (half-value (c.truncating_f64_to_u64-t.result + c.truncating_f64_to_u64-t.result + 1) (omega arith) (omega (arith, small (goal.at.returns-then-x-half c).After-truncating_f64_to_u64-t, c.ranges.top))) c.if-x-half.true in
    part (goal.at.returns-then-x-half c).After-truncating_f64_to_u64-t ∙ answer-down c.args.x c.args.top (x-plain (goal.at.returns-then-x-half c).Then-x-top) (x_below (goal.at.returns-then-x-half c).Then-x-top) (subst (λ (k : ℕ). num c.args.x * 2 < (k + k + 1) * den c.args.x) (part (goal.at.returns-then-x-half c).After-truncating_f64_to_u64-t) h)

pub overflow_cast-result-else-x-half : goal.overflow_cast-result-else-x-half
overflow_cast-result-else-x-half c = omega (arith, small (goal.at.overflow_cast-result-else-x-half c).After-truncating_f64_to_u64-t, c.ranges.top)

pub returns-else-x-half : goal.returns-else-x-half
returns-else-x-half c =
    let h : (c.truncating_f64_to_u64-t.result + c.truncating_f64_to_u64-t.result + 1) * den c.args.x ≤ num c.args.x * 2 = ge-cross c.args.x _ (c.truncating_f64_to_u64-t.result + c.truncating_f64_to_u64-t.result + 1) 2 (x-plain (goal.at.returns-else-x-half c).Then-x-top) (lit< tt) (half-value (c.truncating_f64_to_u64-t.result + c.truncating_f64_to_u64-t.result + 1) (omega arith) (omega (arith, small (goal.at.returns-else-x-half c).After-truncating_f64_to_u64-t, c.ranges.top))) c.if-x-half.false in
    ap (λ (k : ℕ). k + 1) (part (goal.at.returns-else-x-half c).After-truncating_f64_to_u64-t) ∙ answer-up c.args.x c.args.top (x-plain (goal.at.returns-else-x-half c).Then-x-top) (x_below (goal.at.returns-else-x-half c).Then-x-top) (subst (λ (k : ℕ). (k + k + 1) * den c.args.x ≤ num c.args.x * 2) (part (goal.at.returns-else-x-half c).After-truncating_f64_to_u64-t) h)

pub returns-else-x-top : goal.returns-else-x-top
returns-else-x-top c = answer-top _ _ c.if-x.true c.if-x-top.false (omega (arith, c.ranges.top))

pub returns-else-x : goal.returns-else-x
returns-else-x c = answer-zero c.args.x _ c.if-x.false
