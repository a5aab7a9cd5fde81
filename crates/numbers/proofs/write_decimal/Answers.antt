use Rattle.laws.proofs.Puts.{puts-front, length-puts}
use native.Mathlib.Omega.{arith}
use Rattle.numbers.proofs.Decimal.{onto-last, onto-more, length_digits}
use Rattle.numbers.specs.Decimal.{decimal}
use lib.ListN.{length}
use Prim.Native.Nat.{◌+◌, ◌-◌, ◌≤◌}
use mathlib.Core.Path.{◌≡◌, ap, ◌∙◌}
use Rattle.numbers.proofs.write_decimal.Goals as goal
use Rattle.numbers.proofs.write_decimal.Goals.{At-loop-rest}

-- the place of the next digit is inside
module _ (c : At-loop-rest) where
  inside : (1 ≤ c.loop-rest.i) × (c.loop-rest.i ≤ length c.loop-rest.out) × (length c.loop-rest.out ≡ length c.args.out.now)
  inside =
      let l = length_digits 19 c.loop-rest.rest c.loop-rest.invariant.0 in
      let e = ap length c.loop-rest.invariant.2 in
      let k : length c.loop-rest.out ≡ length c.args.out.now = ap length c.loop-rest.invariant.4 ∙ simp length-puts in
      let p : c.args.at + length (decimal c.args.n) ≤ length c.args.out.now = c.requires in
      (omega arith, omega arith, k)

pub overflow_sub-i : goal.overflow_sub-i
overflow_sub-i c = omega (arith, inside (goal.at.overflow_sub-i c).At-loop-rest)

pub bounds-out-i : goal.bounds-out-i
bounds-out-i c = omega (arith, inside (goal.at.bounds-out-i c).At-loop-rest)

pub loop-rest-preserved : goal.loop-rest-preserved
loop-rest-preserved c = (_, omega arith, c.loop-rest.invariant.2 ∙ onto-more c.loop-rest.rest c.loop-rest.invariant.0 c.loop-rest-test.true c.loop-rest.invariant.1, omega (arith, inside (goal.at.loop-rest-preserved c).At-loop-rest), puts-front _ _ _ _ _ (inside (goal.at.loop-rest-preserved c).At-loop-rest).0 c.loop-rest.invariant.4)

pub overflow_sub-i-2 : goal.overflow_sub-i-2
overflow_sub-i-2 c = omega (arith, inside (goal.at.overflow_sub-i-2 c).At-loop-rest)

pub bounds-out-i-2 : goal.bounds-out-i-2
bounds-out-i-2 c = omega (arith, inside (goal.at.bounds-out-i-2 c).At-loop-rest)

pub returns : goal.returns
returns c =
    let e : decimal c.args.n ≡ _ = c.loop-rest.invariant.2 ∙ onto-last c.loop-rest.rest c.loop-rest.invariant.0 c.loop-rest-test.false in
    let l = ap length e in
    let p : c.loop-rest.i - 1 ≡ c.args.at = omega arith in
    (omega (arith, c.decimal_length.ensures.0), puts-front _ _ _ _ _ (inside (goal.at.returns c).At-loop-rest).0 c.loop-rest.invariant.4 ∙ rw (e, p))
