use mathlib.Core.Path.{◌≡◌, sym, ◌∙◌}
use Prim.Native.Nat.{ℕ, ◌+◌, ◌-◌, ◌*◌, ◌^◌, ◌≤◌}
use native.Mathlib.Nat.{mul-le-mul_right}
use lib.ListN.{get_or}
use Rattle.numbers.proofs.Number.{read-end, read_low, read-large, read-last, read_more, read_none, weight-small, weight-next}
use native.Mathlib.Omega.{arith}
use Rattle.numbers.proofs.read_groups.Goals as goal
use Rattle.numbers.proofs.read_groups.Goals.{Else-i-s}

-- what is known of the group that is read
module _ (c : Else-i-s) where
  abbrev b : ℕ
  b = get_or c.args.s.now (c.args.at + c.loop-k.k) 0

  small : (c.loop-k.weight ≤ 2 ^ 28) × (b ≤ 255)
  small =
      let l : c.loop-k.weight ≤ 2 ^ 28 = rw c.loop-k.invariant.1 (weight-small c.loop-k.k (omega arith)) in
      (l, omega (arith, c.type_inv.s (c.args.at + c.loop-k.k)))

  product : (x : ℕ) → x ≤ 127 → x * c.loop-k.weight ≤ 127 * c.loop-k.weight
  product x h = mul-le-mul_right c.loop-k.weight h

pub returns-then-i-s : goal.returns-then-i-s
returns-then-i-s c = sym (c.loop-k.invariant.3 ∙ read-end _ _ _ _ _ _ (omega arith) c.if-i-s.true)

pub returns-then-b-least : goal.returns-then-b-least
returns-then-b-least c = sym (c.loop-k.invariant.3 ∙ read_low _ _ _ _ _ _ (omega arith) c.if-i-s.false c.if-b-lt128.true c.if-b-least.true)

pub overflow_mul-v : goal.overflow_mul-v
overflow_mul-v c = let h = (goal.at.overflow_mul-v c).Else-i-s in omega (arith, small h, product h (b h) (omega arith))

pub overflow_add-v : goal.overflow_add-v
overflow_add-v c = let h = (goal.at.overflow_add-v c).Else-i-s in omega (arith, small h, product h (b h) (omega arith))

pub returns-then-v-ge4294967296 : goal.returns-then-v-ge4294967296
returns-then-v-ge4294967296 c = sym (c.loop-k.invariant.3 ∙ read-large _ _ _ _ _ _ (omega arith) c.if-i-s.false c.if-b-lt128.true c.if-b-least.false c.if-v-ge4294967296.true)

pub returns-then-b-lt128 : goal.returns-then-b-lt128
returns-then-b-lt128 c = sym (c.loop-k.invariant.3 ∙ read-last _ _ _ _ _ _ (omega arith) c.if-i-s.false c.if-b-lt128.true c.if-b-least.false c.if-v-ge4294967296.false)

pub overflow_mul-value : goal.overflow_mul-value
overflow_mul-value c = let h = (goal.at.overflow_mul-value c).Else-i-s in omega (arith, small h, product h (b h - 128) (omega (arith, small h)))

pub overflow_add-value : goal.overflow_add-value
overflow_add-value c = let h = (goal.at.overflow_add-value c).Else-i-s in omega (arith, small h, product h (b h - 128) (omega (arith, small h)))

pub overflow_mul-weight : goal.overflow_mul-weight
overflow_mul-weight c = omega (arith, small (goal.at.overflow_mul-weight c).Else-i-s)

pub loop-k-preserved : goal.loop-k-preserved
loop-k-preserved c =
    let h = (goal.at.loop-k-preserved c).Else-i-s in
    let left : 5 - c.loop-k.k - 1 ≡ 5 - (c.loop-k.k + 1) = omega arith in
    let next : c.args.at + c.loop-k.k + 1 ≡ c.args.at + (c.loop-k.k + 1) = omega arith in (
      λ p. omega arith,
      rw c.loop-k.invariant.1 (weight-next c.loop-k.k),
      omega (arith, small h, product h (b h - 128) (omega (arith, small h))),
      rw (← left, ← next) (c.loop-k.invariant.3 ∙ read_more _ _ _ _ _ _ (omega arith) c.if-i-s.false c.if-b-lt128.false),
    )

pub returns : goal.returns
returns c = let e : 5 - c.loop-k.k ≡ 0 = omega arith in sym (c.loop-k.invariant.3 ∙ rw e (read_none _ _ _ _ _))
