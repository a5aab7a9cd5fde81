use mathlib.Core.Path.{◌∙◌, ◌≡◌, ap, refl, sym}
use Prim.Native.Nat.{◌*◌, ◌+◌, ◌-◌, ◌<◌, ◌^◌, ◌≤◌, ℕ}
use native.Mathlib.Nat.{mul-le-mul_right}
use native.Mathlib.Omega.{arith}
use lib.ListN.{get_or, length-set}
use Rattle.laws.proofs.Order.{pick-false, within, within_none}
use Rattle.laws.specs.Pick.{pick}
use Rattle.blend.proofs.StripeLaws.{stored_more}
use Rattle.blend.specs.inner.Stripe.{row_over}
use Rattle.blend.proofs.over.over_row_each.Goals as goal
use Rattle.blend.proofs.over.over_row_each.Goals.{After-loop-i, After-over, In-loop-i}

walked : (c : In-loop-i)
    → (c.loop-i.i * c.args.step ≤ c.args.n * c.args.step) × (c.args.x + c.args.n * c.args.step < 2 ^ 40)
walked c = (mul-le-mul_right c.args.step (omega (arith, c.loop-i-test.true)), c.requires.small)

ended : (c : After-loop-i) → c.loop-i.i ≡ c.args.n
ended c = omega (arith, c.loop-i-test.false)

next : (c : After-over)
    → c.over.result
    ≡ row_over c.args.plane.now c.args.alpha.now c.args.s
    (c.args.x + (c.args.k + c.loop-i.i - c.args.k) * c.args.step) c.args.y
    (get_or c.loop-i.acc (c.args.k + c.loop-i.i) 0)
unfolding row_over
next c =
    let z : c.args.k + c.loop-i.i - c.args.k ≡ c.loop-i.i = omega arith in
    rw (z, ← c.promoted-m.ensures, ← c.source_alpha-a.ensures) c.over.ensures

pub loop-i-init : goal.loop-i-init
loop-i-init c = (refl, λ j. sym (pick-false _ _ _ (within_none c.args.k j)))

pub overflow_mul-u : goal.overflow_mul-u
overflow_mul-u c = omega (arith, walked c)

pub overflow_add-u : goal.overflow_add-u
overflow_add-u c = omega (arith, walked c)

pub promoted-m-requires : goal.promoted-m-requires
promoted-m-requires c = c.requires.inside c.loop-i.i c.loop-i-test.true

pub source_alpha-a-requires : goal.source_alpha-a-requires
source_alpha-a-requires c = c.requires.alphas c.loop-i.i c.loop-i-test.true

pub overflow_add-at : goal.overflow_add-at
overflow_add-at c = omega (arith, c.requires.bounded, c.loop-i-test.true, c.loop-i.invariant.0)

pub bounds-acc-at : goal.bounds-acc-at
bounds-acc-at c = omega (arith, c.requires.bounded, c.loop-i-test.true, c.loop-i.invariant.0)

pub over-requires : goal.over-requires
over-requires c = c.requires.positive

pub loop-i-preserved : goal.loop-i-preserved
loop-i-preserved c = (
  length-set c.loop-i.acc (c.args.k + c.loop-i.i) c.over.result ∙ c.loop-i.invariant.0,
  stored_more c.args.acc.now c.loop-i.acc c.args.k c.loop-i.i c.over.result
      (λ j v. row_over c.args.plane.now c.args.alpha.now c.args.s
      (c.args.x + (j - c.args.k) * c.args.step) c.args.y v)
      (omega (arith, c.requires.bounded, c.loop-i-test.true, c.loop-i.invariant.0)) c.loop-i.invariant.1 (next c),
)

pub returns : goal.returns
unfolding within
returns c =
    λ j. c.loop-i.invariant.1 j
    ∙ ap (λ (i : ℕ). pick (within c.args.k i j)
    (row_over c.args.plane.now c.args.alpha.now c.args.s (c.args.x + (j - c.args.k) * c.args.step)
    c.args.y (get_or c.args.acc.now j 0))
    (get_or c.args.acc.now j 0))
    (ended c)
