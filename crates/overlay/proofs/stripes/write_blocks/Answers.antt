use mathlib.Core.Path.{◌∙◌, ◌≡◌, refl}
use Prim.Native.Nat.{◌*◌}
use native.Mathlib.Omega.{arith}
use Rattle.laws.proofs.Order.{mul-below}
use Rattle.image.proofs.FormLaws.{width-le}
use Rattle.overlay.proofs.StripedLaws.{continued-none, continued-on, ready-total}
use Rattle.overlay.proofs.stripes.write_blocks.Goals as goal
use Rattle.overlay.proofs.stripes.write_blocks.Goals.{After-loop-start}

ended : (c : After-loop-start) → c.loop-start.start ≡ c.args.plan.form.height * c.args.plan.form.width
ended c = omega (arith, c.loop-start.invariant.0, c.loop-start-test.false)

pub tight-to-requires : goal.tight-to-requires
tight-to-requires c =
    c.requires.0.plan.form

pub overflow_mul-total : goal.overflow_mul-total
overflow_mul-total c =
    omega (arith, ready-total c.requires.0)

pub loop-start-init : goal.loop-start-init
loop-start-init c =
    (omega arith, mul-below _ _ 1 1 c.requires.0.plan.form.tall c.requires.0.plan.form.wide, refl, refl, refl, refl, continued-none _ _ _ _ _)

pub fit_block-b-requires : goal.fit_block-b-requires
fit_block-b-requires c =
    (c.requires.0.plan.offsets, width-le _ c.requires.0.plan.form, omega (arith, c.min.ensures, c.loop-start-test.true, ready-total c.requires.0), omega (arith, c.min.ensures, c.loop-start-test.true, c.loop-start.invariant.1), omega (arith, c.requires.3, c.loop-start.invariant.5))

pub write_block-requires : goal.write_block-requires
write_block-requires c =
    (c.requires.0, record { ends = omega (arith, c.fit_block-b.ensures.1, c.min.ensures, c.loop-start-test.true); listed = λ n h. (c.fit_block-b.ensures.2 n h).1 }, c.tight-to.ensures, omega (arith, c.requires.1, c.loop-start.invariant.3), omega (arith, c.requires.2, c.loop-start.invariant.4), omega (arith, c.requires.4, c.loop-start.invariant.2))

pub overflow_add-start : goal.overflow_add-start
overflow_add-start c =
    omega (arith, c.fit_block-b.ensures.1, c.min.ensures, c.loop-start-test.true, ready-total c.requires.0)

pub next_length-most-requires : goal.next_length-most-requires
next_length-most-requires c =
    (c.fit_block-b.ensures.0, omega (arith, c.fit_block-b.ensures.1, c.min.ensures, c.loop-start-test.true, ready-total c.requires.0))

pub loop-start-smaller : goal.loop-start-smaller
loop-start-smaller c =
    omega (arith, c.fit_block-b.ensures.0, c.loop-start-test.true)

pub loop-start-preserved : goal.loop-start-preserved
loop-start-preserved c = (
  omega (arith, c.fit_block-b.ensures.1, c.min.ensures, c.loop-start-test.true),
  c.next_length-most.ensures,
  c.write_block.auto.out ∙ c.loop-start.invariant.2,
  omega (arith, c.write_block.auto.colour, c.loop-start.invariant.3),
  omega (arith, c.write_block.auto.colour, c.loop-start.invariant.4),
  c.fit_block-b.auto.entries ∙ c.loop-start.invariant.5,
  continued-on _ _ _ _ _ _ _ _ _ c.loop-start.invariant.6 c.write_block.ensures,
)

pub returns : goal.returns
returns c = rw (← (ended c)) c.loop-start.invariant.6
