use mathlib.Core.Path.{◌∙◌, ◌≡◌, refl}
use Prim.Native.Nat.{◌+◌}
use native.Mathlib.Omega.{arith}
use Rattle.blocks.proofs.ListLaws.{listed-part}
use Rattle.overlay.proofs.StripedLaws.{continued-none, continued-on, ready-total}
use Rattle.overlay.proofs.stripes.write_block.Goals as goal
use Rattle.overlay.proofs.stripes.write_block.Goals.{After-loop-s}

pub overflow_add-end : goal.overflow_add-end
overflow_add-end c =
    omega (arith, c.requires.1.ends, ready-total c.requires.0)

pub loop-s-init : goal.loop-s-init
loop-s-init c = (omega arith, omega arith, refl, refl, refl, continued-none _ _ _ _ _)

pub write_stripe-requires : goal.write_stripe-requires
write_stripe-requires c = (
  record {
    canvas = c.requires.0;
    run = record {
      columns = refl;
      ends = omega (arith, c.requires.1.ends, c.min.ensures, c.loop-s-test.true);
      whole = record { across = refl; down = refl };
    };
    listed = λ n h. listed-part _ _ _ _ _ _ _ _ _ _ _ c.loop-s.invariant.0 (omega (arith, c.min.ensures, c.loop-s-test.true)) (c.requires.1.listed n h);
  },
  c.requires.2,
  omega (arith, c.requires.3, c.loop-s.invariant.3, c.min.ensures),
  omega (arith, c.requires.4, c.loop-s.invariant.4, c.min.ensures),
  omega (arith, c.requires.5, c.loop-s.invariant.2),
)

pub overflow_add-s : goal.overflow_add-s
overflow_add-s c =
    omega (arith, c.min.ensures, c.loop-s-test.true, c.requires.1.ends, ready-total c.requires.0)

pub loop-s-smaller : goal.loop-s-smaller
loop-s-smaller c =
    omega (arith, c.min.ensures, c.loop-s-test.true)

pub loop-s-preserved : goal.loop-s-preserved
loop-s-preserved c =
    (omega (arith, c.loop-s.invariant.0), omega (arith, c.min.ensures, c.loop-s-test.true), c.write_stripe.auto.out ∙ c.loop-s.invariant.2, omega (arith, c.write_stripe.auto.colour, c.loop-s.invariant.3), omega (arith, c.write_stripe.auto.colour, c.loop-s.invariant.4), continued-on _ _ _ _ _ _ _ _ _ c.loop-s.invariant.5 c.write_stripe.ensures)

ended : (c : After-loop-s) →
    c.loop-s.s ≡ c.args.start + c.args.count
ended c = omega (arith, c.loop-s.invariant.1, c.loop-s-test.false)

pub returns : goal.returns
returns c = rw (← (ended c)) c.loop-s.invariant.5
