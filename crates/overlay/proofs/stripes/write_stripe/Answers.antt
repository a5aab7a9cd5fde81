use native.Mathlib.Omega.{arith}
use Rattle.overlay.proofs.StripedLaws.{ready-clear, ready-drawn, ready-fits}
use Rattle.overlay.proofs.stripes.write_stripe.Goals as goal

pub is_clear-requires : goal.is_clear-requires
is_clear-requires c =
    ((λ n h. (c.requires.0.listed n h).room), (ready-fits c.requires.0.canvas _ c.requires.0.run).ends)

pub returns-then-is_clear : goal.returns-then-is_clear
returns-then-is_clear c =
    ready-clear c.requires.0 (c.is_clear.ensures c.if-is_clear.true) _

pub write_colour-requires : goal.write_colour-requires
write_colour-requires c =
    (c.requires.0, c.requires.1, c.requires.2, omega (arith, c.requires.3, c.carry_opacity.auto.acc), c.requires.4, c.carry_opacity.ensures)

pub write_colour-requires-2 : goal.write_colour-requires-2
write_colour-requires-2 c =
    (c.requires.0, c.requires.1, omega (arith, c.requires.2, c.write_colour.auto.colour), omega (arith, c.requires.3, c.carry_opacity.auto.acc), omega (arith, c.requires.4, c.write_colour.auto.out), c.carry_opacity.ensures)

pub write_colour-requires-3 : goal.write_colour-requires-3
write_colour-requires-3 c =
    (c.requires.0, c.requires.1, omega (arith, c.requires.2, c.write_colour.auto.colour, c.write_colour-2.auto.colour), omega (arith, c.requires.3, c.carry_opacity.auto.acc), omega (arith, c.requires.4, c.write_colour.auto.out, c.write_colour-2.auto.out), c.carry_opacity.ensures)

pub write_alpha-requires : goal.write_alpha-requires
write_alpha-requires c =
    (c.requires.0.canvas, c.requires.0.run, c.requires.1, omega (arith, c.requires.3, c.carry_opacity.auto.acc), omega (arith, c.requires.4, c.write_colour.auto.out, c.write_colour-2.auto.out, c.write_colour-3.auto.out), c.carry_opacity.ensures)

pub returns : goal.returns
returns c =
    ready-drawn c.requires.0 _ _ _ _ _ c.requires.4 c.write_colour.ensures c.write_colour-2.ensures c.write_colour-3.ensures c.write_alpha.ensures
