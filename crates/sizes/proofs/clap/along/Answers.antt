use mathlib.Core.Path.{sym}
use borrow.Author.Tests.{eq-eqb, le-ltb, ne_eqb}
use Rattle.laws.specs.Out.{refuse}
use Rattle.sizes.proofs.ApertureLaws.{numerator}
use Rattle.sizes.specs.Aperture.{axis_of}
use Rattle.sizes.proofs.clap.along.Goals as goal

pub returns : goal.returns
unfolding axis_of refuse
returns c =
    simp (
      ne_eqb _ _ c.if-d-eq0.false,
      ne_eqb _ _ c.if-off_d-eq0.false,
      eq-eqb _ _ c.if-n-d-ne0.false,
      ne_eqb _ _ c.if-size-eq0.false,
      le-ltb _ _ c.if-size-input.false,
      sym c.signed-off.ensures,
      sym c.edge.ensures,
      numerator,
    )
