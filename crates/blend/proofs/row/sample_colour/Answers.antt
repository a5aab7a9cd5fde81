use mathlib.Core.Path.{◌≡◌}
use native.Mathlib.Omega.{arith}
use Rattle.blend.proofs.RowLaws.{depth-byte}
use Rattle.blend.proofs.row.sample_colour.Given.{Over}
use Rattle.blend.proofs.row.sample_colour.Goals as goal
use Rattle.blend.proofs.row.sample_colour.Goals.{Then-this-eq1}

byte : (g : Over) (c : Then-this-eq1 g) → c.args.top ≡ 255
byte g c = depth-byte c.args.d g.row.BYTES c.requires.2 c.args.top c.requires.0 c.requires.1 c.if-this-eq1.true

pub byte_colour-requires : goal.byte_colour-requires
byte_colour-requires g c = (
  omega (arith, rw c.if-this-eq1.true at c.requires.3),
  omega (arith, rw c.if-this-eq1.true at c.requires.4),
  omega (arith, rw (byte g (goal.at.byte_colour-requires g c).Then-this-eq1) at c.requires.5),
)

pub returns-then-this-eq1 : goal.returns-then-this-eq1
returns-then-this-eq1 g c = rw (byte g (goal.at.returns-then-this-eq1 g c).Then-this-eq1) c.byte_colour.ensures
