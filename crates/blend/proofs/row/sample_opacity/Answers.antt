use mathlib.Core.Path.{◌≡◌}
use native.Mathlib.Omega.{arith}
use Rattle.blend.proofs.RowLaws.{depth-byte}
use Rattle.blend.proofs.row.sample_opacity.Given.{Over}
use Rattle.blend.proofs.row.sample_opacity.Goals as goal
use Rattle.blend.proofs.row.sample_opacity.Goals.{Then-this-eq1}

byte : (g : Over) (c : Then-this-eq1 g) → c.args.top ≡ 255
byte g c = depth-byte c.args.d g.row.BYTES c.requires.2 c.args.top c.requires.0 c.requires.1 c.if-this-eq1.true

pub byte_opacity-requires : goal.byte_opacity-requires
byte_opacity-requires g c = (
  omega (arith, rw c.if-this-eq1.true at c.requires.3),
  omega (arith, rw (byte g (goal.at.byte_opacity-requires g c).Then-this-eq1) at c.requires.4),
)

pub returns-then-this-eq1 : goal.returns-then-this-eq1
returns-then-this-eq1 g c = rw (byte g (goal.at.returns-then-this-eq1 g c).Then-this-eq1) c.byte_opacity.ensures
