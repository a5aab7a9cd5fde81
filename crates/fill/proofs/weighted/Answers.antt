use lib.Ieee.{of_bits, round}
use Rattle.laws.specs.Pick.{pick}
use Rattle.fill.specs.Fill.{weighted_of}
use Rattle.fill.proofs.weighted.Goals as goal

pub returns-else-full_range : goal.returns-else-full_range
unfolding weighted_of pick of_bits round
returns-else-full_range c =
    simp (
      c.if-full_range.false,
      c.studio-else-full_range-2.ensures,
      c.studio-else-full_range.ensures,
      c.studio.ensures,
      c.cr-cr.ensures,
      c.cb-cb.ensures,
      c.luma-y.ensures,
    )
