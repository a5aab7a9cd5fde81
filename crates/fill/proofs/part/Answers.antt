use Rattle.std.proofs.Common.{refl}
use lib.Ieee.{of_bits, round}
use Rattle.fill.specs.Fill.{part_of}
use Rattle.fill.proofs.part.Goals as goal

pub returns : goal.returns
unfolding part_of of_bits round
returns c = refl
