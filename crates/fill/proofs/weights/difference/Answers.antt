use Rattle.std.proofs.Common.{refl}
use lib.Ieee.{of_bits, round}
use Rattle.fill.proofs.weights.difference.Goals as goal

pub returns : goal.returns
unfolding of_bits round
returns c = refl
