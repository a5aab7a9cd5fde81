use mathlib.Core.Path.{◌∙◌}
use native.Mathlib.Omega.{arith}
use Rattle.planes.proofs.RoundTrip.{tight-planes}
use Rattle.records.specs.Record.{past}
use Rattle.planes.proofs.write.tight.Goals as goal

pub returns : goal.returns
unfolding past
returns c =
    tight-planes _ 0 _ _ _ _ _ (c.head_size.ensures.0 ∙ omega arith) c.placed-luma.ensures.0 c.placed-cb.ensures.0
    c.placed-cr.ensures.0 c.placed-alpha.ensures.0
