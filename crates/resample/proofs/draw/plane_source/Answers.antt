use native.Mathlib.Omega.{arith}
use Rattle.laws.specs.Puts.{Bytes}
use Rattle.planes.proofs.ByteLaws.{data-bytes}
use Rattle.resample.proofs.draw.plane_source.Goals as goal

pub plane_data-requires : goal.plane_data-requires
plane_data-requires c = c.requires.0

pub invariant_of-result : goal.invariant_of-result
unfolding Bytes
invariant_of-result c = record {
  bytes = rw c.plane_data.ensures (data-bytes c.args.s.now c.args.q (λ i. omega (arith, c.type_inv.s i)));
  fits = rw c.plane_data.ensures c.requires.1;
}
