use mathlib.Core.Path.{◌≡◌}
use Rattle.planes.specs.Bytes.{sample_in}
use Rattle.sampling.proofs.FootLaws.{Weighing}
use Rattle.sampling.specs.Area.{past_of}
use Rattle.sampling.proofs.area.row_sum.Given as goal

abbrev pub invariant-loop-j : goal.invariant-loop-j
invariant-loop-j l = (l.past ≡ past_of l.f) × Weighing l.f (λ x. sample_in l.plane l.bytes l.stride x l.y) 65535 l.j l.sum
