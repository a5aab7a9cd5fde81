use mathlib.Core.Path.{◌≡◌}
use Prim.Native.Nat.{◌*◌, ◌-◌}
use Rattle.planes.specs.Bytes.{sample_in}
use Rattle.sampling.proofs.FootLaws.{Weighing}
use Rattle.sampling.specs.Area.{past_of, weighed}
use Rattle.sampling.proofs.area.area_sample.Given as goal

abbrev pub invariant-loop-j : goal.invariant-loop-j
invariant-loop-j l = (l.past ≡ past_of l.down) × Weighing l.down (λ y. weighed l.across (λ x. sample_in l.plane l.bytes l.stride x y)) ((l.across.end - l.across.start) * 65535) l.j l.sum
