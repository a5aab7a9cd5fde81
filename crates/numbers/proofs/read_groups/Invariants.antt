use Prim.Native.Nat.{◌-◌, ◌+◌, ◌^◌, ◌≤◌, ◌<◌}
use mathlib.Core.Path.{◌≡◌}
use lib.ListN.{length}
use Rattle.numbers.specs.Number.{read_from, read_number}
use Rattle.numbers.proofs.read_groups.Given as goal

abbrev pub invariant-loop-k : goal.invariant-loop-k
invariant-loop-k l = (0 < l.k → l.at + l.k ≤ length l.s) × (l.weight ≡ 128 ^ l.k) × (l.value < l.weight) × (read_number l.s l.at ≡ read_from (5 - l.k) l.s (l.at + l.k) l.least l.weight l.value)
