use Rattle.numbers.specs.Decimal.{decimal, digits_onto}
use Rattle.laws.specs.Puts.{puts}
use lib.ListN.{length}
use Prim.Native.Nat.{ℕ, ◌+◌, ◌^◌, ◌<◌}
use mathlib.Core.List.{List}
use mathlib.Core.Path.{◌≡◌}
use Rattle.numbers.proofs.write_decimal.Given as goal

abbrev pub invariant-loop-rest : goal.invariant-loop-rest
invariant-loop-rest l = (after : List ℕ) × (l.rest < 2 ^ 64) × (decimal l.n ≡ digits_onto 19 l.rest after) × (l.i + length after ≡ l.at + length (decimal l.n)) × (l.out ≡ puts l.initial.out l.i after)

abbrev pub decreases-loop-rest : goal.decreases-loop-rest
decreases-loop-rest l = l.rest
