use Rattle.numbers.specs.Field.{big_endian}
use Prim.Native.Nat.{◌^◌, ◌<◌}
use mathlib.Core.Path.{◌≡◌}
use Rattle.numbers.proofs.Cursor.field.Given as goal

abbrev pub invariant-loop-i : goal.invariant-loop-i
invariant-loop-i l = (l.value ≡ big_endian l.s l.at l.i) × (l.value < 256 ^ l.i)
