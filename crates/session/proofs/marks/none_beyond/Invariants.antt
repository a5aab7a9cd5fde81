use mathlib.Core.Path.{◌≡◌}
use Prim.Native.Nat.{◌-◌, ◌/◌}
use Rattle.session.specs.Marks.{clear_from}
use Rattle.session.proofs.marks.none_beyond.Given as goal

abbrev pub invariant-loop-i : goal.invariant-loop-i
invariant-loop-i l = clear_from l.marks l.count (l.count / 64) (1024 - l.count / 64) ≡ clear_from l.marks l.count l.i (1024 - l.i)
