use mathlib.Core.Path.{◌≡◌}
use Prim.Native.Nat.{◌-◌}
use Rattle.session.specs.Marks.{all_marked}
use Rattle.session.proofs.marks.all_marked.Given as goal

abbrev pub invariant-loop-i : goal.invariant-loop-i
invariant-loop-i l = all_marked l.marks 0 l.count ≡ all_marked l.marks l.i (l.count - l.i)
