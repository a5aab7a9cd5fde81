use mathlib.Core.Path.{◌≡◌}
use Prim.Native.Nat.{◌-◌}
use Rattle.records.specs.inner.Frames.{frames_from}
use Rattle.inputs.specs.inner.Sought.{found_at, is_sought}
use Rattle.inputs.proofs.sought.first_sought.Given as goal

abbrev pub invariant-loop-i : goal.invariant-loop-i
invariant-loop-i l =
    found_at 0 (λ fr. is_sought l.sought fr.form) (frames_from l.count l.tray l.first) l.count
    ≡ found_at l.i (λ fr. is_sought l.sought fr.form) (frames_from (l.count - l.i) l.tray l.at) l.count
