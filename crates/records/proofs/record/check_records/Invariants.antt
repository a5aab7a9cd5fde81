use mathlib.Core.Path.{◌≡◌}
use Prim.Native.Nat.{◌-◌}
use Rattle.laws.specs.Out.{after}
use Rattle.records.proofs.TrayLaws.{counted}
use Rattle.records.specs.Tray.{frames_at, tray_count}
use Rattle.records.proofs.record.check_records.Given as goal

abbrev pub invariant-loop-i : goal.invariant-loop-i
invariant-loop-i l = tray_count (frames_at l.count l.s l.at) ≡ counted l.count (after l.i (frames_at (l.count - l.i) l.s l.next))
