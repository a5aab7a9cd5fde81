use mathlib.Core.Path.{◌≡◌}
use Prim.Native.Nat.{◌-◌}
use Rattle.records.specs.inner.Frames.{frames_from}
use Rattle.point.specs.Point.{topmost_named}
use Rattle.point.specs.inner.Look.{place_in}
use Rattle.point.specs.declared.Named.{Named}
use Rattle.point.proofs.names.name_topmost.Given as goal

abbrev pub invariant-loop-i : goal.invariant-loop-i
invariant-loop-i l = topmost_named l.body l.d (place_in l.l) 0 Named.Fill (frames_from l.d.count l.tray l.first) ≡ topmost_named l.body l.d (place_in l.l) l.i l.found (frames_from (l.d.count - l.i) l.tray l.at)
