use mathlib.Core.Bool.{false}
use mathlib.Core.Path.{◌≡◌}
use Prim.Native.Nat.{◌-◌}
use lib.ListN.{length}
use Rattle.laws.specs.Any.{any}
use Rattle.records.specs.inner.Frames.{frames_from}
use Rattle.opaque.specs.inner.Laid.{lay_frames, unfit}
use Rattle.opaque.proofs.lay.lay_inputs.Given as goal

abbrev pub invariant-loop-i : goal.invariant-loop-i
invariant-loop-i l =
    (length l.out ≡ length l.initial.out) × (any (unfit l.to.form) (frames_from (l.d.count - l.i) l.tray l.at) ≡ false)
    × (lay_frames l.to.form l.body l.tray l.d 0 (frames_from l.d.count l.tray l.first) l.initial.out ≡ lay_frames l.to.form l.body l.tray l.d l.i (frames_from (l.d.count - l.i) l.tray l.at) l.out)
