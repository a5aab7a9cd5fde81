use mathlib.Core.Path.{◌≡◌}
use Prim.Native.Nat.{◌-◌, ◌<◌, ◌≤◌, ℕ}
use Rattle.records.specs.inner.Frames.{frames_from}
use Rattle.planes.specs.Bytes.{sample_in}
use Rattle.inputs.specs.Inputs.{alpha_above}
use Rattle.inputs.specs.inner.Sought.{found_at}
use Rattle.inputs.proofs.alpha_check.alpha_above.Given as goal

abbrev pub invariant-loop-x : goal.invariant-loop-x
invariant-loop-x l = (l.found ≡ l.count) × ((k : ℕ) → k < l.x → sample_in l.plane l.bytes l.stride k l.y ≤ l.top)

abbrev pub invariant-loop-y : goal.invariant-loop-y
invariant-loop-y l =
    (l.found ≡ l.count) × ((k : ℕ) → k < l.y → (x : ℕ) → x < l.columns → sample_in l.plane l.bytes l.stride x k ≤ l.top)

abbrev pub invariant-search : goal.invariant-search
invariant-search l =
    (l.found ≡ l.count)
    × (found_at 0 (alpha_above l.tray l.top) (frames_from l.count l.tray l.first) l.count ≡ found_at l.i (alpha_above l.tray l.top) (frames_from (l.count - l.i) l.tray l.at) l.count)
