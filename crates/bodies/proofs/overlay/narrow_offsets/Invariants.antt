use mathlib.Core.Bool.{◌&&◌, true}
use mathlib.Core.Path.{◌≡◌}
use Prim.Native.Nat.{◌*◌, ◌+◌, ◌<◌, ℕ}
use Rattle.bodies.specs.Form.{narrow_offset}
use Rattle.bodies.specs.Overlay.{offset_in}
use Rattle.bodies.proofs.overlay.narrow_offsets.Given as goal

abbrev pub invariant-loop-i : goal.invariant-loop-i
invariant-loop-i l = (k : ℕ) → k < l.i → (narrow_offset (offset_in l.offsets (2 * k)) && narrow_offset (offset_in l.offsets (2 * k + 1))) ≡ true
