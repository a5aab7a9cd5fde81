use Prim.Native.Nat.{◌*◌, ◌+◌, ◌≤◌}
use native.Mathlib.Omega.{arith}
use lib.ListN.{length}
use Rattle.derived.proofs.OffsetLaws.{place_inside}
use Rattle.derived.specs.Overlay.{horizontal_at, offset_place, placement_at, vertical_at}
use Rattle.derived.proofs.overlay.OverlayDescriptor.offset.Goals as goal
use Rattle.derived.proofs.overlay.OverlayDescriptor.offset.Goals.{Start}

abbrev in_body : (c : Start) → (c.args.i * (2 * c.args.self.bytes) ≤ 524288) × (c.args.self.offsets + c.args.i * (2 * c.args.self.bytes) + 2 * c.args.self.bytes ≤ length c.args.body.now)
unfolding offset_place
in_body c = place_inside _ _ _ c.requires.0 c.requires.1

pub overflow_mul-at : goal.overflow_mul-at
overflow_mul-at c = omega (arith, c.requires.0.bounded)

pub overflow_mul-at-2 : goal.overflow_mul-at-2
overflow_mul-at-2 c = omega (arith, in_body (goal.at.overflow_mul-at-2 c).Start)

pub overflow_add-at : goal.overflow_add-at
overflow_add-at c = omega (arith, in_body (goal.at.overflow_add-at c).Start, c.well_formed)

pub signed_at-horizontal-requires : goal.signed_at-horizontal-requires
signed_at-horizontal-requires c = (c.requires.0.bounded, omega (arith, in_body (goal.at.signed_at-horizontal-requires c).Start))

pub overflow_add-at-2 : goal.overflow_add-at-2
overflow_add-at-2 c = omega (arith, in_body (goal.at.overflow_add-at-2 c).Start, c.well_formed)

pub signed_at-vertical-requires : goal.signed_at-vertical-requires
signed_at-vertical-requires c = (c.requires.0.bounded, omega (arith, in_body (goal.at.signed_at-vertical-requires c).Start))

pub returns : goal.returns
unfolding placement_at horizontal_at vertical_at offset_place
returns c = simp (c.signed_at-horizontal.ensures, c.signed_at-vertical.ensures)
