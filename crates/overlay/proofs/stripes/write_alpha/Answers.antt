use mathlib.Core.Bool.{not}
use mathlib.Core.Bool.{true}
use mathlib.Core.Path.{◌∙◌, ◌≡◌, ap, refl, sym}
use Prim.Native.Nat.{◌*◌, ◌+◌, ◌≤◌}
use native.Mathlib.Omega.{arith}
use lib.ListN.{length}
use borrow.Author.Tests.{not-false, not-true}
use Rattle.image.specs.Format.{has_part}
use Rattle.records.specs.Record.{plane_of}
use Rattle.image.specs.declared.format.Part.TheVariants.{Alpha}
use Rattle.records.specs.declared.record.Frame.{Frame}
use Rattle.overlay.proofs.StripedLaws.{alpha-run, run-absent, run_room, run-written}
use Rattle.overlay.specs.Run.{fill_part}
use Rattle.overlay.specs.inner.Striped.{alpha_stripe}
use Rattle.overlay.proofs.stripes.write_alpha.Goals as goal
use Rattle.overlay.proofs.stripes.write_alpha.Goals.{After-bytes_per_sample-bytes, Else-not-has}

has_part_lem : (c : Else-not-has) → has_part c.args.plan.form.format Alpha ≡ true
has_part_lem c = sym c.has.ensures ∙ not-false _ (ap not c.if-not-has.false)

room : (c : After-bytes_per_sample-bytes) → (c.plane-plane.result.start + c.args.run.start * c.bytes_per_sample-bytes.result + c.args.run.count * c.bytes_per_sample-bytes.result ≤ length c.args.out.now) × (1 ≤ c.bytes_per_sample-bytes.result) × (c.bytes_per_sample-bytes.result ≤ 2)
room c =
    run_room c.requires.0 c.args.run c.requires.1 Alpha (has_part_lem (goal.at.After-bytes_per_sample-bytes c).Else-not-has) _ _ _ (c.plane-plane.ensures ∙ ap (λ (t : Frame). plane_of t Alpha) c.requires.2) c.bytes_per_sample-bytes.ensures c.requires.4

pub returns-then-not-has : goal.returns-then-not-has
unfolding alpha_stripe
returns-then-not-has c = run-absent _ _ _ _ _ (sym c.has.ensures ∙ not-true _ (ap not c.if-not-has.true))

pub overflow_mul-at : goal.overflow_mul-at
overflow_mul-at c = omega (arith, room (goal.at.overflow_mul-at c).After-bytes_per_sample-bytes)

pub overflow_add-at : goal.overflow_add-at
overflow_add-at c = omega (arith, room (goal.at.overflow_add-at c).After-bytes_per_sample-bytes)

pub write_run-requires : goal.write_run-requires
write_run-requires c =
    ((room (goal.at.write_run-requires c).After-bytes_per_sample-bytes).1, (room (goal.at.write_run-requires c).After-bytes_per_sample-bytes).2, c.requires.3, c.requires.3, (room (goal.at.write_run-requires c).After-bytes_per_sample-bytes).0)

pub returns : goal.returns
unfolding alpha_stripe fill_part
returns c =
    run-written _ _ _ _ _ _ _ _ _ (has_part_lem (goal.at.returns c).Else-not-has) (c.plane-plane.ensures ∙ ap (λ (t : Frame). plane_of t Alpha) c.requires.2) c.bytes_per_sample-bytes.ensures c.write_run.ensures.1 (λ j h. alpha-run _ _ _ _ _ _ _ refl (c.requires.5 j h))
