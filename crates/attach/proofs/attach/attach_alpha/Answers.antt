use Rattle.std.specs.Prelude.{Ok}
use mathlib.Core.List.{List}
use mathlib.Core.Path.{◌∙◌, ◌≡◌, sym}
use Prim.Native.Nat.{ℕ}
use Rattle.laws.proofs.Out.{done-answers, fitted-room, fitted_short, refused-answers}
use Rattle.records.proofs.RecordLaws.{whole-sound}
use Rattle.records.specs.Record.{record_of}
use Rattle.attach.proofs.AttachLaws.{attach-run, record-short}
use Rattle.attach.specs.Attach.{attach_bytes}
use Rattle.attach.proofs.attach.attach_alpha.Goals as goal
use Rattle.attach.proofs.attach.attach_alpha.Goals.{After-attached_size, In_ok-f, In_ok-g}

taken : (c : In_ok-f) → record_of c.args.master.now ≡ Ok c.in_ok-f.f
taken c = sym c.parse_record.ensures ∙ c.in_ok-f.was

taken2 : (c : In_ok-g)
    → record_of c.args.alpha.now ≡ Ok c.in_ok-g.g
taken2 c = sym c.parse_record-2.ensures ∙ c.in_ok-g.was

abbrev bs : (c : After-attached_size) → List ℕ
bs c =
    attach_bytes c.args.master.now c.in_ok-f.f c.args.alpha.now c.in_ok-g.g

pub invariant_of-picture : goal.invariant_of-picture
invariant_of-picture c = record { sound = (whole-sound _ _ (taken (goal.at.invariant_of-picture c).In_ok-f)).0 }

pub invariant_of-other : goal.invariant_of-other
invariant_of-other c = record { sound = (whole-sound _ _ (taken2 (goal.at.invariant_of-other c).In_ok-g)).0 }

pub invariant_of-colours : goal.invariant_of-colours
invariant_of-colours c = record { short = record-short _ _ (taken (goal.at.invariant_of-colours c).In_ok-f) }

pub invariant_of-luma : goal.invariant_of-luma
invariant_of-luma c = record { short = record-short _ _ (taken2 (goal.at.invariant_of-luma c).In_ok-g) }

pub returns-then-out-attached_size : goal.returns-then-out-attached_size
returns-then-out-attached_size c = refused-answers _ _ _ (attach-run _ _ (taken (goal.at.returns-then-out-attached_size c).In_ok-f) _ _ (taken2 (goal.at.returns-then-out-attached_size c).In_ok-g) _ ∙ fitted_short _ (bs (goal.at.returns-then-out-attached_size c).After-attached_size) (rw (← c.attached_size.ensures) c.if-out-attached_size.true))

pub returns : goal.returns
returns c =
    let h = rw c.attached_size.ensures at c.if-out-attached_size.false in
    done-answers _ (bs (goal.at.returns c).After-attached_size) _ _ _ (attach-run _ _ (taken (goal.at.returns c).In_ok-f) _ _ (taken2 (goal.at.returns c).In_ok-g) _ ∙ fitted-room _ _ h) h
    c.write_attached.ensures.0 c.write_attached.ensures.1
