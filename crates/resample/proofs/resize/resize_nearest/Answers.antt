use Rattle.std.specs.Prelude.{Ok}
use mathlib.Core.Path.{◌∙◌, ◌≡◌, sym}
use Rattle.laws.proofs.Out.{answers-as}
use Rattle.records.proofs.RecordLaws.{whole-sound}
use Rattle.image.proofs.JudgedLaws.{judged-sound}
use Rattle.records.specs.Record.{record_of}
use Rattle.records.specs.inner.Placed.{Sound}
use Rattle.image.specs.Format.{judged_size}
use Rattle.resample.proofs.RunLaws.{depths-fit, near_fits, nearest-drawn, nearest-same}
use Rattle.resample.proofs.resize.resize_nearest.Goals as goal
use Rattle.resample.proofs.resize.resize_nearest.Goals.{In_ok-frame, In_ok-z}

taken : (c : In_ok-frame) → record_of c.args.«record».now ≡ Ok c.in_ok-frame.frame
taken c = sym c.parse_record.ensures ∙ c.in_ok-frame.was

sound : (c : In_ok-frame) → Sound c.args.«record».now c.in_ok-frame.frame
sound c = (whole-sound _ _ (taken c)).0

pub invariant_of-picture : goal.invariant_of-picture
invariant_of-picture c = record { sound = sound (goal.at.invariant_of-picture c).In_ok-frame }

judged : (c : In_ok-z) → judged_size c.args.width c.args.height ≡ Ok c.in_ok-z.z
judged c = sym c.judge.ensures ∙ c.in_ok-z.was

pub returns-then-has_size : goal.returns-then-has_size
returns-then-has_size c =
    answers-as _ _ _ _ _ (nearest-same _ _ (taken (goal.at.returns-then-has_size c).In_ok-frame) _ _ _ _ (judged (goal.at.returns-then-has_size c).In_ok-z) (sym c.has_size.ensures ∙ c.if-has_size.true))
    c.hand_back.ensures

pub invariant_of-rule : goal.invariant_of-rule
invariant_of-rule c =
    let k = (sound (goal.at.invariant_of-rule c).In_ok-frame).form in
    record { fit = depths-fit _ _ k k.low k.high }

pub draw-requires : goal.draw-requires
draw-requires c =
    rw c.sized.ensures (near_fits _ _ _ (sound (goal.at.draw-requires c).In_ok-frame).form (judged-sound _ _ _ (judged (goal.at.draw-requires c).In_ok-z)))

pub returns : goal.returns
returns c =
    answers-as _ _ _ _ _
    (nearest-drawn _ _ (taken (goal.at.returns c).In_ok-frame) _ _ _ _ _ _ c.sized.ensures (judged (goal.at.returns c).In_ok-z) (sym c.has_size.ensures ∙ c.if-has_size.false))
    c.draw.ensures
