use Rattle.std.specs.Prelude.{Ok}
use mathlib.Core.Path.{◌∙◌, ◌≡◌, sym}
use Rattle.laws.proofs.Out.{answers-as}
use Rattle.records.proofs.RecordLaws.{whole-sound}
use Rattle.records.specs.Record.{record_of}
use Rattle.records.specs.inner.Placed.{Sound}
use Rattle.sizes.specs.Scale.{scale_of}
use Rattle.resample.proofs.RunLaws.{iscl-fits, iscl-run}
use Rattle.resample.proofs.scale.apply_iscl.Goals as goal
use Rattle.resample.proofs.scale.apply_iscl.Goals.{In_ok-frame, In_ok-z}

taken : (c : In_ok-frame) → record_of c.args.«record».now ≡ Ok c.in_ok-frame.frame
taken c = sym c.parse_record.ensures ∙ c.in_ok-frame.was

sound : (c : In_ok-frame) → Sound c.args.«record».now c.in_ok-frame.frame
sound c = (whole-sound _ _ (taken c)).0

pub invariant_of-picture : goal.invariant_of-picture
invariant_of-picture c = record { sound = sound (goal.at.invariant_of-picture c).In_ok-frame }

judged : (c : In_ok-z)
    → scale_of c.args.iscl c.in_ok-frame.frame.form.width c.in_ok-frame.frame.form.height ≡ Ok c.in_ok-z.z
judged c = sym c.output_size.ensures ∙ c.in_ok-z.was

pub resize_area-requires : goal.resize_area-requires
resize_area-requires c =
    iscl-fits _ _ (taken (goal.at.resize_area-requires c).In_ok-frame) c.args.iscl 0 _ (judged (goal.at.resize_area-requires c).In_ok-z)

pub returns : goal.returns
returns c =
    answers-as _ _ _ _ _ (iscl-run _ _ (taken (goal.at.returns c).In_ok-frame) _ _ _ (judged (goal.at.returns c).In_ok-z)) c.resize_area.ensures
