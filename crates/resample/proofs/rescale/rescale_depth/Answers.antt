use Rattle.std.specs.Prelude.{Ok}
use mathlib.Core.Bool.{Bool, not}
use mathlib.Core.Path.{◌∙◌, ◌≡◌, ap, sym}
use Rattle.laws.proofs.Out.{answers-as, refused-answers}
use Rattle.image.proofs.JudgedLaws.{depth-sound}
use Rattle.records.proofs.RecordLaws.{whole-sound}
use Rattle.image.specs.Format.{is_depth}
use Rattle.records.specs.Record.{record_of}
use Rattle.records.specs.inner.Placed.{Sound}
use Rattle.resample.proofs.RunLaws.{depth-drawn, depth-fits, depths-fit, depth-outside, depth_same}
use Rattle.sampling.specs.Depth.{to_depth}
use Rattle.resample.proofs.rescale.rescale_depth.Goals as goal
use Rattle.resample.proofs.rescale.rescale_depth.Goals.{After-is_depth, In_ok-frame}

taken : (c : In_ok-frame) → record_of c.args.«record».now ≡ Ok c.in_ok-frame.frame
taken c = sym c.parse_record.ensures ∙ c.in_ok-frame.was

sound : (c : In_ok-frame) → Sound c.args.«record».now c.in_ok-frame.frame
sound c = (whole-sound _ _ (taken c)).0

pub invariant_of-picture : goal.invariant_of-picture
invariant_of-picture c = record { sound = sound (goal.at.invariant_of-picture c).In_ok-frame }

depth_is : (c : After-is_depth) (b : Bool) → not c.is_depth.result ≡ b → not (is_depth c.args.depth) ≡ b
depth_is c b e = ap not (sym c.is_depth.ensures) ∙ e

pub returns-then-not-is_depth : goal.returns-then-not-is_depth
returns-then-not-is_depth c =
    refused-answers _ _ _ (depth-outside _ _ (taken (goal.at.returns-then-not-is_depth c).In_ok-frame) _ _ (depth_is (goal.at.returns-then-not-is_depth c).After-is_depth _ (ap not c.if-not-is_depth.true)))

pub returns-then-depth-old : goal.returns-then-depth-old
returns-then-depth-old c =
    answers-as _ _ _ _ _ (depth_same _ _ (taken (goal.at.returns-then-depth-old c).In_ok-frame) _ _ (depth_is (goal.at.returns-then-depth-old c).After-is_depth _ (ap not c.if-not-is_depth.false)) c.if-depth-old.true) c.hand_back.ensures

pub invariant_of-rule : goal.invariant_of-rule
invariant_of-rule c =
    let d = depth-sound _ (depth_is (goal.at.invariant_of-rule c).After-is_depth _ (ap not c.if-not-is_depth.false)) in
    record { fit = depths-fit c.in_ok-frame.frame.form c.args.depth (sound (goal.at.invariant_of-rule c).In_ok-frame).form d.0 d.1 }

pub draw-requires : goal.draw-requires
unfolding to_depth
draw-requires c =
    depth-fits c.in_ok-frame.frame.form c.args.depth _ (sound (goal.at.draw-requires c).In_ok-frame).form

pub returns : goal.returns
unfolding to_depth
returns c =
    answers-as _ _ _ _ _ (depth-drawn _ _ (taken (goal.at.returns c).In_ok-frame) _ _ _ (depth_is (goal.at.returns c).After-is_depth _ (ap not c.if-not-is_depth.false)) c.if-depth-old.false) c.draw.ensures
