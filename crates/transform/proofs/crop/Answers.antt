use Rattle.std.specs.Prelude.{Ok}
use mathlib.Core.Bool.{not}
use mathlib.Core.Path.{◌∙◌, ◌≡◌, ap, sym}
use lib.ListN.{length}
use borrow.Author.Tests.{not-false, not-true}
use Rattle.laws.proofs.Out.{answers-as, refused-answers}
use Rattle.laws.specs.Out.{fitted}
use Rattle.records.proofs.RecordLaws.{whole-sound}
use Rattle.records.specs.Record.{record_of}
use Rattle.planes.specs.Bytes.{decode, encode}
use Rattle.moves.specs.declared.walk.Move.{Move}
use Rattle.moves.specs.inner.Move.{moved}
use Rattle.transform.proofs.Runs.{crop-drawn, crop-fit, crop-outside}
use Rattle.transform.proofs.crop.Goals as goal
use Rattle.transform.proofs.crop.Goals.{In_ok-frame}

taken : (c : In_ok-frame) → record_of c.args.«record».now ≡ Ok c.in_ok-frame.frame
taken c = sym c.parse_record.ensures ∙ c.in_ok-frame.was

pub invariant_of-picture : goal.invariant_of-picture
invariant_of-picture c = record { sound = (whole-sound _ _ (taken (goal.at.invariant_of-picture c).In_ok-frame)).0 }

pub returns-then-not-fits : goal.returns-then-not-fits
returns-then-not-fits c =
    refused-answers _ _ _ (crop-outside _ _ (taken (goal.at.returns-then-not-fits c).In_ok-frame) _ _ (sym c.fits.ensures ∙ not-true _ (ap not c.if-not-fits.true)))

pub draw-requires : goal.draw-requires
draw-requires c =
    rw c.crop_move.ensures (crop-fit _ _ (taken (goal.at.draw-requires c).In_ok-frame) _ 0 (sym c.fits.ensures ∙ not-false _ (ap not c.if-not-fits.false)))

pub returns : goal.returns
returns c =
    answers-as _ _ _ _ _
    (crop-drawn _ _ (taken (goal.at.returns c).In_ok-frame) _ _ (sym c.fits.ensures ∙ not-false _ (ap not c.if-not-fits.false))
    ∙ ap (λ (v : Move). fitted (length c.args.out.now) (encode (moved v (decode c.args.«record».now c.in_ok-frame.frame))))
    (sym c.crop_move.ensures))
    c.draw.ensures
