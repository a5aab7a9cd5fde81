use Rattle.std.specs.Prelude.{Ok}
use mathlib.Core.Path.{◌∙◌, ◌≡◌, ap, sym}
use lib.ListN.{length}
use Rattle.laws.proofs.Out.{answers-as}
use Rattle.laws.specs.Out.{fitted}
use Rattle.records.proofs.RecordLaws.{whole-sound}
use Rattle.planes.specs.Bytes.{decode, encode}
use Rattle.image.specs.Format.{odd}
use Rattle.records.specs.Record.{record_of}
use Rattle.records.specs.inner.Placed.{Sound}
use Rattle.motions.proofs.Fits.{mirror-fits}
use Rattle.transform.proofs.Runs.{mirror-run}
use Rattle.moves.specs.inner.Move.{moved}
use Rattle.moves.specs.declared.walk.Move.{Move}
use Rattle.transform.proofs.apply_imir.Goals as goal
use Rattle.transform.proofs.apply_imir.Goals.{In_ok-frame}

taken : (c : In_ok-frame) → record_of c.args.«record».now ≡ Ok c.in_ok-frame.frame
taken c = sym c.parse_record.ensures ∙ c.in_ok-frame.was

sound : (c : In_ok-frame) → Sound c.args.«record».now c.in_ok-frame.frame
sound c = (whole-sound _ _ (taken c)).0

pub invariant_of-picture : goal.invariant_of-picture
invariant_of-picture c = record { sound = sound (goal.at.invariant_of-picture c).In_ok-frame }

pub mirror_move-requires : goal.mirror_move-requires
mirror_move-requires c = (sound (goal.at.mirror_move-requires c).In_ok-frame).form

pub draw-requires : goal.draw-requires
draw-requires c = rw c.mirror_move.ensures (mirror-fits _ _ (sound (goal.at.draw-requires c).In_ok-frame).form)

pub returns : goal.returns
unfolding odd
returns c =
    answers-as _ _ _ _ _
    (mirror-run _ _ (taken (goal.at.returns c).In_ok-frame) _ c.args.imir
    ∙ ap (λ (v : Move). fitted (length c.args.out.now) (encode (moved v (decode c.args.«record».now c.in_ok-frame.frame))))
    (sym c.mirror_move.ensures))
    c.draw.ensures
