use Rattle.std.specs.Prelude.{Ok}
use mathlib.Core.Path.{◌∙◌, ◌≡◌, ap, sym}
use lib.ListN.{length}
use Rattle.laws.proofs.Out.{answers-as}
use Rattle.laws.specs.Out.{fitted}
use Rattle.records.proofs.RecordLaws.{whole-sound}
use Rattle.planes.specs.Bytes.{decode, encode}
use Rattle.records.specs.Record.{record_of}
use Rattle.sizes.specs.Aperture.{resolve_of}
use Rattle.transform.proofs.Runs.{clap-drawn, clap-fits}
use Rattle.moves.specs.inner.Move.{moved}
use Rattle.moves.specs.declared.walk.Move.{Move}
use Rattle.transform.proofs.apply_clap.Goals as goal
use Rattle.transform.proofs.apply_clap.Goals.{In_ok-frame, In-Ok}

taken : (c : In_ok-frame) → record_of c.args.«record».now ≡ Ok c.in_ok-frame.frame
taken c = sym c.parse_record.ensures ∙ c.in_ok-frame.was

pub invariant_of-picture : goal.invariant_of-picture
invariant_of-picture c = record { sound = (whole-sound _ _ (taken (goal.at.invariant_of-picture c).In_ok-frame)).0 }

cut : (c : In-Ok)
    → resolve_of c.args.clap c.in_ok-frame.frame.form.width c.in_ok-frame.frame.form.height ≡ Ok c.in-Ok.k
cut c = sym c.resolve-found.ensures ∙ c.in-Ok.is

pub draw-requires : goal.draw-requires
draw-requires c = rw c.crop_move.ensures (clap-fits _ _ (taken (goal.at.draw-requires c).In_ok-frame) _ 0 _ (cut (goal.at.draw-requires c).In-Ok))

pub returns : goal.returns
returns c =
    answers-as _ _ _ _ _
    (clap-drawn _ _ (taken (goal.at.returns c).In_ok-frame) _ _ _ (cut (goal.at.returns c).In-Ok)
    ∙ ap (λ (v : Move). fitted (length c.args.out.now) (encode (moved v (decode c.args.«record».now c.in_ok-frame.frame))))
    (sym c.crop_move.ensures))
    c.draw.ensures
