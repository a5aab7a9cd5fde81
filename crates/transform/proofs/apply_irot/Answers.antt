use Rattle.std.specs.Prelude.{Ok}
use mathlib.Core.Bool.{false, true}
use mathlib.Core.List.{List}
use mathlib.Core.Path.{◌∙◌, ◌≡◌, ap, sym}
use Prim.Native.Nat.{ℕ}
use native.Mathlib.Omega.{arith}
use lib.ListN.{length}
use Rattle.laws.proofs.Out.{answers-as}
use Rattle.laws.specs.Out.{Out, fitted}
use Rattle.records.proofs.RecordLaws.{whole-sound}
use Rattle.planes.specs.Bytes.{decode, encode}
use Rattle.records.specs.Record.{record_of}
use Rattle.records.specs.inner.Placed.{Sound}
use Rattle.motions.proofs.Fits.{half-fits, quarter-fits}
use Rattle.transform.proofs.Runs.{turn-half, turn-left, turn-none, turn-right}
use Rattle.moves.specs.inner.Move.{moved}
use Rattle.moves.specs.declared.walk.Move.{Move}
use Rattle.transform.proofs.apply_irot.Goals as goal
use Rattle.transform.proofs.apply_irot.Goals.{In_ok-frame}

taken : (c : In_ok-frame) → record_of c.args.«record».now ≡ Ok c.in_ok-frame.frame
taken c = sym c.parse_record.ensures ∙ c.in_ok-frame.was

sound : (c : In_ok-frame) → Sound c.args.«record».now c.in_ok-frame.frame
sound c = (whole-sound _ _ (taken c)).0

pub invariant_of-picture : goal.invariant_of-picture
invariant_of-picture c = record { sound = sound (goal.at.invariant_of-picture c).In_ok-frame }

pub invariant_of-picture-in-2 : goal.invariant_of-picture-in-2
invariant_of-picture-in-2 c = record { sound = sound (goal.at.invariant_of-picture-in-2 c).In_ok-frame }

pub invariant_of-picture-in_default : goal.invariant_of-picture-in_default
invariant_of-picture-in_default c = record { sound = sound (goal.at.invariant_of-picture-in_default c).In_ok-frame }

-- what a move draws
drawn : (c : In_ok-frame) → Move → Out (List ℕ)
drawn c v = fitted (length c.args.out.now) (encode (moved v (decode c.args.«record».now c.in_ok-frame.frame)))

pub returns-in-0 : goal.returns-in-0
returns-in-0 c =
    answers-as _ _ _ _ _ (turn-none _ _ (taken (goal.at.returns-in-0 c).In_ok-frame) _ c.args.irot c.in-0.is) c.hand_back.ensures

pub quarter_move-requires : goal.quarter_move-requires
quarter_move-requires c = (sound (goal.at.quarter_move-requires c).In_ok-frame).form

pub draw-requires : goal.draw-requires
draw-requires c = rw c.quarter_move.ensures (quarter-fits _ true false (sound (goal.at.draw-requires c).In_ok-frame).form)

pub returns-in-1 : goal.returns-in-1
unfolding drawn
returns-in-1 c =
    answers-as _ _ _ _ _ (turn-left _ _ (taken (goal.at.returns-in-1 c).In_ok-frame) _ c.args.irot c.in-1.is ∙ ap (drawn (goal.at.returns-in-1 c).In_ok-frame) (sym c.quarter_move.ensures))
    c.draw.ensures

pub half_move-requires : goal.half_move-requires
half_move-requires c = (sound (goal.at.half_move-requires c).In_ok-frame).form

pub draw-requires-in-2 : goal.draw-requires-in-2
draw-requires-in-2 c = rw c.half_move.ensures (half-fits _ (sound (goal.at.draw-requires-in-2 c).In_ok-frame).form)

pub returns-in-2 : goal.returns-in-2
unfolding drawn
returns-in-2 c =
    answers-as _ _ _ _ _ (turn-half _ _ (taken (goal.at.returns-in-2 c).In_ok-frame) _ c.args.irot c.in-2.is ∙ ap (drawn (goal.at.returns-in-2 c).In_ok-frame) (sym c.half_move.ensures))
    c.draw-in-2.ensures

pub quarter_move-requires-in_default : goal.quarter_move-requires-in_default
quarter_move-requires-in_default c = (sound (goal.at.quarter_move-requires-in_default c).In_ok-frame).form

pub draw-requires-in_default : goal.draw-requires-in_default
draw-requires-in_default c = rw c.quarter_move-in_default.ensures (quarter-fits _ false true (sound (goal.at.draw-requires-in_default c).In_ok-frame).form)

pub returns-in_default : goal.returns-in_default
unfolding drawn
returns-in_default c =
    answers-as _ _ _ _ _
    (turn-right _ _ (taken (goal.at.returns-in_default c).In_ok-frame) _ c.args.irot (λ e. omega arith) (λ e. omega arith) (λ e. omega arith) ∙ ap (drawn (goal.at.returns-in_default c).In_ok-frame) (sym c.quarter_move-in_default.ensures))
    c.draw-in_default.ensures
