use mathlib.Core.Path.{◌∙◌, ◌≡◌, ap}
use lib.ListN.{length}
use Rattle.laws.specs.Puts.{puts}
use Rattle.planes.specs.Bytes.{decode, encode}
use Rattle.motions.proofs.Fits.{still-fits}
use Rattle.transform.proofs.Runs.{still-bytes}
use Rattle.moves.specs.declared.walk.Move.{Move}
use Rattle.moves.specs.inner.Move.{moved}
use Rattle.transform.proofs.tighten.Goals as goal
use Rattle.transform.proofs.tighten.Goals.{After-still_move}

drawn : (c : After-still_move) → encode (moved c.still_move.result (decode c.args.picture.«record».now c.args.picture.frame)) ≡ encode (decode c.args.picture.«record».now c.args.picture.frame)
drawn c =
    ap (λ (v : Move). encode (moved v (decode c.args.picture.«record».now c.args.picture.frame))) c.still_move.ensures ∙ still-bytes _ _ c.args.picture.sound.form

pub write_moved-requires : goal.write_moved-requires
write_moved-requires c =
    (rw c.still_move.ensures (still-fits _ c.args.picture.sound.form), rw (drawn c) c.requires)

pub returns : goal.returns
returns c =
    (c.write_moved.ensures.0 ∙ ap length (drawn (goal.at.returns c).After-still_move), c.write_moved.ensures.1 ∙ ap (puts c.args.out.now 0) (drawn (goal.at.returns c).After-still_move))
