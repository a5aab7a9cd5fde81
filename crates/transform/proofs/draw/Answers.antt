use mathlib.Core.Path.{◌∙◌, ◌≡◌, sym}
use lib.ListN.{length}
use Rattle.laws.proofs.Out.{done-answers, fitted-room, fitted_short, refused-answers}
use Rattle.planes.proofs.RoundTrip.{length-encode}
use Rattle.planes.specs.Bytes.{decode, encode}
use Rattle.moves.specs.inner.Move.{moved}
use Rattle.transform.proofs.draw.Goals as goal
use Rattle.transform.proofs.draw.Goals.{After-record_size}

-- how long the new record is
size : (c : After-record_size) → c.record_size.result ≡ length (encode (moved c.args.v (decode c.args.picture.«record».now c.args.picture.frame)))
unfolding moved
size c = c.record_size.ensures ∙ sym (length-encode _)

pub returns-then-out-record_size : goal.returns-then-out-record_size
returns-then-out-record_size c = refused-answers _ _ _ (fitted_short _ _ (rw (← (size (goal.at.returns-then-out-record_size c).After-record_size)) c.if-out-record_size.true))

pub write_moved-requires : goal.write_moved-requires
write_moved-requires c = (c.requires, rw (← (size (goal.at.write_moved-requires c).After-record_size)) c.if-out-record_size.false)

pub returns : goal.returns
returns c =
    let h = rw (size (goal.at.returns c).After-record_size) at c.if-out-record_size.false in
    done-answers _ (encode (moved c.args.v (decode c.args.picture.«record».now c.args.picture.frame))) _ _ _ (fitted-room _ _ h) h
    c.write_moved.ensures.0 c.write_moved.ensures.1
