use mathlib.Core.Path.{◌∙◌, ap}
use native.Mathlib.Nat.{le_of_eq, le_trans}
use lib.ListN.{length}
use Rattle.laws.specs.Puts.{puts}
use Rattle.planes.specs.Bytes.{encode}
use Rattle.view.proofs.ViewLaws.{drawn-by, shown-fits, shown-size}
use Rattle.view.proofs.draw_sight.Goals as goal

pub write_moved-requires : goal.write_moved-requires
write_moved-requires c =
    (rw c.sight_move.ensures (shown-fits c.args.picture.frame.form c.args.n c.args.s c.requires.0), le_trans (le_of_eq (ap (λ Q. length (encode Q)) (drawn-by c.args.picture.«record».now c.args.picture.frame c.args.n c.args.s _ c.sight_move.ensures) ∙ shown-size c.args.n c.args.s _)) c.requires.1)

pub returns : goal.returns
returns c =
    let e = drawn-by c.args.picture.«record».now c.args.picture.frame c.args.n c.args.s _ c.sight_move.ensures in (c.write_moved.ensures.0 ∙ ap (λ Q. length (encode Q)) e ∙ shown-size c.args.n c.args.s _, c.write_moved.ensures.1 ∙ ap (λ Q. puts c.args.out.now 0 (encode Q)) e)
