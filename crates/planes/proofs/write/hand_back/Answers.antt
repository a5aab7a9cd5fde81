use mathlib.Core.Path.{◌∙◌}
use native.Mathlib.Nat.{zero-add}
use Rattle.laws.proofs.Out.{done-answers, fitted-room, fitted_short, refused-answers}
use Rattle.planes.proofs.write.hand_back.Goals as goal

pub returns-then-out-record : goal.returns-then-out-record
returns-then-out-record c = refused-answers _ _ _ (fitted_short _ _ c.if-out-record.true)

pub returns : goal.returns
returns c =
    done-answers _ c.args.«record».now _ _ _ (fitted-room _ _ c.if-out-record.false) c.if-out-record.false
    (c.copy_row.ensures.0 ∙ zero-add _) c.copy_row.ensures.1
