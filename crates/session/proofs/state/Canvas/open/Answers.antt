use mathlib.Core.Path.{ap}
use lib.ListN.{replicate}
use Rattle.image.specs.declared.format.Form.{Form}
use Rattle.session.specs.Marks.{no_marks}
use Rattle.session.specs.State.{open_of}
use Rattle.session.proofs.state.Canvas.open.Goals as goal

pub returns : goal.returns
unfolding open_of no_marks
returns c = ap (λ (t : Form). record { desc = c.args.desc; tile = t; alpha = 0; marks = replicate 1024 0 }) c.no_form-tile.ensures
