use mathlib.Core.Path.{refl}
use Rattle.records.specs.Tray.{no_form}
use Rattle.session.proofs.state.no_form.Goals as goal

pub returns : goal.returns
unfolding no_form
returns c = refl
