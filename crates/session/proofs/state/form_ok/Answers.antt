use mathlib.Core.Path.{◌∙◌, ap}
use Rattle.laws.specs.Out.{is_done}
use Rattle.session.proofs.StateLaws.{ok-done}
use Rattle.session.specs.State.{form_ok}
use Rattle.session.proofs.state.form_ok.Goals as goal

pub returns : goal.returns
unfolding form_ok
returns c = c.is_ok.ensures.value ∙ ok-done _ ∙ ap is_done c.judge.ensures
