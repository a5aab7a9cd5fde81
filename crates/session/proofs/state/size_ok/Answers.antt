use mathlib.Core.Path.{◌∙◌, ap}
use Rattle.laws.specs.Out.{is_done}
use Rattle.session.proofs.StateLaws.{ok-done}
use Rattle.session.proofs.state.size_ok.Goals as goal

pub returns : goal.returns
returns c = c.is_ok.ensures.value ∙ ok-done _ ∙ ap is_done c.judge.ensures
