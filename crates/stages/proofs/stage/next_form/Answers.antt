use mathlib.Core.Path.{◌∙◌, ap}
use Rattle.std.specs.Result.{result_unwrap_or}
use Rattle.stages.specs.inner.Stage.{Gives}
use Rattle.stages.proofs.stage.next_form.Goals as goal

pub returns : goal.returns
unfolding Gives
returns c = λ n e. c.unwrap_or.ensures ∙ ap (λ o. result_unwrap_or o c.args.m) (c.form_after.ensures ∙ e)
