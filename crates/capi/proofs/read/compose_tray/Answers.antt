use mathlib.Core.Path.{◌∙◌, ap, sym}
use Rattle.words.specs.Code.{code_of}
use Rattle.capi.proofs.read.compose_tray.Goals as goal

pub returns-in-Err : goal.returns-in-Err
unfolding code_of
returns-in-Err c = c.refusal_code.ensures ∙ ap code_of (sym (c.in-Err.is) ∙ c.check_tray.ensures)

pub returns-in-Ok : goal.returns-in-Ok
unfolding code_of
returns-in-Ok c = ap code_of (sym (c.in-Ok.is) ∙ c.check_tray.ensures)
