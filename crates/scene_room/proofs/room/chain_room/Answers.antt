use Rattle.std.proofs.lemmas.Result.{err_from_is_err_and}
use mathlib.Core.Path.{◌∙◌, sym}
use Rattle.laws.proofs.Out.{then-done, then-refused}
use Rattle.scene_room.proofs.room.chain_room.Goals as goal

pub returns-in_err-plan_chain : goal.returns-in_err-plan_chain
returns-in_err-plan_chain c =
    let p = err_from_is_err_and c.from_residual.result c.from_residual.ensures.1 in
    rw (p.1, p.2)
    (sym (then-done _ c.requires.0.read ∙ then-refused _ (sym (then-done _ c.requires.0.read) ∙ sym c.plan_chain.ensures ∙ c.in_err-plan_chain.was)))

pub returns : goal.returns
returns c =
    sym (then-done _ c.requires.0.read ∙ then-done _ (sym (then-done _ c.requires.0.read) ∙ sym c.plan_chain.ensures ∙ c.in_ok-plan_chain.was))
