use mathlib.Core.Path.{◌∙◌, ap, sym}
use Rattle.laws.proofs.Out.{then-refused}
use Rattle.words.specs.Code.{code_of}
use Rattle.words.specs.Properties.{chain_count}
use Rattle.props.proofs.ChainLaws.{judged-count, judged-refused}
use Rattle.capi.proofs.properties.compose_chain.Goals as goal

pub returns-in-Err : goal.returns-in-Err
unfolding chain_count code_of
returns-in-Err c = c.refusal_code.ensures ∙ ap code_of (sym (then-refused _ (judged-refused _ _ _ (sym c.check_chain.ensures ∙ c.in-Err.is))))

pub returns-in-Ok : goal.returns-in-Ok
unfolding chain_count code_of
returns-in-Ok c = ap code_of (sym (judged-count _ _ _ (sym c.check_chain.ensures ∙ c.in-Ok.is)))
