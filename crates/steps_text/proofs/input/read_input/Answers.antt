use borrow.Author.Rules.{rules}
use Rattle.std.specs.Prelude.{Ok, Err}
use mathlib.Core.Path.{◌∙◌, ◌≡◌, sym}
use Rattle.laws.proofs.Out.{then-done, then-refused}
use Rattle.laws.specs.Out.{and_then}
use Rattle.image.specs.Format.{judged_size}
use Rattle.props.proofs.ChainLaws.{judged-chain, judged-refused}
use Rattle.props.specs.Chain.{chain_at}
use Rattle.steps_text.proofs.TextLaws.{steps-sides}
use Rattle.steps_text.specs.Input.{steps_of}
use Rattle.steps_text.specs.inner.Step.{ReadAs}
use Rattle.steps_text.proofs.input.read_input.Goals as goal
use Rattle.steps_text.proofs.input.read_input.Goals.{After-check_chain}

chain-of : (c : After-check_chain) →
    steps_of c.args.s.now ≡ and_then (chain_at c.args.s.now c.in_ok-height.b) (λ es. and_then (judged_size c.in_ok-width.width c.in_ok-height.height) (λ z. Ok (record { size = z; entries = es })))
chain-of c =
    steps-sides _ _ _ _ _ (sym c.read_number.ensures ∙ c.in_ok-width.was) (sym c.read_number-2.ensures ∙ c.in_ok-height.was)

pub returns-in_err-chain : goal.returns-in_err-chain
unfolding ReadAs
returns-in_err-chain c =
    let e : steps_of c.args.s.now ≡ Err c.in_err-chain.field-0.0 = chain-of (goal.at.returns-in_err-chain c).After-check_chain ∙ then-refused _ (judged-refused _ _ _ (sym c.check_chain.ensures ∙ c.in_err-chain.was)) in
    let q : c.from_residual-in_err-chain.result ≡ Err c.in_err-chain.field-0.0 = search rules in
    rw q e

pub returns-in_err-size : goal.returns-in_err-size
unfolding ReadAs
returns-in_err-size c =
    let k = judged-chain _ _ _ (sym c.check_chain.ensures ∙ c.in_ok-chain.was) in
    let e : steps_of c.args.s.now ≡ Err c.in_err-size.field-0.0 = chain-of (goal.at.returns-in_err-size c).After-check_chain ∙ then-done _ k.1 ∙ then-refused _ (sym c.judge.ensures ∙ c.in_err-size.was) in
    let q : c.from_residual-in_err-size.result ≡ Err c.in_err-size.field-0.0 = search rules in
    rw q e

pub returns : goal.returns
unfolding ReadAs
returns c =
    let k = judged-chain _ _ _ (sym c.check_chain.ensures ∙ c.in_ok-chain.was) in record { chain = k.0; steps = chain-of (goal.at.returns c).After-check_chain ∙ then-done _ k.1 ∙ then-done _ (sym c.judge.ensures ∙ c.in_ok-size.was) }
