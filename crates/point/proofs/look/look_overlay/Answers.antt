use mathlib.Core.Path.{◌∙◌, sym}
use Rattle.std.proofs.lemmas.Result.{err_from_is_err_and}
use Rattle.props.proofs.ChainLaws.{judged-chain}
use Rattle.inputs.specs.inner.Sought.{is_sought}
use Rattle.point.proofs.PointLaws.{overlay-alpha, overlay-chain, overlay-done, overlay-inputs, overlay-number, overlay-sight}
use Rattle.point.specs.Point.{see_through_frame}
use Rattle.point.proofs.look.look_overlay.Goals as goal

pub returns-in_err-count : goal.returns-in_err-count
returns-in_err-count c =
    let p = err_from_is_err_and c.from_residual.result c.from_residual.ensures.1 in
    rw (p.1, p.2) (overlay-number _ _ _ _ _ _ (sym c.read_number.ensures ∙ c.in_err-count.was))

pub returns-in_err-c : goal.returns-in_err-c
returns-in_err-c c =
    let p = err_from_is_err_and c.from_residual-in_err-c.result c.from_residual-in_err-c.ensures.1 in
    rw (p.1, p.2) (overlay-chain _ _ _ _ _ _ _ (sym c.read_number.ensures ∙ c.in_ok-count.was) _ (sym c.check_chain.ensures ∙ c.in_err-c.was))

pub returns-in_err-q : goal.returns-in_err-q
returns-in_err-q c =
    let p = err_from_is_err_and c.from_residual-in_err-q.result c.from_residual-in_err-q.ensures.1 in
    rw (p.1, p.2)
    (overlay-inputs _ _ _ _ _ _ _ (sym c.read_number.ensures ∙ c.in_ok-count.was) _ (sym c.check_chain.ensures ∙ c.in_ok-c.was) _
    (sym c.read_inputs.ensures ∙ c.in_err-q.was))

pub returns-then-q : goal.returns-then-q
unfolding see_through_frame is_sought
returns-then-q c =
    rw c.about.ensures
    (overlay-alpha _ _ _ _ _ _ _ (sym c.read_number.ensures ∙ c.in_ok-count.was) _ (sym c.check_chain.ensures ∙ c.in_ok-c.was) _
    (sym c.read_inputs.ensures ∙ c.in_ok-q.was) _ c.if-q.true c.first_sought-seen.ensures)

pub reduce_judged-requires : goal.reduce_judged-requires
reduce_judged-requires c = (judged-chain _ _ _ (sym c.check_chain.ensures ∙ c.in_ok-c.was)).0

pub returns-in_err-sight : goal.returns-in_err-sight
returns-in_err-sight c =
    let p = err_from_is_err_and c.from_residual-in_err-sight.result c.from_residual-in_err-sight.ensures.1 in
    rw (p.1, p.2)
    (overlay-sight _ _ _ _ _ _ _ (sym c.read_number.ensures ∙ c.in_ok-count.was) _ (sym c.check_chain.ensures ∙ c.in_ok-c.was) _
    (sym c.read_inputs.ensures ∙ c.in_ok-q.was) c.if-q.false _
    (sym c.reduce_judged.ensures ∙ c.in_err-sight.was))

pub returns : goal.returns
returns c =
    overlay-done _ _ _ _ _ _ _ (sym c.read_number.ensures ∙ c.in_ok-count.was) _ (sym c.check_chain.ensures ∙ c.in_ok-c.was) _
    (sym c.read_inputs.ensures ∙ c.in_ok-q.was) c.if-q.false _
    (sym c.reduce_judged.ensures ∙ c.in_ok-sight.was)
