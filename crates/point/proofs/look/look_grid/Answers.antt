use mathlib.Core.Path.{◌∙◌, sym}
use native.Mathlib.Omega.{arith}
use Rattle.std.proofs.lemmas.Result.{err_from_is_err_and}
use Rattle.laws.specs.Puts.{Bytes}
use Rattle.props.proofs.ChainLaws.{judged-chain}
use Rattle.point.proofs.PointLaws.{grid-chain, grid-done, grid-number, grid-sight, grid-tiles}
use Rattle.point.proofs.look.look_grid.Goals as goal

pub returns-in_err-read_number : goal.returns-in_err-read_number
returns-in_err-read_number c =
    let p = err_from_is_err_and c.from_residual.result c.from_residual.ensures.1 in
    rw (p.1, p.2) (grid-number _ _ _ _ _ (sym c.read_number.ensures ∙ c.in_err-read_number.was))

pub returns-in_err-c : goal.returns-in_err-c
returns-in_err-c c =
    let p = err_from_is_err_and c.from_residual-in_err-c.result c.from_residual-in_err-c.ensures.1 in
    rw (p.1, p.2) (grid-chain _ _ _ _ _ _ (sym c.read_number.ensures ∙ c.in_ok-read_number.was) _ (sym c.check_chain.ensures ∙ c.in_err-c.was))

pub returns-in_err-tiles : goal.returns-in_err-tiles
returns-in_err-tiles c =
    let p = err_from_is_err_and c.from_residual-in_err-tiles.result c.from_residual-in_err-tiles.ensures.1 in
    rw (p.1, p.2)
    (grid-tiles _ _ _ _ _ _ (sym c.read_number.ensures ∙ c.in_ok-read_number.was) _ (sym c.check_chain.ensures ∙ c.in_ok-c.was) _
    (sym c.read_tiles.ensures ∙ c.in_err-tiles.was))

pub reduce_judged-requires : goal.reduce_judged-requires
reduce_judged-requires c = (judged-chain _ _ _ (sym c.check_chain.ensures ∙ c.in_ok-c.was)).0

pub returns-in_err-sight : goal.returns-in_err-sight
returns-in_err-sight c =
    let p = err_from_is_err_and c.from_residual-in_err-sight.result c.from_residual-in_err-sight.ensures.1 in
    rw (p.1, p.2)
    (grid-sight _ _ _ _ _ _ (sym c.read_number.ensures ∙ c.in_ok-read_number.was) _ (sym c.check_chain.ensures ∙ c.in_ok-c.was) _
    (sym c.read_tiles.ensures ∙ c.in_ok-tiles.was) _
    (sym c.reduce_judged.ensures ∙ c.in_err-sight.was))

pub returns : goal.returns
unfolding Bytes
returns c =
    grid-done _ _ _ _ _ _ (sym c.read_number.ensures ∙ c.in_ok-read_number.was) _ (sym c.check_chain.ensures ∙ c.in_ok-c.was) _
    (sym c.read_tiles.ensures ∙ c.in_ok-tiles.was) _
    (sym c.reduce_judged.ensures ∙ c.in_ok-sight.was)
    (λ i. omega (arith, c.type_inv.body i))
