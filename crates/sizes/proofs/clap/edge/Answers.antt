use mathlib.Core.Bool.{not}
use mathlib.Core.Path.{◌∙◌, ◌≡◌, ap, sym}
use Prim.Native.Nat.{◌%◌, ◌-◌}
use native.Mathlib.Omega.{arith}
use borrow.Author.Tests.{eq-eqb, le-ltb, lt-ltb, ne_eqb}
use Rattle.laws.proofs.Out.{refuse-no, refuse-yes}
use Rattle.sizes.proofs.ApertureLaws.{edge-below, edge-from}
use Rattle.sizes.proofs.clap.edge.Goals as goal

pub returns-then-behind-ahead-ne0 : goal.returns-then-behind-ahead-ne0
returns-then-behind-ahead-ne0 c = sym (edge-below _ _ _ _ _ c.if-ahead-behind.true ∙ refuse-yes _ _ (ap not (ne_eqb _ _ c.if-behind-ahead-ne0.true)))

pub returns-then-ahead-behind : goal.returns-then-ahead-behind
returns-then-ahead-behind c = sym (edge-below _ _ _ _ _ c.if-ahead-behind.true ∙ refuse-no _ _ (ap not (eq-eqb _ _ c.if-behind-ahead-ne0.false)))

pub returns-then-num-den-ne0 : goal.returns-then-num-den-ne0
returns-then-num-den-ne0 c =
    let h : (c.args.ahead - c.args.behind) % c.args.den ≡ 0 → ⊥ = λ e. omega (arith, e, c.if-num-den-ne0.true) in
    sym (edge-from _ _ _ _ _ c.if-ahead-behind.false ∙ refuse-yes _ _ (ap not (ne_eqb _ _ h)))

pub returns-then-at-gap : goal.returns-then-at-gap
returns-then-at-gap c = sym (edge-from _ _ _ _ _ c.if-ahead-behind.false ∙ refuse-no _ _ (ap not (eq-eqb _ _ c.if-num-den-ne0.false)) ∙ refuse-yes _ _ (lt-ltb _ _ c.if-at-gap.true))

pub returns : goal.returns
returns c = sym (edge-from _ _ _ _ _ c.if-ahead-behind.false ∙ refuse-no _ _ (ap not (eq-eqb _ _ c.if-num-den-ne0.false)) ∙ refuse-no _ _ (le-ltb _ _ c.if-at-gap.false))
