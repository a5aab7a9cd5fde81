use Rattle.std.specs.Prelude.{Err}
use mathlib.Core.Path.{◌∙◌, ◌≡◌, ap, sym}
use borrow.Author.Rules.{rules}
use native.Mathlib.Omega.{arith}
use Rattle.laws.proofs.Out.{done-after}
use Rattle.props.proofs.ChainLaws.{count-large, count-malformed, count-number, entries-end, entries-left-on, entries-refused-on, judged-none, judged-start, kept-begin, kept-done, kept_next, kept-refused}
use Rattle.props.specs.inner.Judged.{judged_at}
use Rattle.props.proofs.chain.check_chain.Goals as goal

pub returns-in_err-count : goal.returns-in_err-count
returns-in_err-count c =
    let h : judged_at c.args.s.now c.args.at ≡ Err c.in_err-count.field-0.0 = judged-none _ _ _ (count-malformed _ _ _ (sym c.read_number.ensures ∙ c.in_err-count.was)) in
    rw h (search rules)

pub returns-then-count-gt256 : goal.returns-then-count-gt256
returns-then-count-gt256 c = sym (judged-none _ _ _ (count-large _ _ _ _ (sym c.read_number.ensures ∙ c.in_ok-count.was) c.if-count-gt256.true))

pub loop-i-init : goal.loop-i-init
loop-i-init c =
    judged-start _ _ _ (count-number _ _ _ _ (sym c.read_number.ensures ∙ c.in_ok-count.was) c.if-count-gt256.false) ∙ kept-begin _ _ _ _

pub returns-in-Err : goal.returns-in-Err
returns-in-Err c =
    ap (λ r. Err r) c.about.ensures
    ∙ sym (c.loop-i.invariant
    ∙ kept-refused _ _ _
    (entries-refused-on _ _ _ _ _ (omega (arith, c.loop-i-test.true)) (sym c.read_entry.ensures ∙ c.in-Err.is)))

pub loop-i-preserved : goal.loop-i-preserved
loop-i-preserved c = c.loop-i.invariant ∙ kept_next _ _ _ _ _ _ c.loop-i-test.true (sym c.read_entry.ensures ∙ c.in-Ok.is)

pub returns-then-next-s : goal.returns-then-next-s
returns-then-next-s c = sym (c.loop-i.invariant ∙ kept-refused _ _ _ (entries-left-on _ _ _ _ (omega (arith, c.loop-i-test.false)) c.if-next-s.true))

pub returns : goal.returns
returns c = sym (c.loop-i.invariant ∙ kept-done _ _ _ (done-after _ _ _ (entries-end _ _ _ (omega (arith, c.loop-i-test.false)) c.if-next-s.false)))
