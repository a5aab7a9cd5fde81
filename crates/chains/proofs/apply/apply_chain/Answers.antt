use mathlib.Core.Path.{◌∙◌, ◌≡◌, sym}
use Prim.Native.Nat.{◌+◌, ◌-◌}
use native.Mathlib.Omega.{arith}
use borrow.Author.Rules.{rules}
use Rattle.props.proofs.ChainLaws.{entries-first}
use Rattle.chains.proofs.GoingLaws.{going-able, going-begins, going-ends, going_on, moved_as, settled-as, starts-at}
use Rattle.chains.proofs.apply.apply_chain.Goals as goal

pub loop-i-init : goal.loop-i-init
loop-i-init c =
    let z : c.args.chain.count - 0 ≡ c.args.chain.count = omega arith in
    rw z (going-begins _ _ _ _ _ _ _ _ _ c.stage_start-t.ensures c.requires)

pub unwrap-past-requires : goal.unwrap-past-requires
unwrap-past-requires c =
    let f = entries-first (c.args.chain.count - c.loop-i._i) _ _ c.loop-i.invariant.ready.entries (omega (arith, c.loop-i-test.true)) c.loop-i.invariant.ready.read in
    rw (c.read_entry.ensures ∙ f.2) (search rules)

pub apply_entry-t-requires : goal.apply_entry-t-requires
apply_entry-t-requires c =
    going-able _ _ _ _ _ _ _ _ _ _ c.loop-i.invariant _ (omega (arith, c.loop-i-test.true)) (sym c.read_entry.ensures ∙ c.unwrap-past.ensures)

pub loop-i-preserved : goal.loop-i-preserved
loop-i-preserved c =
    let z : c.args.chain.count - c.loop-i._i - 1 ≡ c.args.chain.count - (c.loop-i._i + 1) = omega arith in
    rw z at (going_on _ _ _ _ _ _ _ _ _ _ c.loop-i.invariant _ (omega (arith, c.loop-i-test.true)) (sym c.read_entry.ensures ∙ c.unwrap-past.ensures) _ _ _ (moved_as _ _ _ _ _ _ c.apply_entry-t.ensures))

pub settle-requires : goal.settle-requires
settle-requires c = c.loop-i.invariant.ready.staged

pub returns : goal.returns
returns c =
    rw (starts-at _ _ _ _ _ c.stage_start-t.ensures) at (going-ends _ _ _ _ _ _ _ _ _ _ c.loop-i.invariant (omega (arith, c.loop-i-test.false)) _ _ _ (settled-as _ _ _ _ c.settle.ensures))
