use mathlib.Core.Path.{◌∙◌, ◌≡◌, refl, sym}
use native.Mathlib.Omega.{arith}
use Rattle.blocks.proofs.ListLaws.{listing-begin, listing-ends, listing-refused}
use Rattle.blocks.proofs.list.list_inputs.Goals as goal

pub loop-i-init : goal.loop-i-init
loop-i-init c = (refl, omega arith, listing-begin _ _ _ _ _ _ _ _)

pub returns-in-Err : goal.returns-in-Err
returns-in-Err c =
    λ m e. let z : c.loop-i.n ≡ m = cc in
    rw (← z) (c.loop-i.invariant.1, listing-refused _ _ _ _ _ _ _ _ _ _ _ c.loop-i.invariant.2 _ (sym c.read_record.ensures ∙ c.in-Err.is))

pub list_input-requires : goal.list_input-requires
list_input-requires c =
    (c.requires.0, c.requires.1, c.requires.2, omega (arith, c.requires.3, c.loop-i.invariant.0), c.loop-i.invariant.1, c.loop-i-test.true, sym c.read_record.ensures ∙ c.in-Ok.is, c.loop-i.invariant.2)

pub loop-i-preserved : goal.loop-i-preserved
loop-i-preserved c =
    let r = c.list_input.ensures c.in_ok-n-in-Ok.n c.in_ok-n-in-Ok.was in
    (c.list_input.auto.entries ∙ c.loop-i.invariant.0, r.0, r.1)

pub returns : goal.returns
returns c =
    λ m e. let z : c.loop-i.n ≡ m = cc in
    rw (← z) (c.loop-i.invariant.1, listing-ends _ _ _ _ _ _ _ _ _ _ _ c.loop-i.invariant.2 c.loop-i-test.false)
