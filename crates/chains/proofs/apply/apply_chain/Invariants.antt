use Prim.Native.Nat.{◌-◌}
use Rattle.chains.proofs.GoingLaws.{Going}
use Rattle.chains.specs.inner.Apply.{chain_bytes, record_in}
use Rattle.chains.proofs.apply.apply_chain.Given as goal

abbrev pub invariant-loop-i : goal.invariant-loop-i
invariant-loop-i l =
    Going l.s l.essential_only (chain_bytes l.s l.count l.initial.next l.essential_only (record_in l.initial.t l.initial.output l.initial.spare)) l.initial.output l.initial.spare (l.count - l._i) l.next l.t l.output l.spare
