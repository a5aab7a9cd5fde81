use mathlib.Core.List.{List}
use mathlib.Core.Path.{◌∙◌, ap, refl, sym}
use Prim.Native.Nat.{◌*◌, ◌+◌, ◌-◌, ℕ}
use native.Mathlib.Omega.{arith}
use lib.ListN.{length-set}
use Rattle.laws.specs.Puts.{Bytes, puts}
use Rattle.turns.proofs.SteppedLaws.{stepped-more, stepped-none, stepped-sample}
use Rattle.turns.specs.inner.Stepped.{stepped}
use Rattle.turns.proofs.steps.write_steps.Goals as goal
use Rattle.turns.proofs.steps.write_steps.Goals.{In-loop-k}

pub loop-k-init : goal.loop-k-init
loop-k-init g c = (omega arith, refl, sym (stepped-none _ _ _ _ _ _ _ _ refl))

pub loop-k-preserved : goal.loop-k-preserved
unfolding Bytes
loop-k-preserved g c = (
  omega arith,
  simp length-set c.loop-k.invariant.1,
  sym (stepped-sample c.loop-k.out c.args.plane.now (c.args.at + c.loop-k.k * g.row.BYTES) g.row.BYTES (c.args.from + c.loop-k.k * c.args.forth - c.loop-k.k * c.args.back) c.args.forth c.args.back
      (λ x. omega (arith, c.type_inv.plane x)) c.requires.0.positive c.requires.0.bounded)
      ∙ ap (λ (q : List ℕ). puts q (c.args.at + c.loop-k.k * g.row.BYTES) (stepped c.args.plane.now g.row.BYTES (c.args.from + c.loop-k.k * c.args.forth - c.loop-k.k * c.args.back) c.args.forth c.args.back 1)) c.loop-k.invariant.2
      ∙ stepped-more _ c.args.plane.now c.args.at g.row.BYTES c.args.from c.args.forth c.args.back c.loop-k.k 1 c.requires.0.positive c.requires.0.bounded (λ z. c.requires.0.behind c.loop-k.k c.loop-k-test.true) refl refl refl,
)
