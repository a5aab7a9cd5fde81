use mathlib.Core.List.{List}
use mathlib.Core.Path.{◌∙◌, ◌≡◌, ap, ap₂, refl, sym}
use Prim.Native.Nat.{◌*◌, ◌+◌, ◌-◌, ◌<◌, ℕ}
use native.Mathlib.Omega.{arith}
use lib.ListN.{get_or, length-set, set}
use Rattle.laws.specs.Puts.{Bytes, puts}
use Rattle.turns.proofs.SteppedLaws.{stepped-before, stepped-byte, stepped-none}
use Rattle.turns.specs.inner.Stepped.{stepped}
use Rattle.turns.proofs.reverse.bytes_forth.Goals as goal

one_less : (n k : ℕ) → k < n → n - k ≡ n - (k + 1) + 1
one_less n k l = omega arith

one-behind : (from m : ℕ) → from - (m + 1) ≡ from - m + 1 * 0 - 1 * 1
one-behind from m = omega arith

pub loop-k-init : goal.loop-k-init
loop-k-init c = (omega arith, refl, sym (stepped-none _ _ _ _ _ _ _ _ refl))

pub loop-k-preserved : goal.loop-k-preserved
unfolding Bytes
loop-k-preserved c =
    let i : ℕ = c.args.at + (c.args.n - (c.loop-k.k + 1)) in
    let j : ℕ = c.args.from - (c.args.n - (c.loop-k.k + 1)) in
    let e : c.args.at + c.args.n - 1 - c.loop-k.k ≡ i = omega (arith, c.loop-k-test.true) in
    let f : c.args.from + 1 - c.args.n + c.loop-k.k ≡ j = omega (arith, c.loop-k-test.true, c.requires) in (
      omega arith,
      simp length-set c.loop-k.invariant.1,
      ap₂ (λ (x y : ℕ). set c.loop-k.out x (get_or c.args.plane.now y 0)) e f
          ∙ sym (stepped-byte c.loop-k.out c.args.plane.now i j 0 1 (λ x. omega (arith, c.type_inv.plane x)))
          ∙ ap (λ (q : List ℕ). puts q i (stepped c.args.plane.now 1 j 0 1 1)) c.loop-k.invariant.2
          ∙ stepped-before _ c.args.plane.now i 1 j 0 1 1 c.loop-k.k (omega arith) (omega arith) (λ z. omega (arith, c.loop-k-test.true, c.requires)) (omega (arith, c.loop-k-test.true))
          (ap (λ (x : ℕ). c.args.from - x) (one_less c.args.n c.loop-k.k c.loop-k-test.true) ∙ one-behind c.args.from (c.args.n - (c.loop-k.k + 1))) (omega arith),
    )
