use mathlib.Core.Path.{◌∙◌, ◌≡◌, ap, sym}
use Prim.Native.Nat.{◌*◌, ◌+◌, ℕ}
use native.Mathlib.Omega.{arith}
use Rattle.laws.specs.Puts.{puts}
use Rattle.planes.proofs.ByteLaws.{even-one, even-two}
use Rattle.planes.proofs.samples.fill_row.Goals as goal
use Rattle.planes.proofs.samples.fill_row.Goals.{Then-bytes-eq1, Else-bytes-eq1}

one : (c : Then-bytes-eq1) → c.args.n * c.args.bytes ≡ c.args.n * 1
one c = ap (λ (k : ℕ). c.args.n * k) c.if-bytes-eq1.true

two : (c : Else-bytes-eq1) → c.args.n * c.args.bytes ≡ c.args.n * 2
two c = let e : c.args.bytes ≡ 2 = omega arith in ap (λ (k : ℕ). c.args.n * k) e

pub fill_bytes-requires : goal.fill_bytes-requires
fill_bytes-requires c = omega (arith, one (goal.at.fill_bytes-requires c).Then-bytes-eq1)

pub returns-then-bytes-eq1 : goal.returns-then-bytes-eq1
returns-then-bytes-eq1 c = (
  c.fill_bytes.ensures.0 ∙ ap (λ (k : ℕ). c.args.at + k) (sym (one (goal.at.returns-then-bytes-eq1 c).Then-bytes-eq1)),
  c.fill_bytes.ensures.1
      ∙ ap (puts c.args.out.now c.args.at) (sym (even-one c.args.bytes c.args.v c.args.n c.if-bytes-eq1.true)),
)

pub fill_bytes-requires-else-bytes-eq1 : goal.fill_bytes-requires-else-bytes-eq1
fill_bytes-requires-else-bytes-eq1 c = omega (arith, two (goal.at.fill_bytes-requires-else-bytes-eq1 c).Else-bytes-eq1)

pub returns-else-bytes-eq1 : goal.returns-else-bytes-eq1
returns-else-bytes-eq1 c = (
  c.fill_bytes-else-bytes-eq1.ensures.0 ∙ ap (λ (k : ℕ). c.args.at + k) (sym (two (goal.at.returns-else-bytes-eq1 c).Else-bytes-eq1)),
  c.fill_bytes-else-bytes-eq1.ensures.1
      ∙ ap (puts c.args.out.now c.args.at)
      (sym (even-two c.args.bytes c.args.v c.args.n c.if-bytes-eq1.false (omega arith))),
)
