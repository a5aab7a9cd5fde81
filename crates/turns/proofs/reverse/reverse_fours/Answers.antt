use mathlib.Core.List.{List}
use mathlib.Core.Path.{◌∙◌, ◌≡◌, ap, ap₂, refl, sym}
use Prim.Native.Nat.{◌*◌, ◌+◌, ◌-◌, ◌<◌, ◌≤◌, ℕ}
use native.Mathlib.Omega.{arith}
use lib.ListN.{length}
use Rattle.laws.proofs.Puts.{length-puts}
use Rattle.laws.specs.Puts.{puts}
use Rattle.turns.proofs.SteppedLaws.{stepped-before, stepped-more, stepped-none}
use Rattle.turns.specs.inner.Stepped.{stepped}
use Rattle.turns.proofs.reverse.reverse_fours.Given.{Over}
use Rattle.turns.proofs.reverse.reverse_fours.Goals as goal
use Rattle.turns.proofs.reverse.reverse_fours.Goals.{then-this-ne0, else-this-ne0, Joined-this-ne0}

-- 4 n samples, so many times four behind the first
abbrev fours : List ℕ → List ℕ → ℕ → ℕ → ℕ → ℕ → List ℕ
fours d s at from x n = puts d (at + 8 * x) (stepped s 2 (from - 8 * x) 0 2 (4 * n))

abbrev four : List ℕ → List ℕ → ℕ → ℕ → List ℕ
four q s i j = puts q i (stepped s 2 j 0 2 4)

none-left : (b x : ℕ) → (b ≡ 0 → ⊥) → (1 - b) * x ≡ 0
none-left b x h = let e : 1 - b ≡ 0 = omega arith in rw e (omega arith)

all-left : (b x : ℕ) → b ≡ 0 → (1 - b) * x ≡ x
all-left b x h = rw h (omega arith)

end-left : (b x : ℕ) → x ≡ 0 → (1 - b) * x ≡ 0
end-left b x h = rw h (omega arith)

module _ (d s : List ℕ) (at from m k : ℕ) (below : k < m) (room : 8 * m ≤ from + 2) (b q : ℕ) where
  behind : (b ≡ 0 → ⊥) → q ≡ k → four (fours d s at from ((1 - b) * (m - k)) k) s (at + 8 * q) (from - 8 * q) ≡ fours d s at from ((1 - b) * (m - (k + 1))) (k + 1)
  behind h e =
      ap₂ (λ (x y : ℕ). four (fours d s at from x k) s (at + 8 * y) (from - 8 * y)) (none-left b (m - k) h) e
      ∙ stepped-more d s (at + 8 * 0) 2 (from - 8 * 0) 0 2 (4 * k) 4 (omega arith) (omega arith) (λ z. omega arith) (omega arith) (omega arith) (omega arith)
      ∙ ap (λ (x : ℕ). fours d s at from x (k + 1)) (sym (none-left b (m - (k + 1)) h))

  before : b ≡ 0 → q ≡ m - 1 - k → four (fours d s at from ((1 - b) * (m - k)) k) s (at + 8 * q) (from - 8 * q) ≡ fours d s at from ((1 - b) * (m - (k + 1))) (k + 1)
  before h e =
      let j : q ≡ m - (k + 1) = omega arith in
      ap (λ (x : ℕ). four (fours d s at from x k) s (at + 8 * q) (from - 8 * q)) (all-left b (m - k) h)
      ∙ stepped-before d s (at + 8 * q) 2 (from - 8 * q) 0 2 4 (4 * k) (omega arith) (omega arith) (λ z. omega arith) (omega arith) (omega arith) (omega arith)
      ∙ ap (λ (x : ℕ). fours d s at from x (k + 1)) (j ∙ sym (all-left b (m - (k + 1)) h))

within : (g : Over) (c : Joined-this-ne0 g) → c.if-this-ne0.q < c.args.m
within g c = elim c.if-this-ne0.branch [ then-this-ne0 w ↦ omega (arith, w.q-is, c.loop-k-test.true) | else-this-ne0 w ↦ omega (arith, w.q-is, c.loop-k-test.true, c.loop-k.invariant.3) ]

pub loop-k-init : goal.loop-k-init
loop-k-init g c = (omega arith, refl, sym (stepped-none _ _ _ _ _ _ _ _ refl), omega arith)

pub loop-k-preserved : goal.loop-k-preserved
loop-k-preserved g c = (
  omega arith,
  ap length c.reverse_four.ensures ∙ length-puts _ _ _ ∙ c.loop-k.invariant.1,
  c.reverse_four.ensures
      ∙ ap₂ (λ (q : List ℕ) (j : ℕ). four q c.args.plane.now (c.args.at + 8 * c.if-this-ne0.q) j) c.loop-k.invariant.2 back
      ∙ elim c.if-this-ne0.branch [
        | then-this-ne0 w ↦ behind _ _ c.args.at c.args.from c.args.m c.loop-k.k c.loop-k-test.true c.requires.1 g.row.BACK c.if-this-ne0.q w.if-this-ne0.true w.q-is
        | else-this-ne0 w ↦ before _ _ c.args.at c.args.from c.args.m c.loop-k.k c.loop-k-test.true c.requires.1 g.row.BACK c.if-this-ne0.q w.if-this-ne0.false (omega (arith, w.q-is, c.loop-k.invariant.3))
      ],
  omega (arith, c.loop-k.invariant.3, c.loop-k-test.true),
)
  where
    l : c.if-this-ne0.q < c.args.m
    l = within g (goal.at.loop-k-preserved g c).Joined-this-ne0

    back : c.args.from - 8 * c.if-this-ne0.q - 6 + 6 ≡ c.args.from - 8 * c.if-this-ne0.q
    back = omega (arith, c.requires, l)
