use mathlib.Core.List.{List, ◌++◌}
use mathlib.Core.Path.{◌∙◌, ◌≡◌, ap, sym}
use Prim.Native.Nat.{◌*◌, ◌+◌, ◌-◌, ◌/◌, ◌^◌, ◌≤◌, ℕ}
use native.Mathlib.Omega.{arith}
use lib.ListN.{length, length-set}
use Rattle.laws.proofs.Order.{mul-below}
use Rattle.laws.proofs.Span.{span-end, span-step}
use Rattle.laws.proofs.Writing.{writing-as, writing-done, writing-fits, writing-run, writing_start}
use Rattle.laws.specs.Span.{span}
use Rattle.planes.proofs.ByteLaws.{length-line_bytes, length-sample_bytes, sample-stored}
use Rattle.laws.specs.Puts.{Bytes}
use Rattle.planes.specs.Bytes.{sample_at, sample_bytes, samples_of}
use Rattle.planes.specs.inner.Line.{line_bytes, place_on}
use Rattle.planes.specs.declared.samples.Line.{Line}
use Rattle.planes.proofs.samples.copy_line.Goals as goal
use Rattle.planes.proofs.samples.copy_line.Goals.{In-loop-k}

-- what is known of the k-th sample
module _ (c : In-loop-k) where
  abbrev L : Line
  L = c.args.line

  abbrev P : List ℕ
  P = c.args.plane.now

  abbrev b : ℕ
  b = c.args.bytes

  abbrev k : ℕ
  k = c.loop-k.k

  few : (1 ≤ b) × (b ≤ 2)
  few = (c.requires.0.positive, c.requires.0.bounded)

  walked : (k * L.forth ≤ 2 ^ 32) × (k * L.back ≤ 2 ^ 32) × (k * L.back ≤ L.from + k * L.forth)
  walked =
      (mul-below (2 ^ 32) 1 k L.forth (omega arith) c.requires.0.forth, mul-below (2 ^ 32) 1 k L.back (omega arith) c.requires.0.back, c.requires.0.behind k c.loop-k-test.true)

  placed : L.origin + (L.from + k * L.forth - k * L.back) / 2 ^ L.half * L.step + b ≤ length P
  unfolding place_on
  placed = c.requires.0.inside k c.loop-k-test.true

  abbrev item : ℕ → List ℕ
  item x = sample_bytes b (sample_at P b (place_on L x))

  step : span item k c.args.n ≡ item k ++ span item (k + 1) c.args.n
  step = span-step item k c.args.n c.loop-k-test.true

  -- the next sample fits
  room : c.loop-k.i + b ≤ length c.loop-k.out
  room =
      let l : length (item k) ≡ b = length-sample_bytes b _ few.0 few.1 in
      omega (arith, writing-fits (item k) _ (writing-as c.loop-k.invariant.1 step))

pub loop-k-init : goal.loop-k-init
unfolding line_bytes samples_of
loop-k-init c = (omega arith, writing_start _ _ _ (omega (arith, length-line_bytes c.args.plane.now c.args.bytes c.args.line c.args.n c.requires.0.positive c.requires.0.bounded)))

pub overflow_mul-u : goal.overflow_mul-u
overflow_mul-u c = omega (arith, walked c)

pub overflow_add-u : goal.overflow_add-u
overflow_add-u c = omega (arith, walked c, c.requires.0.from)

pub overflow_mul-u-in-loop-k : goal.overflow_mul-u-in-loop-k
overflow_mul-u-in-loop-k c = omega (arith, walked c)

pub overflow_sub-u : goal.overflow_sub-u
overflow_sub-u c = omega (arith, walked c)

pub overflow_cast-u : goal.overflow_cast-u
overflow_cast-u c = omega (arith, c.requires.0.half)

pub overflow_shr-u : goal.overflow_shr-u
overflow_shr-u c = omega (arith, c.requires.0.half)

pub overflow_mul-j : goal.overflow_mul-j
overflow_mul-j c = omega (arith, placed c)

pub overflow_add-j : goal.overflow_add-j
overflow_add-j c = omega (arith, placed c)

pub bounds-plane-j : goal.bounds-plane-j
bounds-plane-j c = omega (arith, placed (goal.at.bounds-plane-j c).In-loop-k, few (goal.at.bounds-plane-j c).In-loop-k)

pub bounds-out-i : goal.bounds-out-i
bounds-out-i c = omega (arith, room (goal.at.bounds-out-i c).In-loop-k, few (goal.at.bounds-out-i c).In-loop-k)

pub overflow_add-out : goal.overflow_add-out
overflow_add-out c = omega (arith, placed (goal.at.overflow_add-out c).In-loop-k, few (goal.at.overflow_add-out c).In-loop-k)

pub bounds-plane-j-in-loop-k : goal.bounds-plane-j-in-loop-k
bounds-plane-j-in-loop-k c = omega (arith, placed (goal.at.bounds-plane-j-in-loop-k c).In-loop-k, few (goal.at.bounds-plane-j-in-loop-k c).In-loop-k)

pub overflow_add-out-in-loop-k : goal.overflow_add-out-in-loop-k
overflow_add-out-in-loop-k c = omega (arith, room (goal.at.overflow_add-out-in-loop-k c).In-loop-k, few (goal.at.overflow_add-out-in-loop-k c).In-loop-k)

pub bounds-out-i-in-loop-k : goal.bounds-out-i-in-loop-k
bounds-out-i-in-loop-k c = simp length-set (omega (arith, room (goal.at.bounds-out-i-in-loop-k c).In-loop-k, few (goal.at.bounds-out-i-in-loop-k c).In-loop-k))

pub overflow_add-i : goal.overflow_add-i
overflow_add-i c = omega (arith, room (goal.at.overflow_add-i c).In-loop-k)

pub loop-k-preserved : goal.loop-k-preserved
unfolding place_on Bytes
loop-k-preserved c = (
  omega arith,
  writing-run (item (goal.at.loop-k-preserved c).In-loop-k (k (goal.at.loop-k-preserved c).In-loop-k)) (writing-as c.loop-k.invariant.1 (step (goal.at.loop-k-preserved c).In-loop-k)) (ap (λ (n : ℕ). c.loop-k.i + n) (sym (length-sample_bytes (b (goal.at.loop-k-preserved c).In-loop-k) _ (few (goal.at.loop-k-preserved c).In-loop-k).0 (few (goal.at.loop-k-preserved c).In-loop-k).1)))
      (sym (sample-stored c.loop-k.out (P (goal.at.loop-k-preserved c).In-loop-k) (b (goal.at.loop-k-preserved c).In-loop-k) c.loop-k.i (place_on (L (goal.at.loop-k-preserved c).In-loop-k) (k (goal.at.loop-k-preserved c).In-loop-k)) (λ i. omega (arith, c.type_inv.plane i)) (few (goal.at.loop-k-preserved c).In-loop-k).0
      (few (goal.at.loop-k-preserved c).In-loop-k).1)),
)

pub returns : goal.returns
returns c = let e : c.loop-k.k ≡ c.args.n = omega arith in (c.loop-k.invariant.0 ∙ ap (λ (x : ℕ). c.args.at + x * c.args.bytes) e, (writing-done (writing-as c.loop-k.invariant.1 (span-end _ _ _ c.loop-k-test.false))).1)
