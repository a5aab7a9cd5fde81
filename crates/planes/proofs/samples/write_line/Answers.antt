use mathlib.Core.Path.{◌∙◌, ◌≡◌, ap, sym}
use Prim.Native.Nat.{◌*◌, ◌+◌, ◌-◌, ◌<◌, ◌≤◌, ℕ}
use native.Mathlib.Omega.{arith}
use lib.ListN.{drop, length, length-drop, take}
use lib.Seq.{length-take-le}
use Rattle.laws.proofs.Order.{positive}
use Rattle.laws.specs.Puts.{puts, Bytes}
use Rattle.planes.proofs.LineLaws.{line-inside, line-none, line_taken}
use Rattle.planes.specs.inner.Line.{line_bytes}
use Rattle.planes.proofs.samples.write_line.Goals as goal
use Rattle.planes.proofs.samples.write_line.Goals.{Then-line-eq0-2}

-- what is known where the samples stand one after the other
module _ (c : Then-line-eq0-2) where
  abbrev start : ℕ
  start =
      c.args.line.origin + c.args.line.from * c.args.bytes

  abbrev size : ℕ
  size =
      c.args.n * c.args.bytes

  some : 0 < c.args.n
  some =
      positive c.args.n c.if-n-eq0.false

  inside : start + size ≤ length c.args.plane.now
  inside =
      line-inside c.args.plane.now c.args.bytes c.args.line c.args.n c.requires.0 some c.if-line-bytes.true c.if-line-eq0.true
      c.if-line-eq1.true c.if-line-eq0-2.true

  taken : Bytes c.args.plane.now
      → line_bytes c.args.plane.now c.args.bytes c.args.line c.args.n
      ≡ take (start + size - start) (drop start c.args.plane.now)
  taken b =
      line_taken c.args.plane.now c.args.bytes c.args.line c.args.n c.requires.0 some c.if-line-bytes.true c.if-line-eq0.true
      c.if-line-eq1.true c.if-line-eq0-2.true b
      ∙ (let z : size ≡ start + size - start = omega arith in ap (λ (k : ℕ). take k (drop start c.args.plane.now)) z)

  long : length (take (start + size - start) (drop start c.args.plane.now)) ≡ size
  long =
      let l = inside in
      length-take-le (start + size - start) (drop start c.args.plane.now) (omega (arith, length-drop start c.args.plane.now))
      ∙ omega arith

pub returns-then-n-eq0 : goal.returns-then-n-eq0
unfolding puts
returns-then-n-eq0 c = (rw c.if-n-eq0.true (omega arith), sym (ap (puts c.args.out.now c.args.at) (line-none _ _ _ _ c.if-n-eq0.true)))

pub overflow_mul-a : goal.overflow_mul-a
overflow_mul-a c =
    omega (arith, inside (goal.at.overflow_mul-a c).Then-line-eq0-2, c.well_formed)

pub overflow_add-a : goal.overflow_add-a
overflow_add-a c =
    omega (arith, inside (goal.at.overflow_add-a c).Then-line-eq0-2, c.well_formed)

pub overflow_add-e : goal.overflow_add-e
overflow_add-e c =
    omega (arith, inside (goal.at.overflow_add-e c).Then-line-eq0-2, c.well_formed)

pub slice_bounds-copy_row-end : goal.slice_bounds-copy_row-end
slice_bounds-copy_row-end c = inside (goal.at.slice_bounds-copy_row-end c).Then-line-eq0-2

pub copy_row-requires : goal.copy_row-requires
copy_row-requires c =
    rw (long (goal.at.copy_row-requires c).Then-line-eq0-2) c.requires.1

pub returns-then-line-eq0-2 : goal.returns-then-line-eq0-2
unfolding Bytes
returns-then-line-eq0-2 c = (
  c.copy_row.ensures.0 ∙ ap (λ (k : ℕ). c.args.at + k) (long (goal.at.returns-then-line-eq0-2 c).Then-line-eq0-2),
  c.copy_row.ensures.1
      ∙ ap (puts c.args.out.now c.args.at) (sym (taken (goal.at.returns-then-line-eq0-2 c).Then-line-eq0-2 (λ i. omega (arith, c.type_inv.plane i)))),
)
