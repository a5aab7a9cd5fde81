use mathlib.Core.List.{◌∷◌}
use mathlib.Core.Path.{◌∙◌, ◌≡◌, ap, sym}
use Prim.Native.Nat.{◌+◌, ◌≤◌, ℕ}
use native.Mathlib.Numerals.{add-one}
use native.Mathlib.Omega.{arith}
use lib.ListN.{drop, drop_of_length-le, get_or, length}
use lib.Seq.{drop-cons}
use Rattle.laws.proofs.Writing.{writing-as, writing-done, writing-put, writing_start, writing-to}
use Rattle.planes.proofs.samples.copy_row.Goals as goal
use Rattle.planes.proofs.samples.copy_row.Goals.{In-loop-i}

-- the next byte is the head of what is left
module _ (c : In-loop-i) where
  next : drop c.loop-i.i c.args.row.now ≡ get_or c.args.row.now c.loop-i.i 0 ∷ drop (c.loop-i.i + 1) c.args.row.now
  next = drop-cons c.args.row.now c.loop-i.i 0 c.loop-i-test.true ∙ ap (λ (k : ℕ). get_or c.args.row.now c.loop-i.i 0 ∷ drop k c.args.row.now) (sym (add-one c.loop-i.i))

pub loop-i-init : goal.loop-i-init
loop-i-init c = writing-to (writing_start _ _ _ c.requires) (omega arith)

pub overflow_add-out : goal.overflow_add-out
overflow_add-out c = let l = ap length (next (goal.at.overflow_add-out c).In-loop-i) in omega (arith, c.loop-i.invariant.room)

pub bounds-out-at : goal.bounds-out-at
bounds-out-at c = let l = ap length (next (goal.at.bounds-out-at c).In-loop-i) in omega (arith, c.loop-i.invariant.room)

pub loop-i-preserved : goal.loop-i-preserved
loop-i-preserved c = writing-to (writing-put (writing-as c.loop-i.invariant (next (goal.at.loop-i-preserved c).In-loop-i))) (omega arith)

pub returns : goal.returns
returns c = let l : length c.args.row.now ≤ c.loop-i.i = omega arith in (omega arith, (writing-done (writing-as c.loop-i.invariant (drop_of_length-le c.args.row.now l))).1)
