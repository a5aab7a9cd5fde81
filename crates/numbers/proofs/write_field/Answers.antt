use mathlib.Core.List.{List, [], ◌∷◌}
use mathlib.Core.Path.{◌≡◌}
use Prim.Native.Nat.{◌%◌, ◌+◌, ◌/◌, ℕ}
use native.Mathlib.Omega.{arith}
use lib.ListN.{length-set}
use Rattle.laws.proofs.Writing.{Writing, writing-begin, writing-done, writing-put, writing-to}
use Rattle.numbers.proofs.Field.{big_endian_bytes-four, big_endian_bytes-two}
use Rattle.numbers.specs.Field.{big_endian_bytes}
use Rattle.numbers.proofs.write_field.Goals as goal
use Rattle.numbers.proofs.write_field.Goals.{Else-bytes-lt4, Start, Then-bytes-lt4}

-- the field's bytes, none of which is stored yet
abbrev Unstored : Start → List ℕ → Type 0
Unstored start bs = Writing start.args.out.now start.args.at (big_endian_bytes start.args.bytes start.args.value) start.args.out.now start.args.at bs

two : (c : Then-bytes-lt4) → Unstored (goal.at.Then-bytes-lt4 c).Start ((c.args.value / 256 % 256) ∷ (c.args.value % 256) ∷ [])
two c =
    writing-begin _ _ _ _ (big_endian_bytes-two c.args.bytes c.args.value c.requires.0 c.if-bytes-lt4.true) c.requires.1

four : (c : Else-bytes-lt4) → Unstored (goal.at.Else-bytes-lt4 c).Start ((c.args.value / 16777216) ∷ (c.args.value / 65536 % 256) ∷ (c.args.value / 256 % 256) ∷ (c.args.value % 256) ∷ [])
four c =
    writing-begin _ _ _ _ (big_endian_bytes-four c.args.bytes c.args.value c.requires.0 c.if-bytes-lt4.false (omega arith)) c.requires.1

pub bounds-out-at : goal.bounds-out-at
bounds-out-at c = omega (arith, (two c).room)

pub bounds-out-at-then-bytes-lt4 : goal.bounds-out-at-then-bytes-lt4
bounds-out-at-then-bytes-lt4 c = simp length-set (omega (arith, (two c).room))

pub returns-then-bytes-lt4 : goal.returns-then-bytes-lt4
returns-then-bytes-lt4 c = let w = writing-done (writing-put (writing-put (two c))) in (omega (arith, w.0), w.1)

pub bounds-out-at-2 : goal.bounds-out-at-2
bounds-out-at-2 c = omega (arith, (four c).room)

pub bounds-out-at-3 : goal.bounds-out-at-3
bounds-out-at-3 c = simp length-set (omega (arith, (four c).room))

pub bounds-out-at-4 : goal.bounds-out-at-4
bounds-out-at-4 c = simp length-set (omega (arith, (four c).room))

pub bounds-out-at-5 : goal.bounds-out-at-5
bounds-out-at-5 c = simp length-set (omega (arith, (four c).room))

pub returns : goal.returns
returns c =
    let third : c.args.at + 1 + 1 ≡ c.args.at + 2 = omega arith in
    let fourth : c.args.at + 2 + 1 ≡ c.args.at + 3 = omega arith in
    let w = writing-done (writing-put (writing-to (writing-put (writing-to (writing-put (writing-put (four c))) third)) fourth)) in
    (omega (arith, w.0), w.1)
