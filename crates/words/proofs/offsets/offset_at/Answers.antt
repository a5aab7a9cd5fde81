use mathlib.Core.Path.{◌∙◌, ap}
use Prim.Native.Nat.{◌+◌}
use native.Mathlib.Omega.{arith}
use Rattle.numbers.specs.Field.{offset_of}
use Rattle.words.proofs.OffsetLaws.{long-signed, short-signed}
use Rattle.words.proofs.offsets.offset_at.Goals as goal

pub overflow_cast-high : goal.overflow_cast-high
overflow_cast-high c = omega (arith, c.type_inv.body c.args.at)

pub overflow_mul-high : goal.overflow_mul-high
overflow_mul-high c = omega (arith, c.type_inv.body c.args.at)

pub overflow_cast-high-2 : goal.overflow_cast-high-2
overflow_cast-high-2 c =
    omega (arith, c.type_inv.body (c.args.at + 1))

pub overflow_add-high-2 : goal.overflow_add-high-2
overflow_add-high-2 c =
    omega (arith, c.type_inv.body c.args.at, c.type_inv.body (c.args.at + 1))

pub signed-requires : goal.signed-requires
signed-requires c =
    (omega (arith, c.type_inv.body c.args.at, c.type_inv.body (c.args.at + 1)), omega arith)

pub returns-then-bytes-lt4 : goal.returns-then-bytes-lt4
returns-then-bytes-lt4 c =
    c.signed.ensures ∙ ap offset_of (short-signed _ _ _ c.requires.0 c.if-bytes-lt4.true c.requires.2)

pub overflow_mul-pattern : goal.overflow_mul-pattern
overflow_mul-pattern c =
    omega (arith, c.type_inv.body c.args.at, c.type_inv.body (c.args.at + 1))

pub overflow_cast-pattern : goal.overflow_cast-pattern
overflow_cast-pattern c =
    omega (arith, c.type_inv.body (c.args.at + 2))

pub overflow_add-pattern-2 : goal.overflow_add-pattern-2
overflow_add-pattern-2 c =
    omega (arith, c.type_inv.body c.args.at, c.type_inv.body (c.args.at + 1), c.type_inv.body (c.args.at + 2))

pub overflow_mul-pattern-2 : goal.overflow_mul-pattern-2
overflow_mul-pattern-2 c =
    omega (arith, c.type_inv.body c.args.at, c.type_inv.body (c.args.at + 1), c.type_inv.body (c.args.at + 2))

pub overflow_cast-pattern-2 : goal.overflow_cast-pattern-2
overflow_cast-pattern-2 c =
    omega (arith, c.type_inv.body (c.args.at + 3))

pub overflow_add-pattern-4 : goal.overflow_add-pattern-4
overflow_add-pattern-4 c =
    omega (arith, c.type_inv.body c.args.at, c.type_inv.body (c.args.at + 1), c.type_inv.body (c.args.at + 2), c.type_inv.body (c.args.at + 3))

pub signed-requires-2 : goal.signed-requires-2
signed-requires-2 c =
    (omega (arith, c.type_inv.body c.args.at, c.type_inv.body (c.args.at + 1), c.type_inv.body (c.args.at + 2), c.type_inv.body (c.args.at + 3)), omega arith)

pub returns : goal.returns
returns c =
    c.signed-2.ensures ∙ ap offset_of (long-signed _ _ _ c.if-bytes-lt4.false c.requires.1)
