use mathlib.Core.Path.{◌≡◌}
use Prim.Native.Nat.{◌%◌, ◌*◌, ◌+◌, ◌-◌, ◌/◌, ◌<◌, ◌^◌, ◌≤◌}
use native.Mathlib.Nat.{div-le_self, mod-eq_of_lt}
use native.Mathlib.Omega.{arith}
use lib.Pow.{pow_mono}
use Rattle.laws.proofs.Order.{mul-below}
use Rattle.image.specs.Format.{top_at}
use Rattle.blend.proofs.TopLaws.{by-top, rest-small}
use Rattle.blend.proofs.row.by_top.Goals as goal
use Rattle.blend.proofs.row.by_top.Goals.{Start}

power : (c : Start) → (2 ≤ 2 ^ c.args.d) × (2 ^ c.args.d ≤ 2 ^ 16)
power c = (pow_mono c.requires.0, pow_mono c.requires.1)

top-more : (c : Start) → 2 ^ c.args.d ≡ top_at c.args.d + 1
top-more c = omega (arith, power c)

rest : (c : Start) → (c.args.x / 2 ^ c.args.d * 2 ^ c.args.d ≤ c.args.x) × (c.args.x / 2 ^ c.args.d < top_at c.args.d * top_at c.args.d) × (c.args.x - c.args.x / 2 ^ c.args.d * 2 ^ c.args.d + c.args.x / 2 ^ c.args.d + 1 < 2 ^ c.args.d * 2 ^ c.args.d)
rest c = rest-small (top_at c.args.d) (2 ^ c.args.d) c.args.x (top-more c) (omega (arith, power c)) c.requires.2

square : (c : Start) → 2 ^ c.args.d * 2 ^ c.args.d ≤ 2 ^ 32
square c = mul-below (2 ^ 16) (2 ^ 16) (2 ^ c.args.d) (2 ^ c.args.d) (power c).1 (power c).1

shifted : (c : Start) → c.args.x / 2 ^ c.args.d * 2 ^ c.args.d % 2 ^ 64 ≡ c.args.x / 2 ^ c.args.d * 2 ^ c.args.d
shifted c = mod-eq_of_lt (omega (arith, rest c))

quotient : (c : Start) → c.args.x / 2 ^ c.args.d + (c.args.x - c.args.x / 2 ^ c.args.d * 2 ^ c.args.d % 2 ^ 64 + c.args.x / 2 ^ c.args.d + 1 + (c.args.x - c.args.x / 2 ^ c.args.d * 2 ^ c.args.d % 2 ^ 64 + c.args.x / 2 ^ c.args.d) / 2 ^ c.args.d) / 2 ^ c.args.d ≡ c.args.x / top_at c.args.d
quotient c = rw (shifted c) (by-top (top_at c.args.d) (2 ^ c.args.d) c.args.x (top-more c) (omega (arith, power c)) c.requires.2)

pub overflow_sub-y : goal.overflow_sub-y
overflow_sub-y c = omega (arith, rest c, shifted c)

pub overflow_add-y : goal.overflow_add-y
overflow_add-y c = omega (arith, rest c, shifted c, square c)

pub overflow_add-result : goal.overflow_add-result
overflow_add-result c = omega (arith, rest c, shifted c, square c)

pub overflow_add-result-2 : goal.overflow_add-result-2
overflow_add-result-2 c = omega (arith, rest c, shifted c, square c, div-le_self (c.args.x - c.args.x / 2 ^ c.args.d * 2 ^ c.args.d % 2 ^ 64 + c.args.x / 2 ^ c.args.d) (2 ^ c.args.d))

pub overflow_add-result-3 : goal.overflow_add-result-3
overflow_add-result-3 c = omega (arith, quotient c, div-le_self c.args.x (top_at c.args.d))

pub returns : goal.returns
returns c = quotient c
