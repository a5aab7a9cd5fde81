use native.Mathlib.Omega.{arith}
use Rattle.numbers.proofs.Field.{big_endian-none, big_endian-more, weight-more, weight-small}
use lib.ListN.{get_or}
use Prim.Native.Nat.{ℕ, ◌+◌, ◌*◌, ◌^◌, ◌<◌}
use mathlib.Core.Path.{sym, ap, ◌∙◌}
use Rattle.numbers.proofs.Cursor.field.Goals as goal

pub loop-i-init : goal.loop-i-init
loop-i-init c = (sym (big_endian-none _ _), omega arith)

pub overflow_mul-value : goal.overflow_mul-value
overflow_mul-value c = let h : c.loop-i.value < 256 ^ 4 = omega (arith, weight-small c.loop-i.i 4 (omega arith)) in omega arith

pub overflow_add-value-in-loop-i : goal.overflow_add-value-in-loop-i
overflow_add-value-in-loop-i c = let h : c.loop-i.value < 256 ^ 4 = omega (arith, weight-small c.loop-i.i 4 (omega arith)) in omega (arith, c.type_inv.s (c.args.self.at + c.loop-i.i))

pub loop-i-preserved : goal.loop-i-preserved
loop-i-preserved c = (
  ap (λ (v : ℕ). v * 256 + get_or c.args.s.now (c.args.self.at + c.loop-i.i) 0) c.loop-i.invariant.0 ∙ sym (big_endian-more _ _ _),
  weight-more c.loop-i.i c.loop-i.value _ c.loop-i.invariant.1 (omega (arith, c.type_inv.s (c.args.self.at + c.loop-i.i))),
)

pub overflow_cast-result : goal.overflow_cast-result
overflow_cast-result c = let h : c.loop-i.value < 256 ^ 4 = omega (arith, weight-small c.loop-i.i 4 (omega arith)) in omega arith
