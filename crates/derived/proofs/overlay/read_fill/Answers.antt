use mathlib.Core.Path.{◌∙◌, sym}
use native.Mathlib.Omega.{arith}
use Rattle.derived.proofs.FieldLaws.{field_below}
use Rattle.derived.proofs.overlay.read_fill.Goals as goal

pub overflow_cast-fill : goal.overflow_cast-fill
overflow_cast-fill c = omega (arith, field_below _ _ 2 _ _ (λ i. omega (arith, c.type_inv.body i)) (sym c.field.ensures ∙ c.in_ok-red.was))

pub overflow_cast-fill-2 : goal.overflow_cast-fill-2
overflow_cast-fill-2 c = omega (arith, field_below _ _ 2 _ _ (λ i. omega (arith, c.type_inv.body i)) (sym c.field-2.ensures ∙ c.in_ok-green.was))

pub overflow_cast-fill-3 : goal.overflow_cast-fill-3
overflow_cast-fill-3 c = omega (arith, field_below _ _ 2 _ _ (λ i. omega (arith, c.type_inv.body i)) (sym c.field-3.ensures ∙ c.in_ok-blue.was))

pub overflow_cast-fill-4 : goal.overflow_cast-fill-4
overflow_cast-fill-4 c = omega (arith, field_below _ _ 2 _ _ (λ i. omega (arith, c.type_inv.body i)) (sym c.field-4.ensures ∙ c.in_ok-alpha.was))
