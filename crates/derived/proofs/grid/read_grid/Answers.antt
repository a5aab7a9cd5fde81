use mathlib.Core.Path.{◌∙◌, sym}
use native.Mathlib.Omega.{arith}
use Rattle.derived.proofs.FieldLaws.{field_below}
use Rattle.derived.proofs.grid.read_grid.Goals as goal

pub overflow_add-result : goal.overflow_add-result
overflow_add-result c = omega (arith, field_below _ _ 1 _ _ (λ i. omega (arith, c.type_inv.body i)) (sym c.field.ensures ∙ c.in_ok-rows.was))

pub overflow_add-result-2 : goal.overflow_add-result-2
overflow_add-result-2 c = omega (arith, field_below _ _ 1 _ _ (λ i. omega (arith, c.type_inv.body i)) (sym c.field-2.ensures ∙ c.in_ok-columns.was))
