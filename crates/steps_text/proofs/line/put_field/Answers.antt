use native.Mathlib.Omega.{arith}
use Rattle.steps_text.proofs.TextLaws.{field_stored, length-field}
use Rattle.steps_text.proofs.line.put_field.Goals as goal

pub write_decimal-end-requires : goal.write_decimal-end-requires
write_decimal-end-requires c = omega (arith, length-field c.args.n c.args.after, c.requires)

pub bounds-out-end : goal.bounds-out-end
bounds-out-end c = omega (arith, length-field c.args.n c.args.after, c.requires, c.write_decimal-end.ensures.0, c.write_decimal-end.auto.out)

pub overflow_add-result : goal.overflow_add-result
overflow_add-result c = omega (arith, length-field c.args.n c.args.after, c.requires, c.write_decimal-end.ensures.0, c.well_formed)

pub returns : goal.returns
returns c = field_stored _ _ _ _ _ _ c.write_decimal-end.ensures.0 c.write_decimal-end.ensures.1
