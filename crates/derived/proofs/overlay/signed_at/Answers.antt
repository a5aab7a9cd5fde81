use mathlib.Core.Path.{◌∙◌, sym}
use native.Mathlib.Omega.{arith}
use borrow.Author.Rules.{rules}
use Rattle.derived.proofs.FieldLaws.{field-inside}
use Rattle.derived.proofs.OffsetLaws.{pattern-fits, pattern-read}
use Rattle.derived.proofs.overlay.signed_at.Goals as goal

pub unwrap-value-requires : goal.unwrap-value-requires
unwrap-value-requires c = rw (c.field.ensures ∙ field-inside _ _ _ c.requires.1) (search rules)

pub signed-requires : goal.signed-requires
signed-requires c = pattern-fits _ _ _ _ _ c.requires.0 (λ i. omega (arith, c.type_inv.body i)) (sym c.field.ensures ∙ c.unwrap-value.ensures)

pub returns : goal.returns
returns c = c.signed.ensures ∙ pattern-read _ _ _ _ _ c.requires.0 (sym c.field.ensures ∙ c.unwrap-value.ensures)
