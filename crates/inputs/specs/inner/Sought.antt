-- The record that a refusal is about, as the records in turn are searched for it.
use Rattle.std.specs.Prelude.{Bool, not, List, ◌+◌, ℕ, eqb}
use Rattle.laws.specs.Any.{any, first_at}
use Rattle.laws.specs.Pick.{pick}
use Rattle.image.specs.Format.{has_alpha}
use Rattle.image.specs.declared.format.Form.{Form}
use Rattle.inputs.specs.declared.sought.Sought.{Sought}

-- another depth than that, or alpha
unfoldable pub is_sought : Sought → Form → Bool
is_sought (Sought.OtherDepth depth) m = not (eqb m.format.depth depth)
is_sought Sought.Alpha m = has_alpha m.format

-- the index of the first that passes a test, i others before these; n where none does
unfoldable pub found_at : {A : Type 0} → ℕ → (A → Bool) → List A → ℕ → ℕ
found_at i t items n = pick (any t items) (i + first_at t items) n
