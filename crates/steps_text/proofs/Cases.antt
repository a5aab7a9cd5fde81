-- Document 01's example of the steps program, computed from the definition.
use mathlib.Core.List.{[], ◌∷◌}
use mathlib.Core.Path.{◌≡◌, refl}
use Rattle.laws.specs.Out.{about, after, and_then, refuse}
use Rattle.laws.specs.Pick.{pick}
use Rattle.laws.specs.Utf8.{character_bytes, utf8}
use Rattle.numbers.specs.Decimal.{decimal, digits_onto}
use Rattle.numbers.specs.Number.{last_byte, on_number, read_from, read_number}
use Rattle.image.specs.Format.{odd, judged_size}
use Rattle.props.specs.Chain.{chain_at, count_at, entries_at}
use Rattle.props.specs.Entry.{byte_at, entry_at, imir_at, irot_at, kind_of, property_at}
use Rattle.props.specs.Size.{size_after, swapped}
use Rattle.steps_text.specs.Input.{steps_of}
use Rattle.steps_text.specs.Text.{field_text, heading, line_text, line_then, lines_from, out_text, text_of}

pub example : text_of (6 ∷ 4 ∷ 2 ∷ 2 ∷ 1 ∷ 1 ∷ 3 ∷ 0 ∷ 1 ∷ []) ≡ utf8 "step kind width height\n0 2 4 6\n1 3 4 6\n"
unfolding about after utf8 character_bytes heading text_of out_text steps_of judged_size lines_from line_then line_text field_text decimal digits_onto chain_at count_at entries_at entry_at property_at irot_at imir_at byte_at read_number read_from last_byte on_number and_then refuse pick size_after swapped odd kind_of
example = refl
