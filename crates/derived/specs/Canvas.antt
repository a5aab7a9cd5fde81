-- What both descriptors have (ISO/IEC 23008-12, 6.6.2; document 01, "Refusals in order", Grid: 1, 2, 1, 3, 4).
use Rattle.std.specs.Prelude.{Ok, not, List, ◌%◌, ◌*◌, ◌+◌, ℕ, eqb}
use Rattle.laws.specs.Out.{Out, and_then, refuse}
use Rattle.numbers.specs.Field.{field_at, on_field}
use Rattle.image.specs.Format.{judged_size}
use Rattle.image.specs.declared.size.Size.{Size}
use Rattle.numbers.specs.declared.Cursor.{Cursor}

-- how many bytes a size or an offset has: FieldLength = ((flags & 1) + 1) * 16 bits
unfoldable pub field_bytes : ℕ → ℕ
field_bytes flags = 2 * (flags % 2 + 1)

-- the version and the flags, and the place past them: 1 empty, 2 a version that is not 0, 1 short
unfoldable pub start_of : List ℕ → Out (ℕ × Cursor)
start_of s =
    on_field (field_at s 0 1) (λ version a.
    refuse (not (eqb version 0)) 2
    (on_field (field_at s a 1) (λ flags b.
    Ok (field_bytes flags, record { at = b }))))

-- the canvas's sides, of so many bytes each, and the place past them: 1 short, 3 a side 0, 4 above 2 ^ 30 pixels
unfoldable pub canvas_at : List ℕ → ℕ → ℕ → Out (Size × Cursor)
canvas_at s at bytes =
    on_field (field_at s at bytes) (λ width a.
    on_field (field_at s a bytes) (λ height b.
    and_then (judged_size width height) (λ z.
    Ok (z, record { at = b }))))
