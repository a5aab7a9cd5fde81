-- The overlay's descriptor (ISO/IEC 23008-12, 6.6.2.2.2; document 01, "Refusals in order", Overlay).
use Rattle.std.specs.Prelude.{Ok, List, ◌*◌, ◌+◌, ◌^◌, ℕ, ltb, ℤ, length}
use Rattle.laws.specs.Out.{Out, and_then, refuse}
use Rattle.image.specs.declared.size.Size.{Size}
use Rattle.numbers.specs.declared.Cursor.{Cursor}
use Rattle.numbers.specs.Field.{big_endian, field_at, offset_of, on_field, signed_of}
use Rattle.derived.specs.Canvas.{canvas_at, start_of}
use Rattle.derived.specs.declared.overlay.Fill.{Fill}
use Rattle.derived.specs.declared.overlay.OverlayDescriptor.{OverlayDescriptor}
use Rattle.derived.specs.declared.overlay.Placement.{Placement}

-- canvas_fill_value: red, green, blue, alpha, of two bytes each, and the place past them
unfoldable pub fill_at : List ℕ → ℕ → Out (Fill × Cursor)
fill_at s at =
    on_field (field_at s at 2) (λ red a.
    on_field (field_at s a 2) (λ green b.
    on_field (field_at s b 2) (λ blue c.
    on_field (field_at s c 2) (λ alpha d.
    Ok (record { red = red; green = green; blue = blue; alpha = alpha }, record { at = d })))))

-- so many inputs, whose offsets stand at a place: 4 above 65,536, 1 where the body ends before their offsets do
unfoldable pub inputs_of : List ℕ → Fill → Size → ℕ → ℕ → ℕ → Out OverlayDescriptor
inputs_of s fill z offsets bytes count =
    refuse (ltb 65536 count) 4
    (refuse (ltb (length s) (offsets + count * (2 * bytes))) 1
    (Ok (record {
      canvas_fill = fill;
      output_width = z.width;
      output_height = z.height;
      count = count;
      offsets = offsets;
      bytes = bytes;
    })))

-- a body of so many inputs; bytes after the last offset are ignored
unfoldable pub overlay_of : List ℕ → ℕ → Out OverlayDescriptor
overlay_of s count =
    and_then (start_of s) (λ h.
    and_then (fill_at s h.1.at) (λ f.
    and_then (canvas_at s f.1.at h.0) (λ c.
    inputs_of s f.0 c.0 c.1.at h.0 count)))

-- where input i's two offsets stand
unfoldable pub offset_place : OverlayDescriptor → ℕ → ℕ
offset_place d i = d.offsets + i * (2 * d.bytes)

-- the signed number of so many bytes at a place
unfoldable pub signed_at : List ℕ → ℕ → ℕ → ℤ
signed_at s at bytes = signed_of (2 ^ (8 * bytes)) (big_endian s at bytes)

-- input i's horizontal_offset and vertical_offset
unfoldable pub horizontal_at : List ℕ → OverlayDescriptor → ℕ → ℤ
horizontal_at s d i = signed_at s (offset_place d i) d.bytes

unfoldable pub vertical_at : List ℕ → OverlayDescriptor → ℕ → ℤ
vertical_at s d i = signed_at s (offset_place d i + d.bytes) d.bytes

-- both, with their signs split off
unfoldable pub placement_at : List ℕ → OverlayDescriptor → ℕ → Placement
placement_at s d i = record { horizontal = offset_of (horizontal_at s d i); vertical = offset_of (vertical_at s d i) }
