-- The overlay's body (document 02, A4; ISO/IEC 23008-12, 6.6.2.2.2).
use Rattle.std.specs.Prelude.{Ok}
use Rattle.std.specs.Prelude.{Bool, ◌&&◌, List, ◌++◌, ◌∷◌, ◌≡◌, ◌*◌, ◌+◌, ◌/◌, ◌<◌, ◌^◌, ◌≤◌, ℕ, eqb, ltb, ℤ, get_or, length}
use Rattle.laws.specs.Any.{all_below}
use Rattle.laws.specs.Out.{Out, and_then, fitted, refuse}
use Rattle.laws.specs.Span.{span}
use Rattle.numbers.specs.Field.{big_endian_bytes, pattern_of, signed_of}
use Rattle.image.specs.Format.{judged_size}
use Rattle.derived.specs.Canvas.{field_bytes}
use Rattle.derived.specs.Overlay.{horizontal_at, vertical_at}
use Rattle.derived.specs.declared.overlay.Fill.{Fill}
use Rattle.derived.specs.declared.overlay.OverlayDescriptor.{OverlayDescriptor}
use Rattle.bodies.specs.Form.{canvas_bytes, flags_of, narrow_canvas, narrow_offset}

-- the fields: the fill, the canvas's sides, how many inputs there are, and how far right of and below the canvas's corner each input's own is
pub record OverlayFields : Type 0 where
  pub fill : Fill
  pub width : ℕ
  pub height : ℕ
  pub count : ℕ
  pub horizontal : ℕ → ℤ
  pub vertical : ℕ → ℤ

-- canvas_fill_value
unfoldable pub fill_bytes : Fill → List ℕ
fill_bytes f = big_endian_bytes 2 f.red ++ (big_endian_bytes 2 f.green ++ (big_endian_bytes 2 f.blue ++ big_endian_bytes 2 f.alpha))

-- a signed number of so many bytes
unfoldable pub offset_bytes : ℕ → ℤ → List ℕ
offset_bytes bytes z = big_endian_bytes bytes (pattern_of (2 ^ (8 * bytes)) z)

-- horizontal_offset and vertical_offset of input i
unfoldable pub input_bytes : ℕ → OverlayFields → ℕ → List ℕ
input_bytes bytes o i = offset_bytes bytes (o.horizontal i) ++ offset_bytes bytes (o.vertical i)

-- version, flags, canvas_fill_value, output_width, output_height, and the offsets of each input in turn
unfoldable pub overlay_body_in : ℕ → OverlayFields → List ℕ
overlay_body_in flags o =
    0 ∷ flags
    ∷ (fill_bytes o.fill ++ (canvas_bytes (field_bytes flags) o.width o.height ++ span (input_bytes (field_bytes flags) o) 0 o.count))

-- whether every size and every offset is one of the 16-bit form
unfoldable pub narrow_overlay : OverlayFields → Bool
narrow_overlay o = narrow_canvas o.width o.height && all_below o.count (λ i. narrow_offset (o.horizontal i) && narrow_offset (o.vertical i))

-- in the form that the rule picks
unfoldable pub overlay_body : OverlayFields → List ℕ
overlay_body o = overlay_body_in (flags_of (narrow_overlay o)) o

-- 3 a side 0, 4 above 2 ^ 30 pixels; 4 above 65,536 inputs, 15 without inputs
unfoldable pub overlay_judged : OverlayFields → Out Unit
overlay_judged o =
    and_then (judged_size o.width o.height) (λ _.
    refuse (ltb 65536 o.count) 4
    (refuse (eqb o.count 0) 15 (Ok tt)))

-- 17 last
unfoldable pub overlay_body_run : OverlayFields → ℕ → Out (List ℕ)
overlay_body_run o room = and_then (overlay_judged o) (λ _. fitted room (overlay_body o))

-- the fields as they are handed in: of each input in turn two words, the unsigned patterns of its horizontal and its vertical offset; a last
-- word without a partner is none
unfoldable pub offset_in : List ℕ → ℕ → ℤ
offset_in words k = signed_of (2 ^ 32) (get_or words k 0)

unfoldable pub fields_in : Fill → ℕ → ℕ → List ℕ → OverlayFields
fields_in fill width height words = record {
  fill = fill;
  width = width;
  height = height;
  count = length words / 2;
  horizontal = λ i. offset_in words (2 * i);
  vertical = λ i. offset_in words (2 * i + 1);
}

-- what 16 bits hold of a fill
pub record FillSmall (f : Fill) : Type 0 where
  pub red : f.red ≤ 65535
  pub green : f.green ≤ 65535
  pub blue : f.blue ≤ 65535
  pub alpha : f.alpha ≤ 65535

-- the fields of a body that was read
unfoldable pub fields_of : List ℕ → OverlayDescriptor → OverlayFields
fields_of s d = record {
  fill = d.canvas_fill;
  width = d.output_width;
  height = d.output_height;
  count = d.count;
  horizontal = horizontal_at s d;
  vertical = vertical_at s d;
}

-- the same fields, and the same offsets of each input
pub record SameFields (o p : OverlayFields) : Type 0 where
  pub fill : o.fill ≡ p.fill
  pub width : o.width ≡ p.width
  pub height : o.height ≡ p.height
  pub count : o.count ≡ p.count
  pub horizontal : (i : ℕ) → i < o.count → o.horizontal i ≡ p.horizontal i
  pub vertical : (i : ℕ) → i < o.count → o.vertical i ≡ p.vertical i
