-- Which form a body is written in, and what both bodies have (document 02, A4; ISO/IEC 23008-12, 6.6.2).
use Rattle.std.specs.Prelude.{Bool, ◌&&◌, List, ◌++◌, ℕ, leb, neg_ℤ, pos, ℤ}
use Rattle.std.specs.Int.Signed.{le_z}
use Rattle.laws.specs.Pick.{pick}
use Rattle.numbers.specs.Field.{big_endian_bytes}

-- "The 16-bit form is used when every size is at most 65,535 …"
unfoldable pub narrow_canvas : ℕ → ℕ → Bool
narrow_canvas width height = leb width 65535 && leb height 65535

-- "… and every offset lies from −32,768 to 32,767 …"
unfoldable pub narrow_offset : ℤ → Bool
narrow_offset z = le_z (neg_ℤ (pos 32768)) z && le_z z (pos 32767)

-- "… else the 32-bit form": the flags, of which bit 0 is set there
unfoldable pub flags_of : Bool → ℕ
flags_of narrow = pick narrow 0 1

-- the canvas's sides, of so many bytes each
unfoldable pub canvas_bytes : ℕ → ℕ → ℕ → List ℕ
canvas_bytes bytes width height = big_endian_bytes bytes width ++ big_endian_bytes bytes height
