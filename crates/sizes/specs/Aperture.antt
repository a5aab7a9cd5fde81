-- The clean aperture (ISO/IEC 14496-12, 12.1.4; document 01, clap).
use Rattle.std.specs.Prelude.{Ok, Err, not, ◌≡◌, ◌%◌, ◌*◌, ◌+◌, ◌-◌, ◌/◌, ◌^◌, ◌≤◌, suc, ℕ, eqb, ltb, ◌*ℤ◌, ◌+ℤ◌, negsuc, pos, ℤ}
use Rattle.laws.specs.Out.{Out, and_then, reason, refuse}
use Rattle.numbers.specs.Field.{signed_of}
use Rattle.sizes.specs.declared.clap.Clap.{Clap}
use Rattle.sizes.specs.declared.clap.Crop.{Crop}
use Rattle.sizes.specs.declared.clap.CropRect.{CropRect}
use Rattle.sizes.specs.declared.clap.AxisPart.{AxisPart}

-- the edge num / den on an axis with `gap` pixels to spare, of which the rest lies beyond: 8 where it is not whole, 9 where it is below 0 or
-- above gap
unfoldable pub edge_of : ℤ → ℕ → ℕ → ℕ → Out AxisPart
edge_of (pos k) den gap size = refuse (not (eqb (k % den) 0)) 8 (refuse (ltb gap (k / den)) 9 (Ok (record { edge = k / den; size = size; beyond = gap - k / den })))
edge_of (negsuc k) den gap size = refuse (not (eqb (suc k % den) 0)) 8 (Err (reason 9))

-- one axis: the size is n / d, and the edge ((input - size) * offset d + 2 * offset n) / (2 * offset d), where the offset's n is the
-- 32-bit pattern of a signed number; 7 a zero denominator, 8 a size that is not whole, 9 a size 0 or above the input, then the edge's
unfoldable pub axis_of : ℕ → ℕ → ℕ → ℕ → ℕ → Out AxisPart
axis_of n d off_n off_d input =
    refuse (eqb d 0) 7
    (refuse (eqb off_d 0) 7
    (refuse (not (eqb (n % d) 0)) 8
    (refuse (eqb (n / d) 0) 9
    (refuse (ltb input (n / d)) 9
    (edge_of (pos ((input - n / d) * off_d) +ℤ pos 2 *ℤ signed_of (2 ^ 32) off_n) (2 * off_d) (input - n / d) (n / d))))))

-- the width axis wholly before the height; the margins left and top are the edges (document 02, A1)
unfoldable pub resolve_of : Clap → ℕ → ℕ → Out Crop
resolve_of c width height =
    and_then (axis_of c.width_n c.width_d c.horiz_off_n c.horiz_off_d width) (λ a.
    and_then (axis_of c.height_n c.height_d c.vert_off_n c.vert_off_d height) (λ b.
    Ok (record {
      rect = record { x = a.edge; y = b.edge; width = a.size; height = b.size };
      margins = record { left = a.edge; top = b.edge; right = a.beyond; bottom = b.beyond };
    })))

-- a part of an axis, by its edge and its size: the size is n / d, the part lies in the input, and the edge is the formula's number exactly
pub record Exact (n d off_n off_d input edge size : ℕ) : Type 0 where
  pub positive : 1 ≤ size
  pub whole : size * d ≡ n
  pub inside : edge + size ≤ input
  pub placed : pos (edge * (2 * off_d)) ≡ pos ((input - size) * off_d) +ℤ pos 2 *ℤ signed_of (2 ^ 32) off_n

-- so along both axes of a picture
pub record ExactRect (c : Clap) (width height : ℕ) (r : CropRect) : Type 0 where
  pub across : Exact c.width_n c.width_d c.horiz_off_n c.horiz_off_d width r.x r.width
  pub down : Exact c.height_n c.height_d c.vert_off_n c.vert_off_d height r.y r.height
