-- Rows stored one below the other, and a record behind another header.
use Rattle.std.specs.Prelude.{List, ◌++◌, ◌*◌, ◌+◌, suc, zero, ℕ}
use Rattle.laws.specs.Puts.{puts}
use Rattle.image.specs.declared.format.Part.TheVariants.{Alpha, Cb, Cr, Luma}
use Rattle.planes.specs.Bytes.{plane_bytes}
use Rattle.planes.specs.Picture.{Pic}

-- rows stored one below the other
unfoldable pub store_rows : List ℕ → ℕ → ℕ → (ℕ → List ℕ) → ℕ → List ℕ
store_rows d at stride f zero = d
store_rows d at stride f (suc k) = puts (store_rows d at stride f k) (at + k * stride) (f k)

-- a record's planes behind another header of the same length
unfoldable pub headed : List ℕ → Pic → List ℕ
headed h P = h ++ (plane_bytes P Luma ++ (plane_bytes P Cb ++ (plane_bytes P Cr ++ plane_bytes P Alpha)))
