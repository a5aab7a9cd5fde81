-- The composed picture of a grid ("Grid"), and the canvas that its tiles are stored in.
use Rattle.std.specs.Prelude.{Bool, false, true, List, [], ◌∷◌, ◌%◌, ◌*◌, ◌+◌, ◌/◌, ℕ, eqb}
use Rattle.laws.specs.Pick.{pick}
use Rattle.image.specs.Format.{columns_of, has_part, rows_of, top_of, with_alpha}
use Rattle.image.specs.declared.format.Form.{Form}
use Rattle.image.specs.declared.format.Part.{Part}
use Rattle.image.specs.declared.format.Part.TheVariants.{Alpha, Cb, Cr, Luma}
use Rattle.image.specs.declared.format.PixelFormat.{PixelFormat}
use Rattle.planes.specs.Bytes.{head_bytes}
use Rattle.planes.specs.Picture.{Pic}
use Rattle.paste.specs.Stored.{headed}
use Rattle.cells.specs.Cell.{tile_form, tile_pic}
use Rattle.tiles.specs.Tiles.{canvas_form, promotes_of}
use Rattle.tiles.specs.declared.judge.Tiles.{Tiles}

-- ---- the picture

-- the tile at a place of a plane: column i mod columns, row i / columns, each tile so many samples wide and high
unfoldable pub tile_index : ℕ → ℕ → ℕ → ℕ → ℕ → ℕ
tile_index columns wide high x y = y / high * columns + x / wide

-- a sample of a tile; alpha is top where the tile has none
unfoldable pub opaque_at : Pic → Part → ℕ → ℕ → ℕ
opaque_at T p x y = pick (has_part T.form.format p) (T.at p x y) (top_of T.form.format)

-- each place shows the tile of its cell, at the place in the tile
unfoldable pub mosaic_at : (ℕ → Pic) → ℕ → Form → Part → ℕ → ℕ → ℕ
mosaic_at T columns t p x y = opaque_at (T (tile_index columns (columns_of t p) (rows_of t p) x y)) p (x % columns_of t p) (y % rows_of t p)

-- tiles, promoted or as they are, joined on the canvas (ISO/IEC 23008-12, 6.6.2.3)
unfoldable pub grid_pic : (ℕ → Pic) → Tiles → Pic
grid_pic T t =
    let b = promotes_of t.desc t.tile in
    record {
      form = canvas_form t.desc t.tile t.alpha;
      at = mosaic_at (λ i. tile_pic b (T i)) t.desc.columns (tile_form b t.tile);
    }

-- ---- the canvas before its tiles: samples 0, and alpha at top

unfoldable pub plain_at : PixelFormat → Part → ℕ
plain_at f Luma = 0
plain_at f Cb = 0
plain_at f Cr = 0
plain_at f Alpha = top_of f

unfoldable pub plain_pic : Form → Pic
plain_pic m = record { form = m; at = λ p x y. plain_at m.format p }

-- the canvas whose header says that alpha number
unfoldable pub canvas_bytes : Form → ℕ → List ℕ
canvas_bytes c a = headed (head_bytes (with_alpha c a)) (plain_pic c)

-- whether a cell is in a list of cells
unfoldable pub among : ℕ → List ℕ → Bool
among i [] = false
among i (j ∷ js) = pick (eqb j i) true (among i js)
