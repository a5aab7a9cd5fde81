-- A tile in its cell of a canvas's bytes ("Grid": tile i covers its cell; what lies beyond the canvas is cut).
use Rattle.std.specs.Prelude.{Bool, ◌||◌, List, ◌*◌, ◌+◌, ◌-◌, ℕ, eqb, leb}
use Rattle.laws.specs.Pick.{pick}
use Rattle.image.specs.Format.{as444, bytes_of, columns_of, has_part, row_size, rows_of}
use Rattle.records.specs.Record.{plane_of}
use Rattle.image.specs.declared.format.Form.{Form}
use Rattle.image.specs.declared.format.Part.{Part}
use Rattle.image.specs.declared.format.Part.TheVariants.{Alpha, Cb, Cr, Luma}
use Rattle.planes.specs.Bytes.{samples_of, tight_at}
use Rattle.planes.specs.Picture.{Pic, promote}
use Rattle.paste.specs.Stored.{store_rows}
use Rattle.cells.specs.declared.cell.Cell.{Cell}

-- ---- the tile

-- promoted to 4:4:4, or as it is
unfoldable pub tile_form : Bool → Form → Form
tile_form b m = pick b (as444 m) m

unfoldable pub tile_pic : Bool → Pic → Pic
tile_pic b P = pick b (promote P) P

-- ---- its cell

-- along one axis: how many samples of a tile show in the cell of an index
unfoldable pub visible_of : ℕ → ℕ → ℕ → ℕ
visible_of canvas tile i = pick (leb tile (canvas - i * tile)) tile (canvas - i * tile)

-- where a part of a tile goes in the canvas's record: the rows above its cell, then the columns before it; a cell that lies beyond
-- the canvas has nothing
unfoldable pub no_cell : Cell
no_cell = record { at = 0; stride = 0; across = 0; down = 0 }

unfoldable pub cell_of : Form → Form → ℕ → ℕ → Part → Cell
cell_of c t column row p =
    pick (eqb (visible_of (columns_of c p) (columns_of t p) column) 0 || eqb (visible_of (rows_of c p) (rows_of t p) row) 0)
    no_cell
    (record {
      at = (plane_of (tight_at c 0) p).start + (row * rows_of t p * row_size c p + column * row_size t p);
      stride = row_size c p;
      across = visible_of (columns_of c p) (columns_of t p) column;
      down = visible_of (rows_of c p) (rows_of t p) row;
    })

-- the samples of a part of a picture in its cell
unfoldable pub store_cell : Cell → Pic → Part → List ℕ → List ℕ
store_cell k T p d = store_rows d k.at k.stride (λ y. samples_of (bytes_of T.form.format) (λ x. T.at p x y) k.across) k.down

-- a part of a tile in its cell, if the tile has it
unfoldable pub store_part : Form → Pic → ℕ → ℕ → Part → List ℕ → List ℕ
store_part c T column row p d = pick (has_part T.form.format p) (store_cell (cell_of c T.form column row p) T p d) d

unfoldable pub store_tile : Form → Pic → ℕ → ℕ → List ℕ → List ℕ
store_tile c T column row d =
    store_part c T column row Alpha (store_part c T column row Cr (store_part c T column row Cb (store_part c T column row Luma d)))
