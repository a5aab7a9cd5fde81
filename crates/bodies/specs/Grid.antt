-- The grid's body (document 02, A4; ISO/IEC 23008-12, 6.6.2.3.2).
use Rattle.std.specs.Prelude.{Ok}
use Rattle.std.specs.Prelude.{Bool, ◌&&◌, not, List, ◌∷◌, ◌-◌, ℕ, leb}
use Rattle.laws.specs.Out.{Out, and_then, fitted, refuse}
use Rattle.image.specs.Format.{judged_size}
use Rattle.derived.specs.Canvas.{field_bytes}
use Rattle.derived.specs.declared.grid.GridDescriptor.{GridDescriptor}
use Rattle.bodies.specs.Form.{canvas_bytes, flags_of, narrow_canvas}

-- version, flags, rows_minus_one, columns_minus_one, output_width, output_height
unfoldable pub grid_body_in : ℕ → GridDescriptor → List ℕ
grid_body_in flags g =
    0 ∷ flags ∷ (g.rows - 1) ∷ (g.columns - 1) ∷ canvas_bytes (field_bytes flags) g.output_width g.output_height

-- in the form that the rule picks
unfoldable pub grid_body : GridDescriptor → List ℕ
grid_body g = grid_body_in (flags_of (narrow_canvas g.output_width g.output_height)) g

-- how many tiles stand along an axis
unfoldable pub is_tile_count : ℕ → Bool
is_tile_count n = leb 1 n && leb n 256

-- 19 rows or columns outside 1 to 256; 3 a side 0, 4 above 2 ^ 30 pixels
unfoldable pub grid_judged : GridDescriptor → Out Unit
grid_judged g =
    refuse (not (is_tile_count g.rows && is_tile_count g.columns)) 19
    (and_then (judged_size g.output_width g.output_height) (λ _. Ok tt))

-- 17 last
unfoldable pub grid_body_run : GridDescriptor → ℕ → Out (List ℕ)
grid_body_run g room = and_then (grid_judged g) (λ _. fitted room (grid_body g))
