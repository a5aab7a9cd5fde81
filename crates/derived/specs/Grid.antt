-- The grid's descriptor (ISO/IEC 23008-12, 6.6.2.3.2).
use Rattle.std.specs.Prelude.{Ok, List, ◌+◌, ℕ}
use Rattle.laws.specs.Out.{Out, and_then}
use Rattle.numbers.specs.Field.{field_at, on_field}
use Rattle.derived.specs.Canvas.{canvas_at, start_of}
use Rattle.derived.specs.declared.grid.GridDescriptor.{GridDescriptor}

-- what follows the flags: rows_minus_one, columns_minus_one, the canvas's sides
unfoldable pub grid_at : List ℕ → ℕ → ℕ → Out GridDescriptor
grid_at s at bytes =
    on_field (field_at s at 1) (λ rows a.
    on_field (field_at s a 1) (λ columns b.
    and_then (canvas_at s b bytes) (λ c.
    Ok (record { rows = rows + 1; columns = columns + 1; output_width = c.0.width; output_height = c.0.height }))))

-- a body; bytes after the last field are ignored
unfoldable pub grid_of : List ℕ → Out GridDescriptor
grid_of s = and_then (start_of s) (λ h. grid_at s h.1.at h.0)
