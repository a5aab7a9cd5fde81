-- The tiles of a grid: their refusals, and what they fix ("Grid" and "Refusals in order", Grid).
use Rattle.std.specs.Prelude.{Ok, Err, Bool, ◌&&◌, ◌||◌, not, List, [], ◌∷◌, ◌*◌, ℕ, eqb, leb}
use Rattle.laws.specs.declared.Item.TheVariants.{Record}
use Rattle.laws.specs.Out.{Out, about, after, and_then, reason, refuse}
use Rattle.laws.specs.Pick.{pick}
use Rattle.numbers.specs.Number.{on_number, read_number}
use Rattle.image.specs.Format.{has_alpha, has_size, needs444, odd, sized, with_alpha}
use Rattle.records.specs.Tray.{frames_at}
use Rattle.image.specs.declared.format.Form.{Form}
use Rattle.records.specs.declared.record.Frame.{Frame}
use Rattle.derived.specs.Grid.{grid_of}
use Rattle.derived.specs.declared.grid.GridDescriptor.{GridDescriptor}
use Rattle.cells.specs.Cell.{tile_form}
use Rattle.tiles.specs.declared.judge.Tiles.{Tiles}

-- ---- what the first tile fixes

-- whether everything is promoted: a halved side of tile or canvas is odd
unfoldable pub promotes_of : GridDescriptor → Form → Bool
promotes_of g t =
    needs444 t.format (odd t.width) (odd t.height)
    || needs444 t.format (odd g.output_width) (odd g.output_height)

-- the canvas: the descriptor's size, the first tile's format, promoted or as it is, with that alpha number
unfoldable pub canvas_form : GridDescriptor → Form → ℕ → Form
canvas_form g t a = with_alpha (tile_form (promotes_of g t) (sized t g.output_width g.output_height)) a

-- 12: tiles that do not cover the canvas
unfoldable pub spans_canvas : GridDescriptor → Form → Bool
spans_canvas g t = leb g.output_width (t.width * g.columns) && leb g.output_height (t.height * g.rows)

-- ---- tile by tile, with its index: 13 another size, 14 another chroma or depth; whether one of them has alpha

unfoldable pub same_layout : Form → Form → Bool
same_layout t m = eqb m.format.chroma t.format.chroma && eqb m.format.depth t.format.depth

unfoldable pub held_to : Form → ℕ → Form → Out ℕ
held_to t a m =
    refuse (not (has_size m t.width t.height)) 13
    (refuse (not (same_layout t m)) 14 (Ok (pick (has_alpha m.format) 1 a)))

unfoldable pub alike_from : Form → ℕ → List Frame → Out ℕ
alike_from t a [] = Ok a
alike_from t a (fr ∷ frs) = and_then (about Record 0 (held_to t a fr.form)) (λ b. after 1 (alike_from t b frs))

unfoldable pub judge_of : GridDescriptor → ℕ → List Frame → Out Tiles
judge_of g at [] = Err (reason 11)
judge_of g at (fr ∷ frs) =
    refuse (not (spans_canvas g fr.form)) 12
    (and_then (alike_from fr.form 0 (fr ∷ frs)) (λ a. Ok (record { desc = g; tile = fr.form; alpha = a; first = at })))

-- ---- the whole

unfoldable pub count_of : GridDescriptor → ℕ
count_of g = g.rows * g.columns

-- 5 tray count unreadable; the body's refusals; 11 tray count differs; records in turn; 12; 13 and 14
unfoldable pub tiles_at : List ℕ → List ℕ → ℕ → ℕ → Out Tiles
tiles_at body tray n at =
    and_then (grid_of body) (λ g.
    refuse (not (eqb n (count_of g))) 11
    (and_then (frames_at n tray at) (judge_of g at)))

unfoldable pub tiles_of : List ℕ → List ℕ → Out Tiles
tiles_of body tray = on_number (read_number tray 0) (tiles_at body tray)
