-- A canvas's state: which states calls can have made, and how a tile's form is held to the first's ("Canvas session"; "Refusals in
-- order", Place).
use Rattle.std.specs.Prelude.{Ok, Bool, ◌&&◌, not, ◌-◌, ◌/◌, eqb, leb}
use Rattle.laws.specs.Out.{Out, is_done, refuse}
use Rattle.laws.specs.Pick.{pick}
use Rattle.image.specs.Format.{form_of, has_size, judged_size}
use Rattle.records.specs.Tray.{no_form}
use Rattle.image.specs.declared.format.Form.{Form}
use Rattle.derived.specs.declared.grid.GridDescriptor.{GridDescriptor}
use Rattle.tiles.specs.Tiles.{count_of, spans_canvas, same_layout}
use Rattle.session.specs.Marks.{any_word, clear_from, no_marks}
use Rattle.session.specs.declared.state.Canvas.{Canvas}

-- ---- the state that start makes

unfoldable pub open_of : GridDescriptor → Canvas
open_of g = record { desc = g; tile = no_form; alpha = 0; marks = no_marks }

-- ---- the states that calls can have made

-- a descriptor that a body can have
unfoldable pub grid_ok : GridDescriptor → Bool
grid_ok g =
    leb 1 g.rows && (leb g.rows 256
    && (leb 1 g.columns && (leb g.columns 256 && is_done (judged_size g.output_width g.output_height))))

-- a form that a record can have
unfoldable pub form_ok : Form → Bool
form_ok m = is_done (form_of m.width m.height m.format.chroma m.format.depth m.format.alpha)

unfoldable pub has_tile : Canvas → Bool
has_tile s = not (eqb s.tile.width 0)

-- no tile yet: no form, no alpha, no mark
unfoldable pub bare_ok : Canvas → Bool
bare_ok s =
    eqb s.tile.height 0
    && (eqb s.tile.format.chroma 0
    && (eqb s.tile.format.depth 0
    && (eqb s.tile.format.alpha 0 && (eqb s.alpha 0 && not (any_word s.marks 0 1024)))))

-- a tile: a sound form that covers the canvas, alpha at least its own, no mark beyond the grid, and some mark
unfoldable pub tiled_ok : Canvas → Bool
tiled_ok s =
    form_ok s.tile
    && (spans_canvas s.desc s.tile
    && (leb s.alpha 1
    && (leb s.tile.format.alpha s.alpha
    && (clear_from s.marks (count_of s.desc) (count_of s.desc / 64) (1024 - count_of s.desc / 64) && any_word s.marks 0 1024))))

unfoldable pub state_ok : Canvas → Bool
state_ok s = grid_ok s.desc && pick (has_tile s) (tiled_ok s) (bare_ok s)

-- ---- a tile's form held to the first's

-- 12 until a tile is accepted; 13 and 14 after
unfoldable pub accept_of : Canvas → Form → Out Form
accept_of s m =
    pick (has_tile s)
    (refuse (not (has_size m s.tile.width s.tile.height)) 13 (refuse (not (same_layout s.tile m)) 14 (Ok s.tile)))
    (refuse (not (spans_canvas s.desc m)) 12 (Ok m))
