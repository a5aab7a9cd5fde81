-- The canvas session's calls: state, answer and buffer ("Canvas session"; "Refusals in order", Start, Place, Blank, Finish).
use Rattle.std.specs.Prelude.{Ok, Err, Bool, not, List, [], ◌∷◌, ◌%◌, ◌-◌, ◌/◌, ℕ, leb, ltb, length}
use Rattle.laws.specs.Out.{Out, and_then, refuse}
use Rattle.laws.specs.Pick.{pick}
use Rattle.laws.specs.Puts.{puts}
use Rattle.planes.specs.Bytes.{decode, head_bytes, size_of}
use Rattle.image.specs.Format.{has_alpha, middle_of, top_of}
use Rattle.planes.specs.Picture.{Pic}
use Rattle.records.specs.Record.{record_of}
use Rattle.image.specs.declared.format.Form.{Form}
use Rattle.image.specs.declared.format.Part.{Part}
use Rattle.image.specs.declared.format.Part.TheVariants.{Alpha, Cb, Cr, Luma}
use Rattle.image.specs.declared.format.PixelFormat.{PixelFormat}
use Rattle.records.specs.declared.record.Frame.{Frame}
use Rattle.derived.specs.Grid.{grid_of}
use Rattle.session.specs.declared.state.Canvas.{Canvas}
use Rattle.derived.specs.declared.grid.GridDescriptor.{GridDescriptor}
use Rattle.cells.specs.Cell.{store_tile, tile_pic}
use Rattle.grid.specs.Mosaic.{canvas_bytes}
use Rattle.tiles.specs.Tiles.{canvas_form, count_of, promotes_of}
use Rattle.session.specs.Marks.{all_marked, mark_of}
use Rattle.session.specs.State.{accept_of, has_tile, open_of, state_ok}

-- ---- what a call comes to

-- the state and the buffer after a call that draws
pub record CanvasAfter : Type 0 where
  pub canvas : Canvas
  pub buffer : List ℕ

-- the state that it hands back; a refused call changes neither state nor buffer
unfoldable pub drawn_canvas : Out CanvasAfter → Out Canvas
drawn_canvas o = and_then o (λ d. Ok d.canvas)

unfoldable pub drawn_buffer : List ℕ → Out CanvasAfter → List ℕ
drawn_buffer d (Err r) = d
drawn_buffer d (Ok e) = e.buffer

-- ---- start: 1, 2, 1, 3, 4 as grid

unfoldable pub session_of : List ℕ → Out Canvas
session_of body = and_then (grid_of body) (λ g. Ok (open_of g))

-- ---- a cell drawn

-- the canvas's form with the alpha plane reserved
unfoldable pub reserved_form : GridDescriptor → Form → Form
reserved_form g t = canvas_form g t 1

-- the alpha number: the last of the header's bytes
unfoldable pub alpha_place : Form → ℕ
alpha_place c = length (head_bytes c) - 1

-- the first accepted place writes the canvas: samples 0, the alpha plane at top, the alpha number 0
unfoldable pub begun : Bool → Form → List ℕ → List ℕ
begun first c d = pick first (puts d 0 (canvas_bytes c 0)) d

-- the alpha number turns 1 at a tile with alpha
unfoldable pub alpha_told : Form → Form → List ℕ → List ℕ
alpha_told c m d = pick (has_alpha m.format) (puts d (alpha_place c) (1 ∷ [])) d

-- a tile of form m in its cell: the alpha number and the samples; a part that the tile has not is left
unfoldable pub drawn_on : GridDescriptor → Form → ℕ → Form → Pic → List ℕ → List ℕ
drawn_on g t i m T d = store_tile (reserved_form g t) (tile_pic (promotes_of g t) T) (i % g.columns) (i / g.columns) (alpha_told (reserved_form g t) m d)

unfoldable pub marked_on : Canvas → ℕ → Form → ℕ → Canvas
marked_on s i t a = record { desc = s.desc; tile = t; alpha = a; marks = mark_of s.marks i }

-- ---- place: 5 a state that no call can have made; 11 index outside; record; 12, 13, 14; 17 below record and reserved plane

-- the state and the buffer after a tile of a record, beside the first tile's form
unfoldable pub placed_as : Canvas → ℕ → List ℕ → List ℕ → Frame → Form → CanvasAfter
placed_as s i bytes d fr t = record {
  canvas = marked_on s i t (pick (has_alpha fr.form.format) 1 s.alpha);
  buffer = drawn_on s.desc t i fr.form (decode bytes fr) (begun (not (has_tile s)) (reserved_form s.desc t) d);
}

unfoldable pub place_of : Canvas → ℕ → List ℕ → List ℕ → Out CanvasAfter
place_of s i bytes d =
    refuse (not (state_ok s)) 5
    (refuse (leb (count_of s.desc) i) 11
    (and_then (record_of bytes) (λ fr.
    and_then (accept_of s fr.form) (λ t.
    refuse (ltb (length d) (size_of (reserved_form s.desc t))) 17 (Ok (placed_as s i bytes d fr t))))))

-- ---- blank: 5; 15 nothing placed; 11; 17

-- the first tile's form, 2 ^ (depth - 1) in each colour plane, alpha top
unfoldable pub blank_at : PixelFormat → Part → ℕ
blank_at f Luma = middle_of f
blank_at f Cb = middle_of f
blank_at f Cr = middle_of f
blank_at f Alpha = top_of f

unfoldable pub blank_pic : Form → Pic
blank_pic t = record { form = t; at = λ p x y. blank_at t.format p }

unfoldable pub blanked_as : Canvas → ℕ → List ℕ → CanvasAfter
blanked_as s i d = record {
  canvas = marked_on s i s.tile s.alpha;
  buffer = drawn_on s.desc s.tile i s.tile (blank_pic s.tile) d;
}

unfoldable pub blank_of : Canvas → ℕ → List ℕ → Out CanvasAfter
blank_of s i d =
    refuse (not (state_ok s)) 5
    (refuse (not (has_tile s)) 15
    (refuse (leb (count_of s.desc) i) 11
    (refuse (ltb (length d) (size_of (reserved_form s.desc s.tile))) 17 (Ok (blanked_as s i d)))))

-- ---- finish: 5; 15 a cell missing; 17; the length, without alpha if no tile had it

unfoldable pub finish_of : Canvas → ℕ → Out ℕ
finish_of s room =
    refuse (not (state_ok s)) 5
    (refuse (not (has_tile s)) 15
    (refuse (not (all_marked s.marks 0 (count_of s.desc))) 15
    (refuse (ltb room (size_of (reserved_form s.desc s.tile))) 17
    (Ok (size_of (canvas_form s.desc s.tile s.alpha))))))
