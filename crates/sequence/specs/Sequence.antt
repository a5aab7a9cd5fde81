-- Calls of a session in turn ("Canvas session").
use Rattle.std.specs.Prelude.{Ok, Err, ◌&&◌, List, [], ◌∷◌, ◌≡◌, ◌%◌, ℕ, eqb, length, take}
use Rattle.laws.specs.Out.{Out, and_then}
use Rattle.laws.specs.Pick.{pick}
use Rattle.laws.specs.Puts.{Bytes}
use Rattle.planes.specs.Bytes.{decode, head_bytes}
use Rattle.image.specs.Format.{columns_of, has_alpha, has_part, rows_of}
use Rattle.planes.specs.Picture.{Pic}
use Rattle.records.specs.Record.{record_of}
use Rattle.image.specs.declared.format.Form.{Form}
use Rattle.image.specs.declared.format.Part.{Part}
use Rattle.records.specs.declared.record.Frame.{Frame}
use Rattle.derived.specs.declared.grid.GridDescriptor.{GridDescriptor}
use Rattle.cells.specs.Cell.{tile_form, tile_pic}
use Rattle.paste.specs.Stored.{headed}
use Rattle.grid.specs.Mosaic.{plain_at, tile_index}
use Rattle.records.specs.Tray.{no_frame, no_form}
use Rattle.tiles.specs.Tiles.{canvas_form, promotes_of}
use Rattle.session.specs.declared.state.Canvas.{Canvas}
use Rattle.session.specs.Session.{CanvasAfter, blank_of, blank_pic, finish_of, place_of, reserved_form, session_of}

-- cells placed in turn, each with its record; the last is the head of the list
unfoldable pub place_all : (ℕ → List ℕ) → List ℕ → Canvas → List ℕ → Out CanvasAfter
place_all records [] s d = Ok (record { canvas = s; buffer = d })
place_all records (j ∷ js) s d = and_then (place_all records js s d) (λ e. place_of e.canvas j (records j) e.buffer)

-- start, cells placed in turn, finish: the record at the start of the buffer
unfoldable pub session_run : List ℕ → (ℕ → List ℕ) → List ℕ → List ℕ → Out (List ℕ)
session_run body records js d =
    and_then (session_of body) (λ s.
    and_then (place_all records js s d) (λ e.
    and_then (finish_of e.canvas (length e.buffer)) (λ n. Ok (take n e.buffer))))

-- ---- calls that draw, places and blanks, in turn

-- a cell with its record, or a blank cell
pub data Call : Type 0 where
  place : ℕ → List ℕ → Call
  blank : ℕ → Call

unfoldable pub call_of : Call → CanvasAfter → Out CanvasAfter
call_of (place i bytes) e = place_of e.canvas i bytes e.buffer
call_of (blank i) e = blank_of e.canvas i e.buffer

-- calls that are accepted in turn; the last is the head of the list
unfoldable pub call_all : List Call → CanvasAfter → Out CanvasAfter
call_all [] e = Ok e
call_all (c ∷ cs) e = and_then (call_all cs e) (call_of c)

-- start, and such calls over one buffer
unfoldable pub calls_run : List ℕ → List Call → List ℕ → Out CanvasAfter
calls_run body cs d = and_then (session_of body) (λ s. call_all cs (record { canvas = s; buffer = d }))

-- a state that start and such calls come to, over some buffer
pub record MadeBy (s : Canvas) : Type 0 where
  pub body : List ℕ
  pub small : Bytes body
  pub calls : List Call
  pub before : List ℕ
  pub after : List ℕ
  pub run : calls_run body calls before ≡ Ok (record { canvas = s; buffer = after })

-- ---- what they leave

unfoldable pub cell_in : Call → ℕ
cell_in (place i bytes) = i
cell_in (blank i) = i

-- a record's picture; none where it is refused
unfoldable pub shown_in : List ℕ → Out Frame → Pic
shown_in bytes (Err r) = decode bytes no_frame
shown_in bytes (Ok fr) = decode bytes fr

-- what a call draws: its record's picture, or the blank tile of the first tile's form
unfoldable pub picture_of : Form → Call → Pic
picture_of t (place i bytes) = shown_in bytes (record_of bytes)
picture_of t (blank i) = blank_pic t

-- the first tile's form; of two calls or more the first stands last
unfoldable pub first_tile : Call → List Call → Form
first_tile c [] = (picture_of no_form c).form
first_tile c (c₁ ∷ cs) = first_tile c₁ cs

-- the alpha number turns 1 at a tile with alpha; a blank leaves it
unfoldable pub alpha_number : List Call → ℕ
alpha_number [] = 0
alpha_number (place i bytes ∷ cs) = pick (has_alpha (shown_in bytes (record_of bytes)).form.format) 1 (alpha_number cs)
alpha_number (blank i ∷ cs) = alpha_number cs

-- the cell that a place of a plane lies in, in a canvas whose first tile has the form t
unfoldable pub cell_at : GridDescriptor → Form → Part → ℕ → ℕ → ℕ
cell_at g t p x y = tile_index g.columns (columns_of (tile_form (promotes_of g t) t) p) (rows_of (tile_form (promotes_of g t) t) p) x y

-- a tile as it is drawn, and its sample at a place of the canvas
unfoldable pub drawn_pic : GridDescriptor → Form → Call → Pic
drawn_pic g t c = tile_pic (promotes_of g t) (picture_of t c)

unfoldable pub drawn_at : GridDescriptor → Form → Call → Part → ℕ → ℕ → ℕ
drawn_at g t c p x y = (drawn_pic g t c).at p (x % columns_of (tile_form (promotes_of g t) t) p) (y % rows_of (tile_form (promotes_of g t) t) p)

-- a sample of the canvas: that of the last call for its cell whose tile has the plane; with none of them 0, and top for alpha
unfoldable pub left_at : GridDescriptor → Form → List Call → Part → ℕ → ℕ → ℕ
left_at g t [] p x y = plain_at (reserved_form g t).format p
left_at g t (c ∷ cs) p x y =
    pick (eqb (cell_in c) (cell_at g t p x y) && has_part (drawn_pic g t c).form.format p) (drawn_at g t c p x y) (left_at g t cs p x y)

unfoldable pub left_pic : GridDescriptor → Form → List Call → Pic
left_pic g t cs = record { form = reserved_form g t; at = left_at g t cs }

-- the canvas's tight record with its alpha number, and the reserved alpha plane
unfoldable pub left_bytes : GridDescriptor → Form → List Call → List ℕ
left_bytes g t cs = headed (head_bytes (canvas_form g t (alpha_number cs))) (left_pic g t cs)
