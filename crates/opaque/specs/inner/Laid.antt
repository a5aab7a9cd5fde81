-- Inputs without alpha laid on a canvas's record, one after the other.
use Rattle.std.specs.Prelude.{Bool, ◌&&◌, ◌||◌, false, not, List, [], ◌∷◌, ◌≡◌, ◌*◌, ◌+◌, ◌<◌, ◌≤◌, min, ℕ, eqb}
use Rattle.laws.specs.Pick.{pick}
use Rattle.image.specs.Format.{bytes_of, columns_of, cover, half_x, half_y, halves_x, halves_y, has_alpha, has_part, middle_of, row_size, rows_of, top_of}
use Rattle.records.specs.Record.{plane_of}
use Rattle.image.specs.Sound.{FormSound}
use Rattle.image.specs.declared.format.Form.{Form}
use Rattle.image.specs.declared.format.Part.{Part}
use Rattle.image.specs.declared.format.Part.TheVariants.{Alpha, Cb, Cr, Luma}
use Rattle.image.specs.declared.format.PixelFormat.{PixelFormat}
use Rattle.records.specs.declared.record.Frame.{Frame}
use Rattle.records.specs.inner.Placed.{InSlice}
use Rattle.planes.specs.Bytes.{decode, samples_of, size_of, tight_at}
use Rattle.planes.specs.Picture.{Pic, full}
use Rattle.paste.specs.Stored.{store_rows}
use Rattle.paste.specs.declared.rows.Source.{Source}
use Rattle.derived.specs.Overlay.{placement_at}
use Rattle.derived.specs.declared.overlay.OverlayDescriptor.{OverlayDescriptor}
use Rattle.derived.specs.declared.overlay.Placement.{Placement}
use Rattle.opaque.specs.declared.axis.Window.{Window}
use Rattle.opaque.specs.declared.lay.Place.{Place}
use Rattle.opaque.specs.inner.Window.{spot_of, window_of}

-- what an input leaves at a sample, by the input's place there: held to top, with alpha top (document 01, Overlay)
unfoldable pub laid_at : ℕ → Pic → Part → ℕ → ℕ → ℕ
laid_at top T Luma u v = min (full T Luma u v) top
laid_at top T Cb u v = min (full T Cb u v) top
laid_at top T Cr u v = min (full T Cr u v) top
laid_at top T Alpha u v = top

-- the same of a plane that it has not: no colour, or top
unfoldable pub absent_of : PixelFormat → Part → ℕ
absent_of f Luma = middle_of f
absent_of f Cb = middle_of f
absent_of f Cr = middle_of f
absent_of f Alpha = top_of f

-- ---- one plane

unfoldable pub across_of : Form → Form → Placement → Part → Window
across_of c m o p = window_of (half_x c.format p) o.horizontal m.width (columns_of c p)

unfoldable pub down_of : Form → Form → Placement → Part → Window
down_of c m o p = window_of (half_y c.format p) o.vertical m.height (rows_of c p)

-- the rectangle that an input of a form covers, in the canvas's record
unfoldable pub place_of : Form → Form → Placement → Part → Place
place_of c m o p = record {
  at = (plane_of (tight_at c 0) p).start + ((down_of c m o p).at * row_size c p + (across_of c m o p).at * bytes_of c.format);
  stride = row_size c p;
  across = across_of c m o p;
  down = down_of c m o p;
}

-- where an input's samples are read: a halved axis is walked place by place where the canvas is not halved
unfoldable pub source_of : Frame → PixelFormat → Part → Place → Source
source_of fr c p q = record {
  bytes = bytes_of fr.form.format;
  stride = (plane_of fr p).stride;
  half_across = half_x fr.form.format p && not (half_x c p);
  half_down = half_y fr.form.format p && not (half_y c p);
  x = cover (half_x c p) q.across.spot;
  y = cover (half_y c p) q.down.spot;
}

-- the k-th row of the rectangle
unfoldable pub laid_row : Form → Pic → Part → Place → ℕ → List ℕ
laid_row c T p q k =
    samples_of (bytes_of c.format) (λ i. laid_at (top_of c.format) T p (spot_of (half_x c.format p) q.across i) (spot_of (half_y c.format p) q.down k))
    q.across.count

unfoldable pub lay_rows : Form → Pic → Part → Place → List ℕ → List ℕ
lay_rows c T p q d = store_rows d q.at q.stride (laid_row c T p q) q.down.count

-- if the canvas has the plane
unfoldable pub lay_part : Form → Pic → Placement → Part → List ℕ → List ℕ
lay_part c T o p d = pick (has_part c.format p) (lay_rows c T p (place_of c T.form o p) d) d

-- ---- every plane, every input

unfoldable pub lay_input : Form → Pic → Placement → List ℕ → List ℕ
lay_input c T o d = lay_part c T o Alpha (lay_part c T o Cr (lay_part c T o Cb (lay_part c T o Luma d)))

-- the inputs from number i on
unfoldable pub lay_frames : Form → List ℕ → List ℕ → OverlayDescriptor → ℕ → List Frame → List ℕ → List ℕ
lay_frames c body tray e i [] d = d
lay_frames c body tray e i (fr ∷ frs) d = lay_frames c body tray e (i + 1) frs (lay_input c (decode tray fr) (placement_at body e i) d)

-- ---- what is asked

-- a record that cannot be laid so: with alpha, of another depth, or not halved where the canvas is
unfoldable pub unfit : Form → Frame → Bool
unfit c fr =
    has_alpha fr.form.format
    || (not (eqb fr.form.format.depth c.format.depth)
    || (halves_x c.format && not (halves_x fr.form.format) || halves_y c.format && not (halves_y fr.form.format)))

-- a record that can, for a canvas in so many bytes
pub record Lays (tray : List ℕ) (fr : Frame) (c : Form) (n : ℕ) : Type 0 where
  pub inside : InSlice tray fr
  pub canvas : FormSound c
  pub fit : unfit c fr ≡ false
  pub room : size_of c ≤ n

-- a rectangle that has something: its places are the input's, and its rows lie in so many bytes
pub record PlaceFits (c m : Form) (p : Part) (q : Place) (n : ℕ) : Type 0 where
  pub across : 1 ≤ q.across.count
  pub down : 1 ≤ q.down.count
  pub wide : (i : ℕ) → i < q.across.count → spot_of (half_x c.format p) q.across i < m.width
  pub tall : (k : ℕ) → k < q.down.count → spot_of (half_y c.format p) q.down k < m.height
  pub writes : (k : ℕ) → k < q.down.count → q.at + k * q.stride + q.across.count * bytes_of c.format ≤ n
