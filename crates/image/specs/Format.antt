-- Pixel formats: what a chroma number, a depth and an alpha number say of a picture's planes (document 01, "What is handed in").
use Rattle.std.specs.Prelude.{Ok}
use Rattle.std.specs.Prelude.{Bool, true, false, not, ◌&&◌, ◌||◌, ◌≡◌, ℕ, ◌+◌, ◌-◌, ◌*◌, ◌/◌, ◌%◌, ◌^◌, eqb, ltb, leb}
use Rattle.laws.specs.Pick.{pick}
use Rattle.laws.specs.Out.{Out, and_then, refuse}
use Rattle.image.specs.declared.size.Size.{Size}
use Rattle.image.specs.declared.format.PixelFormat.{PixelFormat}
use Rattle.image.specs.declared.format.Form.{Form}
use Rattle.image.specs.declared.format.Part.{Part}
use Rattle.image.specs.declared.format.Part.TheVariants.{Luma, Cb, Cr, Alpha}

-- the depths that a record may have
unfoldable pub is_depth : ℕ → Bool
is_depth depth = leb 8 depth && leb depth 16

-- the largest sample
abbrev pub top_at : ℕ → ℕ
top_at depth = 2 ^ depth - 1

unfoldable pub top_of : PixelFormat → ℕ
top_of f = top_at f.depth

-- the chroma sample of no colour
abbrev pub middle_at : ℕ → ℕ
middle_at depth = 2 ^ (depth - 1)

unfoldable pub middle_of : PixelFormat → ℕ
middle_of f = middle_at f.depth

unfoldable pub bytes_of : PixelFormat → ℕ
bytes_of f = pick (leb f.depth 8) 1 2

unfoldable pub is_mono : PixelFormat → Bool
is_mono f = eqb f.chroma 0

unfoldable pub has_alpha : PixelFormat → Bool
has_alpha f = not (eqb f.alpha 0)

-- whether a picture has the plane
unfoldable pub has_part : PixelFormat → Part → Bool
has_part f Luma = true
has_part f Cb = not (is_mono f)
has_part f Cr = not (is_mono f)
has_part f Alpha = has_alpha f

unfoldable pub plane_count : PixelFormat → ℕ
plane_count f = pick (is_mono f) 1 3 + pick (has_alpha f) 1 0

-- the axes that a chroma halves: 4:2:0 both, 4:2:2 the width
unfoldable pub halves_x : PixelFormat → Bool
halves_x f = eqb f.chroma 1 || eqb f.chroma 2

unfoldable pub halves_y : PixelFormat → Bool
halves_y f = eqb f.chroma 1

-- whether a plane is halved along an axis that is, or is not, halved for chroma
unfoldable pub halved : Bool → Part → Bool
halved b Luma = false
halved b Cb = b
halved b Cr = b
halved b Alpha = false

abbrev pub half_x : PixelFormat → Part → Bool
half_x f p = halved (halves_x f) p

abbrev pub half_y : PixelFormat → Part → Bool
half_y f p = halved (halves_y f) p

-- along one axis: the sample that covers a place, and how many samples a side has
unfoldable pub cover : Bool → ℕ → ℕ
cover true x = x / 2
cover false x = x

unfoldable pub side_of : Bool → ℕ → ℕ
side_of true n = (n + 1) / 2
side_of false n = n

unfoldable pub columns_of : Form → Part → ℕ
columns_of m p = side_of (half_x m.format p) m.width

unfoldable pub rows_of : Form → Part → ℕ
rows_of m p = side_of (half_y m.format p) m.height

-- the bytes of a row
unfoldable pub row_size : Form → Part → ℕ
row_size m p = columns_of m p * bytes_of m.format

-- the sample (cx, cy) of a plane covers the place (x, y) of a picture
pub record Covers (f : PixelFormat) (p : Part) (cx cy x y : ℕ) : Type 0 where
  pub across : cover (half_x f p) x ≡ cx
  pub down : cover (half_y f p) y ≡ cy

-- ---- forms

-- the form with another size
unfoldable pub sized : Form → ℕ → ℕ → Form
sized m w h = record { width = w; height = h; format = m.format }

-- the form with that alpha number
unfoldable pub with_alpha : Form → ℕ → Form
with_alpha m a = record { width = m.width; height = m.height; format = record { chroma = m.format.chroma; depth = m.format.depth; alpha = a } }

-- whether a picture has that size
unfoldable pub has_size : Form → ℕ → ℕ → Bool
has_size m w h = eqb m.width w && eqb m.height h

-- the form at 4:4:4
unfoldable pub as444 : Form → Form
as444 m = record { width = m.width; height = m.height; format = record { chroma = 3; depth = m.format.depth; alpha = m.format.alpha } }

unfoldable pub odd : ℕ → Bool
odd n = eqb (n % 2) 1

-- whether an odd column or row needs a chroma sample that is not there
unfoldable pub needs444 : PixelFormat → Bool → Bool → Bool
needs444 f odd_x odd_y = halves_x f && odd_x || halves_y f && odd_y

-- ---- the refusals of a size, a format and a form ("Refusals in order", Record)

abbrev pub sides : ℕ → ℕ → Size
sides width height = record { width = width; height = height }

-- 3 a side 0; 4 above 2 ^ 30 pixels
unfoldable pub judged_size : ℕ → ℕ → Out Size
judged_size width height =
    refuse (eqb width 0) 3
    (refuse (eqb height 0) 3
    (refuse (ltb (2 ^ 30) (width * height)) 4 (Ok (sides width height))))

-- 5 chroma above 3 or alpha above 1; 6 a depth outside 8 to 16
unfoldable pub format_of : ℕ → ℕ → ℕ → Out PixelFormat
format_of chroma depth alpha =
    refuse (ltb 3 chroma) 5
    (refuse (ltb 1 alpha) 5
    (refuse (not (is_depth depth)) 6 (Ok (record { chroma = chroma; depth = depth; alpha = alpha }))))

-- the format's, then the size's
unfoldable pub form_of : ℕ → ℕ → ℕ → ℕ → ℕ → Out Form
form_of width height chroma depth alpha =
    and_then (format_of chroma depth alpha) (λ f.
    and_then (judged_size width height) (λ z.
    Ok (record { width = z.width; height = z.height; format = f })))
