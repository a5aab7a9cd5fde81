-- What the writer draws: a picture whose planes are walked along the axes of another, forward or back, exchanged or not.
use Rattle.std.specs.Prelude.{Bool, ◌&&◌, false, true, List, ◌≡◌, ◌*◌, ◌+◌, ◌-◌, ◌<◌, ◌^◌, ◌≤◌, ℕ, length}
use Rattle.laws.specs.Pick.{pick}
use Rattle.laws.specs.Span.{span}
use Rattle.image.specs.Format.{bytes_of, columns_of, cover, half_x, half_y, has_part, rows_of}
use Rattle.image.specs.Sound.{FormSound}
use Rattle.image.specs.declared.format.Form.{Form}
use Rattle.image.specs.declared.format.Part.{Part}
use Rattle.image.specs.declared.format.PixelFormat.{PixelFormat}
use Rattle.planes.specs.Bytes.{sample_in, samples_of}
use Rattle.planes.specs.Picture.{Pic, promote}
use Rattle.planes.specs.declared.samples.Line.{Line}
use Rattle.moves.specs.declared.walk.Axis.{Axis}
use Rattle.moves.specs.declared.walk.Move.{Move}
use Rattle.moves.specs.declared.walk.Walk.{Walk}

-- k samples along an axis from a sample on
unfoldable pub along_from : Bool → ℕ → ℕ → ℕ
along_from back from k = pick back (from - k) (from + k)

unfoldable pub moved : Move → Pic → Pic
moved v P =
    let Q = pick v.promoted (promote P) P in
    record {
      form = v.form;
      at = λ p x y.
          Q.at p
          (along_from v.across.back (cover (half_x Q.form.format p) v.across.from) (pick v.swapped y x))
          (along_from v.down.back (cover (half_y Q.form.format p) v.down.from) (pick v.swapped x y));
    }

-- a plane's own walk: by its own samples, or by places that its samples cover
unfoldable pub walk_x : Walk → ℕ → ℕ → ℕ
walk_x w x y = cover w.half_across (along_from w.across.back w.across.from (pick w.swapped y x))

unfoldable pub walk_y : Walk → ℕ → ℕ → ℕ
walk_y w x y = cover w.half_down (along_from w.down.back w.down.from (pick w.swapped x y))

unfoldable pub walk_at : List ℕ → ℕ → ℕ → Walk → ℕ → ℕ → ℕ
walk_at d bytes stride w x y = sample_in d bytes stride (walk_x w x y) (walk_y w x y)

unfoldable pub plane_axis : Bool → Bool → Axis → Axis
plane_axis promoted half a = pick promoted a (record { from = cover half a.from; back = a.back })

unfoldable pub walk_of : PixelFormat → Move → Part → Walk
walk_of f v p = record {
  swapped = v.swapped;
  across = plane_axis v.promoted (half_x f p) v.across;
  down = plane_axis v.promoted (half_y f p) v.down;
  half_across = v.promoted && half_x f p;
  half_down = v.promoted && half_y f p;
}

-- the line that a row of the new plane takes its samples from: across, or down where the axes are swapped
unfoldable pub line_of : Axis → Bool → ℕ → ℕ → Line
line_of a half origin step = record { origin = origin; step = step; from = a.from; forth = pick a.back 0 1; back = pick a.back 1 0; half = pick half 1 0 }

unfoldable pub row_line : Walk → ℕ → ℕ → ℕ → Line
row_line w bytes stride y =
    pick w.swapped
    (line_of w.down w.half_down (cover w.half_across (along_from w.across.back w.across.from y) * bytes) stride)
    (line_of w.across w.half_across (cover w.half_down (along_from w.down.back w.down.from y) * stride) bytes)

-- the rows of a plane that is walked
unfoldable pub walk_bytes : List ℕ → ℕ → ℕ → Walk → ℕ → ℕ → List ℕ
walk_bytes d bytes stride w columns rows = span (λ y. samples_of bytes (λ x. walk_at d bytes stride w x y) columns) 0 rows

-- ---- what walking asks

-- so many steps along an axis: none goes below 0
pub record StepsFit (a : Axis) (count : ℕ) : Type 0 where
  pub small : a.from < 2 ^ 31
  pub bounded : count < 2 ^ 31
  pub behind : (k : ℕ) → k < count → a.back ≡ true → k ≤ a.from

-- the row y of a walk
pub record WalkRowFits (w : Walk) (bytes stride y : ℕ) : Type 0 where
  pub bounded : y < 2 ^ 31
  pub across_small : w.across.from < 2 ^ 31
  pub down_small : w.down.from < 2 ^ 31
  pub across : w.swapped ≡ true → w.across.back ≡ true → y ≤ w.across.from
  pub down : w.swapped ≡ false → w.down.back ≡ true → y ≤ w.down.from
  pub sample : bytes ≤ 2
  pub row : stride < 2 ^ 32

-- every sample of the walk is inside the plane's bytes
pub record WalkInside (d : List ℕ) (bytes stride : ℕ) (w : Walk) (columns rows : ℕ) : Type 0 where
  pub positive : 1 ≤ bytes
  pub bounded : bytes ≤ 2
  pub row : stride < 2 ^ 32
  pub across : StepsFit w.across (pick w.swapped rows columns)
  pub down : StepsFit w.down (pick w.swapped columns rows)
  pub inside : (x y : ℕ) → x < columns → y < rows → walk_y w x y * stride + walk_x w x y * bytes + bytes ≤ length d

-- a move that every plane of a form can make
pub record MoveFits (m : Form) (v : Move) : Type 0 where
  pub sound : FormSound v.form
  pub bytes : bytes_of v.form.format ≡ bytes_of m.format
  pub parts : (p : Part) → has_part v.form.format p ≡ has_part m.format p
  pub across : (p : Part) → has_part m.format p ≡ true → StepsFit (walk_of m.format v p).across (pick v.swapped (rows_of v.form p) (columns_of v.form p))
  pub down : (p : Part) → has_part m.format p ≡ true → StepsFit (walk_of m.format v p).down (pick v.swapped (columns_of v.form p) (rows_of v.form p))
  pub inside : (p : Part) → has_part m.format p ≡ true → (x y : ℕ) → x < columns_of v.form p → y < rows_of v.form p
      → (walk_x (walk_of m.format v p) x y < columns_of m p) × (walk_y (walk_of m.format v p) x y < rows_of m p)
