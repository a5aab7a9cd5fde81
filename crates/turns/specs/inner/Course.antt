-- Where the samples of a turned plane stand: row by row to the right or left, and within a row down or up.
use Rattle.std.specs.Prelude.{List, ℕ, ◌+◌, ◌*◌, ◌^◌, ◌≤◌, ◌<◌, length}
use Rattle.turns.specs.inner.Stepped.{step_to, stepped}
use Rattle.turns.specs.declared.turn.Course.{Course}

-- the first sample of the row y
unfoldable pub row_from : Course → ℕ → ℕ
row_from c y = step_to c.from c.right c.left y

-- the first n samples of the row y
unfoldable pub course_row : List ℕ → ℕ → Course → ℕ → ℕ → List ℕ
course_row d bytes c n y = stepped d bytes (row_from c y) c.down c.up n

-- what so many samples of so many rows ask: each is inside
pub record CourseFits (d : List ℕ) (bytes : ℕ) (c : Course) (columns rows : ℕ) : Type 0 where
  pub positive : 1 ≤ bytes
  pub bounded : bytes ≤ 2
  pub small : (k y : ℕ) → k ≤ columns → y ≤ rows → c.from + y * c.right + k * c.down < 2 ^ 64
  pub across : (y : ℕ) → y < rows → y * c.left ≤ c.from + y * c.right
  pub behind : (k y : ℕ) → k < columns → y < rows → k * c.up ≤ row_from c y + k * c.down
  pub inside : (k y : ℕ) → k < columns → y < rows → step_to (row_from c y) c.down c.up k + bytes ≤ length d

-- rows of so many bytes, one below the other, are inside
unfoldable pub BlockFits : ℕ → ℕ → ℕ → ℕ → ℕ → Type 0
BlockFits out at pitch rows width = (y : ℕ) → y < rows → at + y * pitch + width ≤ out
