-- A line of samples through a plane: along a row or a column, forward or back, each sample once or twice.
use Rattle.std.specs.Prelude.{List, ℕ, ◌+◌, ◌-◌, ◌*◌, ◌/◌, ◌^◌, ◌≤◌, ◌<◌, length}
use Rattle.planes.specs.Bytes.{sample_at, samples_of}
use Rattle.planes.specs.declared.samples.Line.{Line}

-- the k-th sample's place among the plane's bytes: from − k or from + k steps, or half as many, rounded down
unfoldable pub place_on : Line → ℕ → ℕ
place_on l k = l.origin + (l.from + k * l.forth - k * l.back) / 2 ^ l.half * l.step

unfoldable pub line_bytes : List ℕ → ℕ → Line → ℕ → List ℕ
line_bytes d bytes l n = samples_of bytes (λ k. sample_at d bytes (place_on l k)) n

-- what reading its first n samples asks: each is inside
pub record LineFits (d : List ℕ) (bytes : ℕ) (l : Line) (n : ℕ) : Type 0 where
  pub positive : 1 ≤ bytes
  pub bounded : bytes ≤ 2
  pub forth : l.forth ≤ 1
  pub back : l.back ≤ 1
  pub half : l.half ≤ 1
  pub from : l.from < 2 ^ 32
  pub count : n < 2 ^ 32
  pub behind : (k : ℕ) → k < n → k * l.back ≤ l.from + k * l.forth
  pub inside : (k : ℕ) → k < n → place_on l k + bytes ≤ length d
