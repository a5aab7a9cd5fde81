-- Samples of a plane that go into a rectangle of another: from a place on, row by row; a halved axis is walked place by place.
use Rattle.std.specs.Prelude.{List, ◌*◌, ◌+◌, ◌<◌, ◌^◌, ◌≤◌, min, ℕ}
use Rattle.image.specs.Format.{cover}
use Rattle.planes.specs.Bytes.{sample_in, samples_of}
use Rattle.paste.specs.declared.rows.Source.{Source}

-- the sample i places across and k places down
unfoldable pub source_at : List ℕ → Source → ℕ → ℕ → ℕ
source_at d s i k = sample_in d s.bytes s.stride (cover s.half_across (s.x + i)) (cover s.half_down (s.y + k))

-- a row of so many, as they are or held to top
unfoldable pub source_row : List ℕ → Source → ℕ → ℕ → List ℕ
source_row d s n k = samples_of s.bytes (λ i. source_at d s i k) n

unfoldable pub capped_row : List ℕ → Source → ℕ → ℕ → ℕ → List ℕ
capped_row d s top n k = samples_of s.bytes (λ i. min (source_at d s i k) top) n

-- what storing so many samples of so many rows asks: every sample is inside the plane's bytes, and every row inside the bytes it goes to
pub record RowsFit (out plane at stride across down : ℕ) (s : Source) : Type 0 where
  pub positive : 1 ≤ s.bytes
  pub bounded : s.bytes ≤ 2
  pub any : 1 ≤ across
  pub wide : s.x + across < 2 ^ 32
  pub tall : s.y + down < 2 ^ 32
  pub reads : (i k : ℕ) → i < across → k < down → cover s.half_down (s.y + k) * s.stride + cover s.half_across (s.x + i) * s.bytes + s.bytes ≤ plane
  pub writes : (k : ℕ) → k < down → at + k * stride + across * s.bytes ≤ out
