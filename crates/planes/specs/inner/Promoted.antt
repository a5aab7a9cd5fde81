-- A promoted sample read from a plane's bytes, and rows of one value.
use Rattle.std.specs.Prelude.{◌≡◌, true, List, ℕ, ◌+◌, ◌*◌, ◌≤◌, length}
use Rattle.laws.specs.Pick.{pick}
use Rattle.laws.specs.Span.{span}
use Rattle.image.specs.Format.{middle_of, bytes_of, has_part, half_x, half_y, cover}
use Rattle.image.specs.declared.format.Part.{Part}
use Rattle.image.specs.declared.format.PixelFormat.{PixelFormat}
use Rattle.planes.specs.Bytes.{sample_in}

-- the sample that promotion puts at a place of the picture; 2 ^ (depth − 1) where the picture has not the plane
unfoldable pub promoted_in : List ℕ → PixelFormat → ℕ → Part → ℕ → ℕ → ℕ
promoted_in d f stride p x y = pick (has_part f p) (sample_in d (bytes_of f) stride (cover (half_x f p) x) (cover (half_y f p) y)) (middle_of f)

-- what reading it asks: a depth that has a middle, and the covering sample inside
pub record PromotedFits (d : List ℕ) (f : PixelFormat) (stride : ℕ) (p : Part) (x y : ℕ) : Type 0 where
  pub low : 8 ≤ f.depth
  pub high : f.depth ≤ 16
  pub inside : has_part f p ≡ true → cover (half_y f p) y * stride + cover (half_x f p) x * bytes_of f + bytes_of f ≤ length d

-- the same bytes again and again
unfoldable pub even_bytes : List ℕ → ℕ → List ℕ
even_bytes b n = span (λ x. b) 0 n
