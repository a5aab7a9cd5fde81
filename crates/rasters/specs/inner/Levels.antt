-- Another depth by a table of what each sample becomes.
use Rattle.std.specs.Prelude.{List, ◌≡◌, ◌<◌, ◌≤◌, ℕ, ltb, get_or}
use Rattle.laws.specs.Pick.{pick}
use Rattle.planes.specs.Bytes.{sample_in, samples_of}
use Rattle.sampling.specs.Depth.{level_of}
use Rattle.sampling.specs.declared.depth.Depths.{Depths}
use Rattle.sampling.specs.declared.raster.Raster.{Raster}

-- a table of the first n samples
unfoldable pub Levels : List ℕ → Depths → ℕ → Type 0
Levels t k n = (v : ℕ) → v < n → get_or t v 0 ≡ level_of k.old k.new v

-- a sample in the table, and the new top for one above it
unfoldable pub look_of : List ℕ → ℕ → ℕ → ℕ → ℕ
look_of t n top v = pick (ltb v n) (get_or t v 0) top

-- a row whose samples are looked up
unfoldable pub looked_row : List ℕ → Raster → List ℕ → ℕ → ℕ → ℕ → List ℕ
looked_row d r t n top y = samples_of r.to_bytes (λ x. look_of t n top (sample_in d r.bytes r.stride x y)) r.across.to

-- a plane that keeps its size, from a depth that the table has
pub record HasTable (r : Raster) (k : Depths) : Type 0 where
  pub apart : k.old ≡ k.new → ⊥
  pub few : k.old ≤ 12
  pub across : r.across.from ≡ r.across.to
  pub down : r.down.from ≡ r.down.to
