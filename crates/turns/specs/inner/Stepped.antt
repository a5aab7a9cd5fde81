-- Samples of a plane that stand so many bytes apart: along a row or a column, forward or back.
use Rattle.std.specs.Prelude.{List, ℕ, ◌+◌, ◌-◌, ◌*◌, ◌^◌, ◌≤◌, ◌<◌, length}
use Rattle.planes.specs.Bytes.{sample_at, samples_of}

-- the k-th sample's place among the plane's bytes: so many bytes ahead of the last, or behind it
unfoldable pub step_to : ℕ → ℕ → ℕ → ℕ → ℕ
step_to from forth back k = from + k * forth - k * back

unfoldable pub stepped : List ℕ → ℕ → ℕ → ℕ → ℕ → ℕ → List ℕ
stepped d bytes from forth back n = samples_of bytes (λ k. sample_at d bytes (step_to from forth back k)) n

-- what reading n of them asks: each is inside
pub record SteppedFits (d : List ℕ) (bytes from forth back n : ℕ) : Type 0 where
  pub positive : 1 ≤ bytes
  pub bounded : bytes ≤ 2
  pub small : (k : ℕ) → k < n → from + k * forth < 2 ^ 64
  pub behind : (k : ℕ) → k < n → k * back ≤ from + k * forth
  pub inside : (k : ℕ) → k < n → from + k * forth - k * back + bytes ≤ length d
