-- What the sums of a mean ask of their numbers.
use Rattle.std.specs.Prelude.{List, ◌*◌, ◌+◌, ◌<◌, ◌^◌, ◌≤◌, ℕ, length}
use Rattle.sampling.specs.declared.area.Foot.{Foot}

-- a footprint with some width that lies in an axis of n samples
pub record FootIn (f : Foot) (n : ℕ) : Type 0 where
  pub positive : f.start < f.end
  pub inside : f.end ≤ 256 * n

-- every sample under two footprints is inside the plane's bytes, and the sums fit
pub record AreaFits (d : List ℕ) (bytes stride : ℕ) (across down : Foot) : Type 0 where
  pub columns : ℕ
  pub rows : ℕ
  pub positive : 1 ≤ bytes
  pub bounded : bytes ≤ 2
  pub wide : FootIn across columns
  pub tall : FootIn down rows
  pub size : columns * rows ≤ 2 ^ 30
  pub inside : (x y : ℕ) → x < columns → y < rows → y * stride + x * bytes + bytes ≤ length d

-- the same of one row
pub record RowSumFits (d : List ℕ) (bytes stride : ℕ) (f : Foot) (y : ℕ) : Type 0 where
  pub columns : ℕ
  pub positive : 1 ≤ bytes
  pub bounded : bytes ≤ 2
  pub wide : FootIn f columns
  pub size : columns ≤ 2 ^ 30
  pub inside : (x : ℕ) → x < columns → y * stride + x * bytes + bytes ≤ length d
