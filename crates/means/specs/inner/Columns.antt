-- Column sums of a stretch of columns, and the quotients that footprints are made of, carried from sample to sample.
use Rattle.std.specs.Prelude.{List, ◌≡◌, ◌%◌, ◌*◌, ◌+◌, ◌-◌, ◌/◌, ◌<◌, ◌^◌, ◌≤◌, min, ℕ, leb, get_or, length}
use Rattle.laws.specs.Pick.{pick}
use Rattle.planes.specs.Bytes.{sample_in}
use Rattle.sampling.specs.Area.{weighed}
use Rattle.sampling.specs.declared.area.Foot.{Foot}
use Rattle.means.specs.declared.sums.Held.{Held}
use Rattle.means.specs.declared.sums.Pace.{Pace}
use Rattle.means.specs.declared.sums.Stand.{Stand}
use Rattle.sampling.specs.declared.raster.Axis.{Axis}
use Rattle.sampling.specs.declared.raster.Raster.{Raster}
use Rattle.sampling.specs.inner.Redraw.{AreaAxis}
use Rattle.sampling.specs.inner.Sums.{FootIn}

-- ---- quotients

unfoldable pub stand_of : ℕ → ℕ → Stand
stand_of n by = record { at = n / by; rest = n % by }

-- sample k of an axis has its start, or its centre, at (first + k × step) / by
unfoldable pub pace_of : Axis → Pace
pace_of a =
    pick (leb a.to a.from)
    (record { first = 0; step = 256 * a.from; by = a.to })
    (record { first = 256 * a.from; step = 512 * a.from; by = 2 * a.to })

unfoldable pub place_of : Pace → ℕ → Stand
place_of p k = stand_of (p.first + k * p.step) p.by

-- the footprint of a sample, by its own place and the next one's
unfoldable pub foot_from : Axis → ℕ → ℕ → Foot
foot_from a p q =
    let start = min (p - 128) (256 * (a.from - 1)) in
    pick (leb a.to a.from) (record { start = p; end = q }) (record { start = start; end = start + 256 })

-- ---- column sums

-- what the rows under a footprint come to in column x
unfoldable pub column_of : List ℕ → Raster → Foot → ℕ → ℕ
column_of d r down x = weighed down (λ y. sample_in d r.bytes r.stride x y)

-- the sums of the columns that are held
pub record SumsHeld (sums d : List ℕ) (r : Raster) (down : Foot) (h : Held) : Type 0 where
  pub room : h.past ≤ h.first + length sums
  pub held : (x : ℕ) → h.first ≤ x → x < h.past → get_or sums (x - h.first) 0 ≡ column_of d r down x

-- a row of means whose column sums fit 32 bits
pub record MeansFits (r : Raster) (down : Foot) : Type 0 where
  pub across : AreaAxis r.across
  pub tall : FootIn down r.down.from
  pub size : r.across.from * r.down.from ≤ 2 ^ 30
  pub short : down.end - down.start ≤ 65536

-- columns of a row, whose samples times a weight are added to sums
pub record AddFits (sums d : List ℕ) (r : Raster) (first many y w : ℕ) : Type 0 where
  pub positive : 1 ≤ r.bytes
  pub bounded : r.bytes ≤ 2
  pub room : many ≤ length sums
  pub small : first + many ≤ 2 ^ 30
  pub inside : (x : ℕ) → x < first + many → y * r.stride + x * r.bytes + r.bytes ≤ length d
  pub fits : (j : ℕ) → j < many → get_or sums j 0 + sample_in d r.bytes r.stride (first + j) y * w < 2 ^ 32
