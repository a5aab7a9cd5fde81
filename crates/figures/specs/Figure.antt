-- H.273's figures for a fill, exact, and what it is to lie less than one step from one.
use Rattle.std.specs.Prelude.{Bool, ◌*◌, ◌+◌, ◌-◌, ◌<◌, ◌^◌, min, ℕ, eqb, Option}
use Rattle.laws.specs.Pick.{pick}
use Rattle.image.specs.Format.{top_at}
use Rattle.fill.specs.Fill.{blue_of, nclx_of, red_of}
use Rattle.fill.specs.declared.Nclx.{Nclx}
use Rattle.fill.specs.declared.Ycbcr.{Ycbcr}

-- the fraction (plus - minus) / over
pub record Fraction : Type 0 where
  pub plus : ℕ
  pub minus : ℕ
  pub over : ℕ

-- k x, and x + k
abbrev pub times : ℕ → Fraction → Fraction
times k x = record { plus = k * x.plus; minus = k * x.minus; over = x.over }

abbrev pub raised : ℕ → Fraction → Fraction
raised k x = record { plus = x.plus + k * x.over; minus = x.minus; over = x.over }

-- green's weight in ten-thousandths
abbrev pub green_of : ℕ → ℕ
green_of m = 10000 - (red_of m + blue_of m)

-- E'R, E'G or E'B: a colour of 16 bits as a part of 1
abbrev pub primary : ℕ → Fraction
primary v = record { plus = v; minus = 0; over = 65535 }

-- H.273, 8.3, equation 38, E'Y = KR E'R + KG E'G + KB E'B: the numerator over 10000 * 65535
abbrev pub luma_n : ℕ → ℕ → ℕ → ℕ → ℕ
luma_n m r g b = red_of m * r + green_of m * g + blue_of m * b

abbrev pub luma : ℕ → ℕ → ℕ → ℕ → Fraction
luma m r g b = record { plus = luma_n m r g b; minus = 0; over = 655350000 }

-- equations 39 and 40, E'PB = (E'B - E'Y) / (2 (1 - KB)), and E'PR by red and its weight
abbrev pub difference : ℕ → ℕ → ℕ → Fraction
difference k c l = record { plus = c * 10000; minus = l; over = 65535 * (2 * (10000 - k)) }

-- full range: (2 ^ d - 1) E'Y, and (2 ^ d - 1) E'PB + 2 ^ (d - 1); studio range (equations 20 to 22): 2 ^ (d - 8) (219 E'Y + 16), and
-- 2 ^ (d - 8) (224 E'PB + 128)
abbrev pub full_luma : ℕ → Fraction → Fraction
full_luma d x = times (top_at d) x

abbrev pub full_chroma : ℕ → Fraction → Fraction
full_chroma d x = raised (2 ^ (d - 1)) (times (top_at d) x)

abbrev pub studio_luma : ℕ → Fraction → Fraction
studio_luma d x = times (2 ^ (d - 8)) (raised 16 (times 219 x))

abbrev pub studio_chroma : ℕ → Fraction → Fraction
studio_chroma d x = times (2 ^ (d - 8)) (raised 128 (times 224 x))

-- the figures of the three samples
pub record Figures : Type 0 where
  pub y : Fraction
  pub cb : Fraction
  pub cr : Fraction

-- matrix 0, by its own formulas at full scale
unfoldable pub identity_figures : ℕ → ℕ → ℕ → ℕ → Figures
identity_figures r g b d = record { y = full_luma d (primary g); cb = full_luma d (primary b); cr = full_luma d (primary r) }

unfoldable pub weighted_figures : ℕ → ℕ → ℕ → ℕ → ℕ → Bool → Figures
weighted_figures m r g b d full =
    let l = luma_n m r g b in
    pick full (record { y = full_luma d (luma m r g b); cb = full_chroma d (difference (blue_of m) b l); cr = full_chroma d (difference (red_of m) r l) })
    (record { y = studio_luma d (luma m r g b); cb = studio_chroma d (difference (blue_of m) b l); cr = studio_chroma d (difference (red_of m) r l) })

unfoldable pub figures_of : ℕ → ℕ → ℕ → ℕ → Option Nclx → Figures
figures_of r g b d colour =
    let n = nclx_of colour in
    pick (eqb n.matrix 0) (identity_figures r g b d) (weighted_figures n.matrix r g b d n.full_range)

-- x held to 0 and top, times its denominator: a difference below 0 is 0
abbrev pub held : ℕ → Fraction → ℕ
held top x = min (x.plus - x.minus) (top * x.over)

-- s is less than one step from x held to 0 and top
pub record Within (s top : ℕ) (x : Fraction) : Type 0 where
  pub above : s * x.over < held top x + x.over
  pub below : held top x < s * x.over + x.over

pub record AllWithin (s : Ycbcr) (top : ℕ) (f : Figures) : Type 0 where
  pub y : Within s.y top f.y
  pub cb : Within s.cb top f.cb
  pub cr : Within s.cr top f.cr
