-- Another size by means over footprints (document 01, iscl, `resize_area`): a box where there are fewer samples, linear between
-- the two nearest centres where there are more; each plane between its own sizes. Lengths along an axis are in 256ths of a sample.
use Rattle.std.specs.Prelude.{◌*◌, ◌+◌, ◌-◌, ◌/◌, max, min, suc, zero, ℕ, leb}
use Rattle.laws.specs.Pick.{pick}
use Rattle.image.specs.Format.{columns_of, rows_of, sized}
use Rattle.planes.specs.Picture.{Pic}
use Rattle.sampling.specs.Rounded.{rounded}
use Rattle.sampling.specs.declared.area.Foot.{Foot}

-- the part of an axis of `from` samples that sample k of `to` stands for. No more samples than there were: its share of the axis.
-- More: the width of one sample around its centre, which is kept between the first centre and the last; its two parts in two
-- samples are then the weights of linear interpolation
unfoldable pub share_of : ℕ → ℕ → ℕ → Foot
share_of from to k = record { start = k * from * 256 / to; end = (k + 1) * from * 256 / to }

unfoldable pub around_of : ℕ → ℕ → ℕ → Foot
around_of from to k =
    let start = min ((2 * k + 1) * from * 256 / (2 * to) - 128) (256 * (from - 1)) in
    record { start = start; end = start + 256 }

unfoldable pub foot_of : ℕ → ℕ → ℕ → Foot
foot_of from to k = pick (leb to from) (share_of from to k) (around_of from to k)

-- how much of a footprint lies in sample j, from 256 × j to 256 × j + 256
unfoldable pub weight_of : Foot → ℕ → ℕ
weight_of f j = min f.end (256 * j + 256) - max f.start (256 * j)

-- f k + f (k + 1) + ..., n terms
unfoldable pub sum : (ℕ → ℕ) → ℕ → ℕ → ℕ
sum f k zero = 0
sum f k (suc n) = f k + sum f (k + 1) n

-- the samples that a footprint touches
unfoldable pub first_of : Foot → ℕ
first_of f = f.start / 256

unfoldable pub past_of : Foot → ℕ
past_of f = (f.end + 255) / 256

-- what they hold, each times its weight
unfoldable pub weighed : Foot → (ℕ → ℕ) → ℕ
weighed f v = sum (λ j. v j * weight_of f j) (first_of f) (past_of f - first_of f)

-- the mean over two footprints, rounded once
unfoldable pub area_mean : Foot → Foot → (ℕ → ℕ → ℕ) → ℕ
area_mean across down v = rounded (weighed down (λ y. weighed across (λ x. v x y))) ((across.end - across.start) * (down.end - down.start))

unfoldable pub area : Pic → ℕ → ℕ → Pic
area P w h =
    let m = sized P.form w h in
    record {
      form = m;
      at = λ p x y. area_mean (foot_of (columns_of P.form p) (columns_of m p) x) (foot_of (rows_of P.form p) (rows_of m p) y) (P.at p);
    }
