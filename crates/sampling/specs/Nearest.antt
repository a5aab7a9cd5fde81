-- Another size by nearest samples (document 01, "Other operations", `resize_nearest`): each plane between its own sizes.
use Rattle.std.specs.Prelude.{◌*◌, ◌/◌, ℕ}
use Rattle.image.specs.Format.{columns_of, rows_of, sized}
use Rattle.planes.specs.Picture.{Pic}

-- the sample, of so many that there were, that stands for sample k of so many that there are to be
unfoldable pub near_place : ℕ → ℕ → ℕ → ℕ
near_place from to k = k * from / to

unfoldable pub nearest : Pic → ℕ → ℕ → Pic
nearest P w h =
    let m = sized P.form w h in
    record {
      form = m;
      at = λ p x y. P.at p (near_place (columns_of P.form p) (columns_of m p) x) (near_place (rows_of P.form p) (rows_of m p) y);
    }
