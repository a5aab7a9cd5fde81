-- Laws of the rectangle that an input covers: it lies in the canvas's record, and its numbers are small.
use mathlib.Core.Bool.{true}
use mathlib.Core.Path.{◌≡◌, refl}
use Prim.Native.Nat.{◌*◌, ◌+◌, ◌<◌, ◌^◌, ◌≤◌, ℕ}
use native.Mathlib.Nat.{add-mul, mul-le-mul_right}
use native.Mathlib.Omega.{arith}
use Rattle.laws.proofs.Order.{item-within, positive}
use Rattle.image.proofs.FormLaws.{row-le, size-le}
use Rattle.image.specs.Format.{bytes_of, columns_of, half_x, half_y, has_part, row_size, rows_of}
use Rattle.records.specs.Record.{plane_of}
use Rattle.image.specs.Sound.{FormSound}
use Rattle.image.specs.declared.format.Form.{Form}
use Rattle.image.specs.declared.format.Part.{Part}
use Rattle.planes.specs.Bytes.{size_of, tight_at}
use Rattle.paste.proofs.HeadedLaws.{part_end, part-stride}
use Rattle.derived.specs.declared.overlay.Placement.{Placement}
use Rattle.opaque.proofs.WindowLaws.{window-spot, window-within}
use Rattle.opaque.specs.declared.axis.Window.{Window}
use Rattle.opaque.specs.declared.lay.Place.{Place}
use Rattle.opaque.specs.inner.Laid.{PlaceFits, across_of, down_of, place_of}

module _ (c m : Form) (ok : FormSound c) (o : Placement) (p : Part) (has : has_part c.format p ≡ true) where
  pub across-within : (across_of c m o p).at + (across_of c m o p).count ≤ columns_of c p
  unfolding across_of
  across-within = window-within (half_x c.format p) o.horizontal m.width (columns_of c p)

  pub down-within : (down_of c m o p).at + (down_of c m o p).count ≤ rows_of c p
  unfolding down_of
  down-within = window-within (half_y c.format p) o.vertical m.height (rows_of c p)

  -- the rows above, and the columns before
  above-le : (down_of c m o p).at * row_size c p ≤ rows_of c p * row_size c p
  above-le = mul-le-mul_right (row_size c p) (omega (arith, down-within))

  before-le : (across_of c m o p).at * bytes_of c.format + (across_of c m o p).count * bytes_of c.format ≤ row_size c p
  unfolding row_size
  before-le = omega (arith, add-mul (across_of c m o p).at (across_of c m o p).count (bytes_of c.format), mul-le-mul_right (bytes_of c.format) across-within)

  row_in : (k : ℕ) → k < (down_of c m o p).count → (down_of c m o p).at * row_size c p + k * row_size c p + row_size c p ≤ rows_of c p * row_size c p
  row_in k l = omega (arith, add-mul (down_of c m o p).at k (row_size c p), item-within ((down_of c m o p).at + k) (rows_of c p) (row_size c p) (omega (arith, down-within)))

  -- the numbers as they are worked out
  pub above-small : (b : Window) (stride : ℕ) → b ≡ down_of c m o p → stride ≡ (plane_of (tight_at c 0) p).stride → b.at * stride ≤ 2 ^ 31
  above-small b stride e f = rw (f, part-stride c p has, e) (omega (arith, above-le, size-le c ok p))

  pub before_small : (a : Window) (bytes : ℕ) → a ≡ across_of c m o p → bytes ≡ bytes_of c.format → a.at * bytes ≤ 2 ^ 31
  before_small a bytes e f = rw (e, f) (omega (arith, before-le, row-le c ok p))

  pub place-worked : (a b : Window) (start stride bytes : ℕ) → a ≡ across_of c m o p → b ≡ down_of c m o p → start ≡ (plane_of (tight_at c 0) p).start → stride ≡ (plane_of (tight_at c 0) p).stride → bytes ≡ bytes_of c.format
      → record { at = start + (b.at * stride + a.at * bytes); stride = stride; across = a; down = b } ≡ place_of c m o p
  unfolding place_of
  place-worked a b start stride bytes e1 e2 e3 e4 e5 = rw (e3, e4, part-stride c p has, e5, e1, e2) refl

  fits : (n : ℕ) → size_of c ≤ n → ((place_of c m o p).across.count ≡ 0 → ⊥) → ((place_of c m o p).down.count ≡ 0 → ⊥) → PlaceFits c m p (place_of c m o p) n
  unfolding place_of across_of down_of
  fits n room x y = record {
    across = positive _ x;
    down = positive _ y;
    wide = λ i l. (window-spot (half_x c.format p) o.horizontal m.width (columns_of c p) i l).1;
    tall = λ k l. (window-spot (half_y c.format p) o.vertical m.height (rows_of c p) k l).1;
    writes = λ k l. omega (arith, row_in k l, before-le, part_end c p has, room);
  }

  -- a rectangle that has something
  pub place-fits : (n : ℕ) (q : Place) → q ≡ place_of c m o p → size_of c ≤ n → (q.across.count ≡ 0 → ⊥) → (q.down.count ≡ 0 → ⊥) → PlaceFits c m p q n
  place-fits n q e room x y = rw e (fits n room (rw e at x) (rw e at y))
