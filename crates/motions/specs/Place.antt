-- A place, and which place of the input a place of a turned picture shows.
use Rattle.std.specs.Prelude.{Bool, false, true, ◌-◌, ℕ}
use Rattle.motions.specs.Turn.{Quarter, q0, q1, q2, q3}

pub record Place : Type 0 where
  pub x : ℕ
  pub y : ℕ

unfoldable pub unturn : Quarter → ℕ → ℕ → ℕ → ℕ → Place
unturn q0 w h x y = record { x = x; y = y }
unturn q1 w h x y = record { x = w - 1 - y; y = x }
unturn q2 w h x y = record { x = w - 1 - x; y = h - 1 - y }
unturn q3 w h x y = record { x = y; y = h - 1 - x }

-- whether a turn exchanges the sides, and the side that results
unfoldable pub swaps : Quarter → Bool
swaps q0 = false
swaps q1 = true
swaps q2 = false
swaps q3 = true

unfoldable pub sideways : Bool → ℕ → ℕ → ℕ
sideways true w h = h
sideways false w h = w
