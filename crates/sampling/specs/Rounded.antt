-- The whole number nearest to a quotient.
use Rattle.std.specs.Prelude.{ℕ, ◌+◌, ◌/◌}

-- n / d to the nearest whole number, a half up
unfoldable pub rounded : ℕ → ℕ → ℕ
rounded n d = (n + d / 2) / d
