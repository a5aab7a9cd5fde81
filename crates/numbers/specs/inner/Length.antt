-- How long a field is that is written.
use Rattle.std.specs.Prelude.{◌≡◌, ◌%◌, ◌≤◌, ℕ}

-- two bytes, or four
pub record FieldLength (n : ℕ) : Type 0 where
  pub least : 2 ≤ n
  pub most : n ≤ 4
  pub even : n % 2 ≡ 0
