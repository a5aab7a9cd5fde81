-- Depths that a record may have.
use Rattle.std.specs.Prelude.{◌≤◌, ℕ}

-- depths that a record may have
pub record DepthsFit (old new : ℕ) : Type 0 where
  pub old_low : 8 ≤ old
  pub old_high : old ≤ 16
  pub new_low : 8 ≤ new
  pub new_high : new ≤ 16
