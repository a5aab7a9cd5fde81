-- A table of what each sample of depth 10 becomes at depth 8 (document 02, A3).
use lib.Dec.{leb→le}
use Rattle.std.specs.Prelude.{List, ◌≡◌, ◌<◌, ℕ, get_or, length}
use Rattle.sampling.specs.Depth.{level_of}
use Rattle.sampling.specs.declared.depth.Depths.{Depths}
use Rattle.sampling.specs.declared.raster.RowRule.{RowRule}

abbrev pub ten_to_eight_of : Depths
ten_to_eight_of = record {
  old = 10;
  new = 8;
  fit = record { old_low = leb→le 8 10 tt; old_high = leb→le 10 16 tt; new_low = leb→le 8 8 tt; new_high = leb→le 8 16 tt };
}

-- a new row: the samples of row y at depth 8
abbrev pub eight_row : ℕ → RowRule
eight_row y = RowRule.Near (record { y = y; depths = ten_to_eight_of })

pub record Table (t : List ℕ) : Type 0 where
  pub entries : length t ≡ 1024
  pub rule : (v : ℕ) → v < 1024 → get_or t v 0 ≡ level_of 10 8 v
