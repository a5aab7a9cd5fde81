-- What holds of a descriptor that was taken.
use Rattle.std.specs.Prelude.{List, ◌*◌, ◌+◌, ◌≤◌, ℕ, length}
use Rattle.image.specs.Format.{sides}
use Rattle.image.specs.Sound.{SizeSound}
use Rattle.derived.specs.declared.grid.GridDescriptor.{GridDescriptor}
use Rattle.derived.specs.declared.overlay.OverlayDescriptor.{OverlayDescriptor}

pub record GridSound (g : GridDescriptor) : Type 0 where
  pub positive_rows : 1 ≤ g.rows
  pub bounded_rows : g.rows ≤ 256
  pub positive_columns : 1 ≤ g.columns
  pub bounded_columns : g.columns ≤ 256
  pub canvas : SizeSound (sides g.output_width g.output_height)

-- the offsets of every input lie in the body
pub record OverlaySound (s : List ℕ) (d : OverlayDescriptor) : Type 0 where
  pub canvas : SizeSound (sides d.output_width d.output_height)
  pub count : d.count ≤ 65536
  pub positive : 2 ≤ d.bytes
  pub bounded : d.bytes ≤ 4
  pub inside : d.offsets + d.count * (2 * d.bytes) ≤ length s
