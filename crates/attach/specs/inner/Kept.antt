-- What a plane that is kept asks of its bytes.
use Rattle.std.specs.Prelude.{List, ◌+◌, ◌<◌, ◌^◌, ◌≤◌, ℕ, length}
use Rattle.records.specs.Record.{plane_of}
use Rattle.image.specs.declared.format.Part.{Part}
use Rattle.records.specs.declared.record.Frame.{Frame}
use Rattle.records.specs.declared.record.Plane.{Plane}

-- a plane inside its record, its stride and its length small enough to be written
pub record KeptFits (s : List ℕ) (q : Plane) : Type 0 where
  pub inside : q.start + q.len ≤ length s
  pub stride : q.stride < 2 ^ 32
  pub len : q.len < 2 ^ 32

-- every plane's length is small enough
pub record Short (fr : Frame) : Type 0 where
  pub lens : (p : Part) → (plane_of fr p).len < 2 ^ 32
