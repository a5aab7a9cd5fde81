-- Where the planes of a record that was read lie.
use Rattle.std.specs.Prelude.{◌≡◌, true, List, ℕ, ◌+◌, ◌-◌, ◌*◌, ◌^◌, ◌≤◌, ◌<◌, length}
use Rattle.image.specs.Format.{has_part, rows_of, row_size}
use Rattle.records.specs.Record.{plane_of}
use Rattle.image.specs.declared.format.Part.{Part}
use Rattle.image.specs.declared.format.Form.{Form}
use Rattle.records.specs.declared.record.Plane.{Plane}
use Rattle.records.specs.declared.record.Frame.{Frame}
use Rattle.image.specs.Sound.{FormSound}

-- a plane lies in the slice, and its rows in it
pub record PlaneSound (s : List ℕ) (m : Form) (p : Part) (q : Plane) : Type 0 where
  pub inside : q.start + q.len ≤ length s
  pub stride : row_size m p ≤ q.stride
  pub rows : q.stride * (rows_of m p - 1) + row_size m p ≤ q.len
  pub small : q.stride < 2 ^ 32

pub record Sound (s : List ℕ) (fr : Frame) : Type 0 where
  pub form : FormSound fr.form
  pub planes : (p : Part) → has_part fr.form.format p ≡ true → PlaneSound s fr.form p (plane_of fr p)
  pub end : fr.end ≤ length s

-- a record that was read: what holds of it, and every plane in the slice, also of no bytes
pub record InSlice (s : List ℕ) (fr : Frame) : Type 0 where
  pub sound : Sound s fr
  pub planes : (p : Part) → (plane_of fr p).start + (plane_of fr p).len ≤ length s
