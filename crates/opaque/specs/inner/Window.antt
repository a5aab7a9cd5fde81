-- Where an input lies along one axis of a plane of the canvas.
use Rattle.std.specs.Prelude.{Bool, ◌*◌, ◌+◌, ◌-◌, min, ℕ}
use Rattle.laws.specs.Pick.{pick}
use Rattle.numbers.specs.declared.Offset.{Offset}
use Rattle.image.specs.Format.{side_of}
use Rattle.opaque.specs.declared.axis.Stretch.{Stretch}
use Rattle.opaque.specs.declared.axis.Window.{Window}

-- the samples that an input of a side covers: from, and up to but not including
unfoldable pub stretch_of : Bool → Offset → ℕ → Stretch
stretch_of half o n = record { from = side_of half (o.ahead - o.behind); to = side_of half (o.ahead + n - o.behind) }

-- within a plane of n samples: the first that is covered, how many, and the input's place there
unfoldable pub window_of : Bool → Offset → ℕ → ℕ → Window
window_of half o side n =
    let s = stretch_of half o side in
    let at = min s.from n in
    record { at = at; count = min s.to n - at; spot = at * pick half 2 1 + o.behind - o.ahead }

-- the input's place k samples on
abbrev pub spot_of : Bool → Window → ℕ → ℕ
spot_of half w k = w.spot + k * pick half 2 1
