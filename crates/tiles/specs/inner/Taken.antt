-- Records that were taken as tiles.
use Rattle.std.specs.Prelude.{Ok, List, ◌≡◌, ℕ}
use Rattle.records.specs.Tray.{frames_at}
use Rattle.records.specs.declared.record.Frame.{Frame}

-- so many records stand there
unfoldable pub FramesTaken : ℕ → List ℕ → ℕ → Type 0
FramesTaken n s at = (frs : List Frame) × (frames_at n s at ≡ Ok frs)
