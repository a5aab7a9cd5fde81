-- Records in turn, as far as they can be read.
use Rattle.std.specs.Prelude.{Ok, Err}
use Rattle.std.specs.Prelude.{List, [], ◌∷◌, suc, zero, ℕ}
use Rattle.laws.specs.Out.{Out}
use Rattle.records.specs.Record.{record_at}
use Rattle.records.specs.declared.record.Frame.{Frame}

unfoldable pub onward : Out Frame → (Frame → List Frame) → List Frame
onward (Err e) k = []
onward (Ok fr) k = fr ∷ k fr

-- so many from a place on
unfoldable pub frames_from : ℕ → List ℕ → ℕ → List Frame
frames_from zero s at = []
frames_from (suc n) s at = onward (record_at s at) (λ fr. frames_from n s fr.end)
