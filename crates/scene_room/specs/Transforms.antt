-- A chain of transforms on one record (oxideav-heif's `apply_transforms`; document 01, "The scene call", for the chain and the buffers).
use Rattle.std.specs.Prelude.{Bool, List, ℕ}
use Rattle.laws.specs.Out.{Out, and_then}
use Rattle.records.specs.Record.{record_of}
use Rattle.planes.specs.Bytes.{decode}
use Rattle.props.specs.Chain.{chain_at}
use Rattle.stages.specs.Chain.{Drawn, chain_drawn}
use Rattle.scene_room.specs.Scene.{room_for}

-- the record's refusals, the chain's form, then the entries in turn
unfoldable pub record_drawn : List ℕ → List ℕ → Bool → Out Drawn
record_drawn s chain essential_only =
    and_then (record_of s) (λ fr.
    and_then (chain_at chain 0) (λ es. chain_drawn es essential_only (decode s fr)))

-- 17 last, as in a scene
unfoldable pub transforms_run : List ℕ → List ℕ → Bool → ℕ → ℕ → Out (List ℕ)
transforms_run s chain essential_only output spare = and_then (record_drawn s chain essential_only) (room_for output spare)
