-- The scene calls (document 01, "The scene call" and "Refusals in order", Scene).
use Rattle.laws.specs.declared.Item.TheVariants.{Record}
use Rattle.std.specs.Prelude.{Ok, Err, Option}
use Rattle.std.specs.Prelude.{Bool, List, ◌++◌, ◌-◌, ℕ, ltb, length, replicate}
use Rattle.laws.specs.Out.{Out, and_then, refuse, refuse_item}
use Rattle.numbers.specs.Number.{on_number, read_number}
use Rattle.planes.specs.Bytes.{encode}
use Rattle.image.specs.Format.{top_of}
use Rattle.fill.specs.declared.Nclx.{Nclx}
use Rattle.props.specs.Chain.{chain_at}
use Rattle.grid.specs.Run.{grid_on}
use Rattle.tiles.specs.Tiles.{tiles_at}
use Rattle.inputs.specs.Inputs.{alpha_above, first_format, inputs_at}
use Rattle.overlay.specs.Run.{composed}
use Rattle.stages.specs.Chain.{Drawn, chain_drawn}

-- ---- the picture runs: 5 tray count unreadable; the chain's form; then body, tiles, chain entries in turn

unfoldable pub grid_drawn : List ℕ → List ℕ → List ℕ → Bool → Out Drawn
grid_drawn body tray chain essential_only =
    on_number (read_number tray 0) (λ n at.
    and_then (chain_at chain 0) (λ es.
    and_then (tiles_at body tray n at) (λ t. chain_drawn es essential_only (grid_on tray t))))

-- 16 the first record with an alpha sample above top, before the chain's entries
unfoldable pub overlay_drawn : List ℕ → List ℕ → List ℕ → Bool → List ℕ → Option Nclx → Out Drawn
overlay_drawn body tray chain essential_only premultiplied colour =
    on_number (read_number tray 0) (λ n at.
    and_then (chain_at chain 0) (λ es.
    and_then (inputs_at body tray premultiplied n at) (λ q.
    refuse_item Record (alpha_above tray (top_of (first_format q.frames))) 16 q.frames
    (chain_drawn es essential_only (composed body tray premultiplied colour q)))))

-- ---- 17 output or spare shorter than the longest of the composed and step records

unfoldable pub room_for : ℕ → ℕ → Drawn → Out (List ℕ)
room_for output spare d = refuse (ltb output d.longest) 17 (refuse (ltb spare d.longest) 17 (Ok (encode d.pic)))

unfoldable pub grid_scene : List ℕ → List ℕ → List ℕ → Bool → ℕ → ℕ → Out (List ℕ)
grid_scene body tray chain essential_only output spare = and_then (grid_drawn body tray chain essential_only) (room_for output spare)

unfoldable pub overlay_scene : List ℕ → List ℕ → List ℕ → Bool → List ℕ → Option Nclx → ℕ → ℕ → Out (List ℕ)
overlay_scene body tray chain essential_only premultiplied colour output spare =
    and_then (overlay_drawn body tray chain essential_only premultiplied colour) (room_for output spare)

-- ---- the lent buffers: a refusal leaves both untouched; after success output past the record is zero and the spare is all zero

unfoldable pub output_of : Out (List ℕ) → List ℕ → List ℕ
output_of (Err r) d = d
output_of (Ok bs) d = bs ++ replicate (length d - length bs) 0

unfoldable pub spare_of : Out (List ℕ) → List ℕ → List ℕ
spare_of (Err r) d = d
spare_of (Ok bs) d = replicate (length d) 0
