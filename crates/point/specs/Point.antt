-- The point calls (document 01, "Point call" and "Refusals in order", Point).
use Rattle.laws.specs.declared.Item.TheVariants.{Record}
use Rattle.std.specs.Prelude.{Bool, ◌&&◌, List, [], ◌∷◌, ◌%◌, ◌*◌, ◌+◌, ◌/◌, ℕ, Ok}
use Rattle.laws.specs.Out.{Out, and_then, refuse_item}
use Rattle.laws.specs.Pick.{pick}
use Rattle.numbers.specs.Number.{on_number, read_number}
use Rattle.image.specs.Format.{has_alpha}
use Rattle.records.specs.declared.record.Frame.{Frame}
use Rattle.derived.specs.Overlay.{placement_at}
use Rattle.derived.specs.declared.overlay.OverlayDescriptor.{OverlayDescriptor}
use Rattle.derived.specs.declared.overlay.Placement.{Placement}
use Rattle.props.specs.Chain.{chain_at}
use Rattle.props.specs.declared.entry.PropertyEntry.{PropertyEntry}
use Rattle.motions.specs.Place.{Place}
use Rattle.sight.specs.Sight.{source_place, sight_of}
use Rattle.sight.specs.declared.Sight.{Sight}
use Rattle.tiles.specs.Tiles.{tiles_at}
use Rattle.tiles.specs.declared.judge.Tiles.{Tiles}
use Rattle.blend.specs.Overlay.{covers, spot_at}
use Rattle.inputs.specs.Inputs.{Inputs, inputs_at}
use Rattle.point.specs.declared.Named.{Named}
use Rattle.point.specs.declared.Point.{Point}

-- ---- what a place of the canvas names

-- the tile that covers it, and the spot there
unfoldable pub grid_names : Tiles → Place → Named
grid_names t l =
    Named.Spot (record {
      input = l.y / t.tile.height * t.desc.columns + l.x / t.tile.width;
      x = l.x % t.tile.width;
      y = l.y % t.tile.height;
    })

-- whether a record that lies there covers it, and the spot
unfoldable pub lies_over : Frame → Placement → Place → Bool
lies_over fr o l = covers fr.form.width o.horizontal l.x && covers fr.form.height o.vertical l.y

unfoldable pub spot_under : ℕ → Placement → Place → Named
spot_under i o l = Named.Spot (record { input = i; x = spot_at o.horizontal l.x; y = spot_at o.vertical l.y })

-- the topmost of the inputs from number i on, or what was found before them
unfoldable pub topmost_named : List ℕ → OverlayDescriptor → Place → ℕ → Named → List Frame → Named
topmost_named body d l i found [] = found
topmost_named body d l i found (fr ∷ frs) =
    let o = placement_at body d i in
    topmost_named body d l (i + 1) (pick (lies_over fr o l) (spot_under i o l) found) frs

-- the topmost input that covers it, and the spot there, else fill
unfoldable pub overlay_names : List ℕ → Inputs → Place → Named
overlay_names body q l = topmost_named body q.descriptor l 0 Named.Fill q.frames

-- ---- the calls, in two halves

-- everything before the place: the chain's rectangle and turn, and what a place of the canvas names
pub record Look : Type 0 where
  pub sight : Sight
  pub names : Place → Named

-- a chain on a composed picture of that size: the entries' refusals, 18 an applied iscl
unfoldable pub look_on : List PropertyEntry → Bool → ℕ → ℕ → (Place → Named) → Out Look
look_on es essential_only width height names = and_then (sight_of es essential_only width height) (λ s. Ok (record { sight = s; names = names }))

-- as the grid scene, without 17
unfoldable pub grid_look : List ℕ → List ℕ → List ℕ → Bool → Out Look
grid_look body tray chain essential_only =
    on_number (read_number tray 0) (λ n at.
    and_then (chain_at chain 0) (λ es.
    and_then (tiles_at body tray n at) (λ t.
    look_on es essential_only t.desc.output_width t.desc.output_height (grid_names t))))

-- as the overlay scene, without 16 and 17; 18 the first input with alpha, after 14. The colour description names no spot, and is judged by
-- no refusal
unfoldable pub see_through_frame : Frame → Bool
see_through_frame fr = has_alpha fr.form.format

unfoldable pub overlay_look : List ℕ → List ℕ → List ℕ → Bool → List ℕ → Out Look
overlay_look body tray chain essential_only premultiplied =
    on_number (read_number tray 0) (λ n at.
    and_then (chain_at chain 0) (λ es.
    and_then (inputs_at body tray premultiplied n at) (λ q.
    refuse_item Record see_through_frame 18 q.frames
    (look_on es essential_only q.descriptor.output_width q.descriptor.output_height (overlay_names body q)))))

-- the place: 18 last, a place outside
unfoldable pub point_from : Look → ℕ → ℕ → Out Point
point_from k column row = and_then (source_place k.sight column row) (λ l. Ok (record { named = k.names l; sight = k.sight }))

unfoldable pub grid_point : List ℕ → List ℕ → List ℕ → Bool → ℕ → ℕ → Out Point
grid_point body tray chain essential_only column row = and_then (grid_look body tray chain essential_only) (λ k. point_from k column row)

unfoldable pub overlay_point : List ℕ → List ℕ → List ℕ → Bool → List ℕ → ℕ → ℕ → Out Point
overlay_point body tray chain essential_only premultiplied column row = and_then (overlay_look body tray chain essential_only premultiplied) (λ k. point_from k column row)
