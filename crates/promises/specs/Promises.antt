-- What is promised beyond the calls' contracts: each theorem that document 01, document 02 or the demands ask for, with the sentence that asks
-- for it.
use Rattle.laws.specs.declared.Item.TheVariants.{Record, Entry}
use Rattle.std.specs.Prelude.{Bool, false, true, List, [], ◌++◌, ◌∷◌, ◌≡◌, ◌*◌, ◌+◌, ◌-◌, ◌/◌, ◌<◌, ◌^◌, ◌≤◌, ℕ, eqb, ltb, ℤ, drop, get_or, length, take, ◌⊎◌, Ok, Err, Option}
use Rattle.std.proofs.Math.IntN.{sub_ℕ}
use Rattle.laws.specs.Any.{any}
use Rattle.laws.specs.Out.{Out, and_then, fitted, is_done, reason, refuse_item}
use Rattle.laws.specs.Puts.{Bytes}
use Rattle.laws.specs.Reason.{number_of, numbered}
use Rattle.laws.specs.Pick.{pick}
use Rattle.laws.specs.Utf8.{utf8}
use Rattle.laws.specs.declared.Refusal.{Refusal}
use Rattle.numbers.specs.Field.{offset_of}
use Rattle.numbers.specs.Number.{number_bytes, read_number}
use Rattle.image.specs.Format.{Covers, columns_of, has_alpha, has_part, rows_of, top_of}
use Rattle.records.specs.Record.{record_of}
use Rattle.image.specs.Sound.{FormSound, SizeSound}
use Rattle.image.specs.declared.format.Form.{Form}
use Rattle.image.specs.declared.format.Part.{Part}
use Rattle.image.specs.declared.format.Part.TheVariants.{Alpha}
use Rattle.records.specs.declared.record.Frame.{Frame}
use Rattle.image.specs.declared.size.Size.{Size}
use Rattle.records.specs.Tray.{frames_at}
use Rattle.planes.specs.Bytes.{decode, encode, picture_in, size_of}
use Rattle.planes.specs.Picture.{Agree, Pic, pixel}
use Rattle.figures.specs.Figure.{AllWithin, figures_of}
use Rattle.fill.specs.Fill.{fill_of}
use Rattle.fill.specs.declared.Nclx.{Nclx}
use Rattle.fill.specs.declared.Ycbcr.{Ycbcr}
use Rattle.derived.specs.Canvas.{field_bytes}
use Rattle.derived.specs.Grid.{grid_of}
use Rattle.derived.specs.Overlay.{overlay_of}
use Rattle.derived.specs.declared.grid.GridDescriptor.{GridDescriptor}
use Rattle.derived.specs.declared.overlay.Fill.{Fill}
use Rattle.derived.specs.declared.overlay.OverlayDescriptor.{OverlayDescriptor}
use Rattle.bodies.specs.Form.{flags_of, narrow_canvas}
use Rattle.bodies.specs.Grid.{grid_body_run}
use Rattle.bodies.specs.Overlay.{FillSmall, OverlayFields, SameFields, fields_in, fields_of, narrow_overlay, overlay_body_run}
use Rattle.sizes.specs.Aperture.{ExactRect, resolve_of}
use Rattle.sizes.specs.Margins.{Around, between}
use Rattle.sizes.specs.Sound.{Inside}
use Rattle.props.specs.Chain.{applies, entries_at, fold_chain}
use Rattle.sizes.specs.Scale.{scaled_side}
use Rattle.props.specs.Size.{size_after}
use Rattle.sizes.specs.declared.clap.Clap.{Clap}
use Rattle.sizes.specs.declared.clap.Crop.{Crop}
use Rattle.sizes.specs.declared.clap.CropRect.{CropRect}
use Rattle.props.specs.declared.entry.PropertyEntry.{PropertyEntry}
use Rattle.motions.specs.Place.{Place}
use Rattle.motions.specs.Turn.{crop}
use Rattle.transform.specs.Run.{clap_run, crop_run}
use Rattle.agreement.specs.Carry.{Tracked}
use Rattle.sight.specs.declared.Sight.{Sight}
use Rattle.steps_text.specs.Text.{text_of}
use Rattle.sampling.specs.Area.{area, foot_of, weighed}
use Rattle.sampling.specs.Depth.{level_of, rescaled}
use Rattle.sampling.specs.Nearest.{nearest}
use Rattle.grid.specs.Mosaic.{among}
use Rattle.grid.specs.Run.{frames_in, grid_run}
use Rattle.tiles.specs.Tiles.{alike_from, count_of, held_to, tiles_of}
use Rattle.tiles.specs.declared.judge.Tiles.{Tiles}
use Rattle.inputs.specs.Inputs.{Inputs, first_format, inputs_at}
use Rattle.inputs.specs.Layers.{layers_of}
use Rattle.sentence.specs.Sentence.{sentence_run}
use Rattle.sentence.specs.Told.{read_back, told}
use Rattle.overlay.specs.Covered.{AllCut, ends_as, hides, topmost}
use Rattle.blend.specs.Overlay.{covers_at}
use Rattle.items.specs.Items.{FirstItem, LeftOver, OwnItem, OwnStep, past_entry, past_record}
use Rattle.overlay.specs.Run.{composed, fill_for}
use Rattle.sequence.specs.Sequence.{Call, MadeBy, alpha_number, blank, calls_run, cell_at, cell_in, drawn_at, drawn_pic, first_tile, left_at, left_bytes, picture_of, place, session_run}
use Rattle.session.specs.Session.{CanvasAfter, blank_at, reserved_form}
use Rattle.session.specs.State.{state_ok}
use Rattle.session.specs.declared.state.Canvas.{Canvas}
use Rattle.sight.specs.Sight.{sight_after, sight_of, whole}
use Rattle.stages.specs.Chain.{Drawn, chain_drawn, drawn_after, first_drawn}
use Rattle.scene_room.specs.Scene.{grid_drawn, grid_scene, overlay_drawn, overlay_scene}
use Rattle.agreement.specs.Agreement.{Agreement, CarriedFrom, CarriedTo, NoAlpha, NoScaling, Room, canvas_height, canvas_width, chain_carries, chain_sight, no_chain}
use Rattle.point.specs.Read.{InTray, grid_reads, overlay_reads}
use Rattle.agreement.specs.Alike.{SameTray}
use Rattle.point.specs.Point.{grid_point, overlay_point}
use Rattle.point.specs.declared.Named.{Named}
use Rattle.point.specs.declared.Point.{Point}
use Rattle.point.specs.declared.Spot.{Spot}
use Rattle.cases.specs.Table.{AllHold, table}
use Rattle.words.specs.Canvas.{canvas_of, words_of}
use Rattle.promises.specs.Before.{rect_run}

-- ---- demand 3, and document 01's "Point call", of a picture run and the point runs, which take a tray and a place; bare are those with
-- the empty chain

pub record Demand (covered : Type 0) (drawn : Out Drawn) (scene : ℕ → ℕ → Out (List ℕ)) (tray : List ℕ) (point : List ℕ → ℕ → ℕ → Out Point) (bare : ℕ → ℕ → Out Point)
    (sights : ℕ → ℕ → Out Sight) (carries : ℕ → ℕ → Place → Out Tracked) (reads : Named → Part → ℕ) : Type 0 where
  -- "given enough room: the point run is refused exactly when the picture run is, with the same refusal, or when its place lies outside the
  -- final picture; otherwise the two have the same final size. Every sample of every such picture, chroma and alpha included, equals at
  -- every place it covers what document 01 reads at the input and spot the point run names there, or the canvas fill where it answers
  -- fill", where the demand covers picture and chain
  pub agrees : covered → (output spare : ℕ) → Room drawn output spare → (x y : ℕ) → Agreement reads x y (scene output spare) (point tray x y)
  -- "Point runs alike in all but the sample values of their trays give the same answers"
  pub blind : (other : List ℕ) → SameTray tray other → (x y : ℕ) → point other x y ≡ point tray x y
  -- "No two places of one picture name one spot of one input"
  pub once : (x y u v : ℕ) (a b : Point) (k : Spot) → point tray x y ≡ Ok a → point tray u v ≡ Ok b → a.named ≡ Named.Spot k → b.named ≡ Named.Spot k
      → (x ≡ u) × (y ≡ v)
  -- a spot that is named lies in its input
  pub there : (x y : ℕ) (a : Point) (k : Spot) → point tray x y ≡ Ok a → a.named ≡ Named.Spot k → InTray tray k
  -- "it reduces the chain to one rectangle and one of eight turns": an answer's are those of the chain on the canvas
  pub sighted : (x y u v : ℕ) (a b : Point) → point tray x y ≡ Ok a → bare u v ≡ Ok b → sights (canvas_width b) (canvas_height b) ≡ Ok a.sight
  -- "The applied entries in turn carry each canvas place to a final place or crop it away. The rectangle is what stays; its sides, swapped
  -- at 1 or 3 turns, are the final size", of every chain that is accepted on the canvas
  pub stays : (u v : ℕ) (b : Point) (s : Sight) → bare u v ≡ Ok b → sights (canvas_width b) (canvas_height b) ≡ Ok s
      → CarriedTo carries (canvas_width b) (canvas_height b) (record { x = u; y = v }) s
  -- "A final place names the tile or topmost input that covers its canvas place, and the spot there, else fill": what the run with the
  -- empty chain names at the canvas place that is carried there
  pub through : (x y : ℕ) (a : Point) → point tray x y ≡ Ok a → CarriedFrom carries bare a x y

-- of grids; body and tray are bytes, as what is lent to a call is
unfoldable pub GridDemand : List ℕ → List ℕ → List ℕ → Bool → Type 0
GridDemand body tray chain essential_only =
    Bytes body → Bytes tray
    → Demand (NoScaling chain essential_only) (grid_drawn body tray chain essential_only) (grid_scene body tray chain essential_only) tray
    (λ t. grid_point body t chain essential_only) (grid_point body tray no_chain essential_only)
    (chain_sight chain essential_only) (chain_carries chain essential_only) (grid_reads tray)

-- of overlays; picture runs are covered where inputs have no alpha
unfoldable pub OverlayDemand : List ℕ → List ℕ → List ℕ → Bool → List ℕ → Option Nclx → Type 0
OverlayDemand body tray chain essential_only premultiplied colour =
    Bytes body → Bytes tray
    → Demand (NoScaling chain essential_only × NoAlpha tray) (overlay_drawn body tray chain essential_only premultiplied colour) (overlay_scene body tray chain essential_only premultiplied colour) tray
    (λ t. overlay_point body t chain essential_only premultiplied) (overlay_point body tray no_chain essential_only premultiplied)
    (chain_sight chain essential_only) (chain_carries chain essential_only) (overlay_reads body tray colour)

-- ---- the promises

pub record Promises : Type 0 where
  -- ---- "What is handed in"

  -- "A house number is 1 to 5 bytes of seven bits each, lowest group first": what is written for a number is read back as that number,
  -- whatever stands before and after
  pub house_number_read_back : (before rest : List ℕ) (n : ℕ) → n < 2 ^ 32 → read_number (before ++ (number_bytes n ++ rest)) (length before) ≡ Ok (n, (length before + length (number_bytes n)))
  -- "It is below 2^32, in shortest form": the bytes that a number is read from are those that are written for it
  pub house_number_shortest : (s : List ℕ) (at v next : ℕ) → Bytes s → read_number s at ≡ Ok (v, next) → take (next - at) (drop at s) ≡ number_bytes v
  -- "32-bit sizes and offsets": an offset that is answered as two numbers, how far ahead and how far behind, is their difference
  pub offset_split : (z : ℤ) → sub_ℕ (offset_of z).ahead (offset_of z).behind ≡ z
  -- ---- document 02, A4: bodies written

  -- "Parsing the written body gives the fields back", whatever bytes stand behind it
  pub grid_body_read_back : (g : GridDescriptor) (room : ℕ) (bs rest : List ℕ) → grid_body_run g room ≡ Ok bs → grid_of (bs ++ rest) ≡ Ok g
  pub overlay_body_read_back : (fill : Fill) (width height : ℕ) (words : List ℕ) (room : ℕ) (bs rest : List ℕ) → FillSmall fill → ((k : ℕ) → get_or words k 0 < 2 ^ 32)
      → overlay_body_run (fields_in fill width height words) room ≡ Ok bs
      → (d : OverlayDescriptor) × (overlay_of (bs ++ rest) (length words / 2) ≡ Ok d) × SameFields (fields_of (bs ++ rest) d) (fields_in fill width height words)
  -- "a parsed body with flags 0 or 1, an overlay's with an input, is rewritten to the same bytes when it had no trailing bytes and its form was
  -- the one this rule picks"
  pub grid_body_rewritten : (body : List ℕ) (g : GridDescriptor) (room : ℕ) → Bytes body → grid_of body ≡ Ok g → get_or body 1 0 ≤ 1 → length body ≡ 4 + 2 * field_bytes (get_or body 1 0)
      → field_bytes (get_or body 1 0) ≡ field_bytes (flags_of (narrow_canvas g.output_width g.output_height)) → grid_body_run g room ≡ fitted room body
  pub overlay_body_rewritten : (body : List ℕ) (n : ℕ) (d : OverlayDescriptor) (o : OverlayFields) (room : ℕ) → Bytes body → overlay_of body n ≡ Ok d → 1 ≤ n → get_or body 1 0 ≤ 1
      → length body ≡ d.offsets + d.count * (2 * d.bytes) → d.bytes ≡ field_bytes (flags_of (narrow_overlay (fields_of body d))) → SameFields o (fields_of body d) → overlay_body_run o room ≡ fitted room body
  -- the fields of every overlay's body that was parsed can be handed in as words
  pub overlay_body_words : (body : List ℕ) (n : ℕ) (d : OverlayDescriptor) → Bytes body → overlay_of body n ≡ Ok d
      → (words : List ℕ) × ((k : ℕ) → get_or words k 0 < 2 ^ 32) × SameFields (fields_in d.canvas_fill d.output_width d.output_height words) (fields_of body d)
  -- ---- "clap", "iscl", and sizes along a chain

  -- "Size is n / d; edge is ((input − size) × offset d + 2 × offset n) / (2 × offset d)": a rectangle is taken just where both are exact
  -- along each axis and it lies in the input
  pub clap_taken : (c : Clap) (width height : ℕ) (k : Crop) → resolve_of c width height ≡ Ok k → ExactRect c width height k.rect
  pub clap_exact : (c : Clap) (width height : ℕ) (k : Crop) → 0 < c.width_d → 0 < c.horiz_off_d → 0 < c.height_d → 0 < c.vert_off_d → ExactRect c width height k.rect
      → Around k width height → resolve_of c width height ≡ Ok k
  -- document 02, A1: "Left and top are the rectangle's edges; left + width + right is the input's width, and likewise down"
  pub clap_margins : (c : Clap) (width height : ℕ) (k : Crop) → resolve_of c width height ≡ Ok k → Around k width height
  -- a rectangle of a picture has margins, and no others
  pub margins_there : (r : CropRect) (width height : ℕ) → Inside r width height → Around (between r width height) width height
  pub margins_alone : (k : Crop) (width height : ℕ) → Around k width height → k ≡ between k.rect width height
  -- "crop refuses 9 also where margins handed in break those rules for its record"
  pub crop_taken : (s : List ℕ) (fr : Frame) (k : Crop) (room : ℕ) → record_of s ≡ Ok fr → Around k fr.form.width fr.form.height
      → crop_run s k room ≡ fitted room (encode (crop (decode s fr) k.rect))
  pub crop_refused : (s : List ℕ) (fr : Frame) (k : Crop) (room : ℕ) → record_of s ≡ Ok fr → (Around k fr.form.width fr.form.height → ⊥)
      → crop_run s k room ≡ Err (reason 9)
  -- "Pictures stay the same bytes": with the margins about a rectangle, inside or not, crop answers what it did by the rectangle alone; and
  -- a clap is the crop to the rectangle and the margins that it resolves to
  pub crop_before : (s : List ℕ) (fr : Frame) (r : CropRect) (room : ℕ) → record_of s ≡ Ok fr → crop_run s (between r fr.form.width fr.form.height) room ≡ rect_run s r room
  pub clap_crops : (s : List ℕ) (fr : Frame) (c : Clap) (room : ℕ) → record_of s ≡ Ok fr
      → clap_run s c room ≡ and_then (resolve_of c fr.form.width fr.form.height) (λ k. crop_run s k room)
  -- "size × n / d rounded up": the least whole number that is not below it
  pub iscl_covers : (side num den : ℕ) → 0 < den → side * num ≤ scaled_side side num den * den
  pub iscl_least : (side num den m : ℕ) → 0 < den → side * num ≤ m * den → scaled_side side num den ≤ m
  -- "Limit L is 2^30 pixels": no chain makes a picture above it, or one without columns or rows
  pub chain_within : (essential_only : Bool) (es : List PropertyEntry) (z y : Size) → SizeSound z → fold_chain size_after essential_only es z ≡ Ok y → SizeSound y
  -- ---- document 02, A2: which item a refusal names, and its sentence

  -- "Refusals in order": what is refused by a number has that number
  pub refusal_numbers : (n : ℕ) → number_of (numbered n) ≡ n
  -- "a tray record's own refusal … carry the record's … index, counted from 0 … Bytes left over … carry none": the record that is named is
  -- the one that is refused, and those before it are taken
  pub tray_names : (n : ℕ) (tray : List ℕ) (at : ℕ) (r : Refusal) → frames_at n tray at ≡ Err r → OwnItem (past_record tray) Record n at r ⊎ LeftOver (past_record tray) n at (length tray) r
  -- "13, 14": the tile that is named is not as the first, and those before it are
  pub tile_names : (t : Form) (a : ℕ) (tiles : List Frame) (r : Refusal) → alike_from t a tiles ≡ Err r → OwnStep (λ l b. alike_from t b l) (λ fr b. held_to t b fr.form) Record tiles a r
  -- "14, 16, an input's 18": the input that is named is the first with another depth, with an alpha sample above top, with alpha
  pub input_names : (test : Frame → Bool) (n : ℕ) (inputs : List Frame) (r : Refusal) → refuse_item Record test n inputs (Ok inputs) ≡ Err r → FirstItem test Record n inputs r
  -- "a chain entry's refusal, its form included": of the form, and when it is applied, by a picture run and by a point run; skipped entries
  -- count
  pub chain_names : (n : ℕ) (chain : List ℕ) (at : ℕ) (r : Refusal) → entries_at n chain at ≡ Err r → OwnItem (past_entry chain) Entry n at r ⊎ LeftOver (past_entry chain) n at (length chain) r
  pub drawn_names : (es : List PropertyEntry) (essential_only : Bool) (P : Pic) (r : Refusal) → chain_drawn es essential_only P ≡ Err r
      → OwnStep (fold_chain drawn_after essential_only) (λ e d. pick (applies essential_only e) (drawn_after e.property d) (Ok d)) Entry es (first_drawn P) r
  pub sight_names : (es : List PropertyEntry) (essential_only : Bool) (width height : ℕ) (r : Refusal) → sight_of es essential_only width height ≡ Err r
      → OwnStep (fold_chain sight_after essential_only) (λ e s. pick (applies essential_only e) (sight_after e.property s) (Ok s)) Entry es (whole width height) r
  -- "Compose a sentence from the number and, where there is one, the index and its sort, in German (0) or English (1)"
  pub sentence_examples : (sentence_run 17 0 9 0 192 ≡ Ok (utf8 "17: Ein bereitgestellter Puffer ist zu kurz."))
      × (sentence_run 13 1 4 0 192 ≡ Ok (utf8 "13: Eine Kachel ist nicht so groß wie die erste (Bild 4)."))
      × (sentence_run 13 1 4 1 192 ≡ Ok (utf8 "13: A tile is not the same size as the first one (record 4)."))
      × (sentence_run 10 2 255 1 192 ≡ Ok (utf8 "10: A side would be too long after scaling (entry 255)."))
  -- "Both languages have a sentence for every refusal number", with every sort; 192 bytes are room enough
  pub sentence_there : (number sort index language room : ℕ) → 1 ≤ number → number ≤ 19 → sort ≤ 2 → language ≤ 1 → 192 ≤ room → is_done (sentence_run number sort index language room) ≡ true
  -- "It refuses 5 for a number or language that has no sentence": nothing else has one
  pub sentence_known : (number sort index language room : ℕ) (bs : List ℕ) → sentence_run number sort index language room ≡ Ok bs → (1 ≤ number) × (number ≤ 19) × (sort ≤ 2) × (language ≤ 1)
  -- "From a sentence alone, language, number, index and sort can be read back", for every index of 64 bits; sort 0 has none
  pub sentence_read_back : (number sort index language room : ℕ) (bs : List ℕ) → index < 2 ^ 64 → sentence_run number sort index language room ≡ Ok bs
      → read_back bs ≡ told language number sort (pick (eqb sort 0) 0 index)
  -- ---- "Steps program"

  -- "Input 6 4 2 2 1 1 3 0 1 (decimal bytes) gives, whole"
  pub steps_example : text_of (6 ∷ 4 ∷ 2 ∷ 2 ∷ 1 ∷ 1 ∷ 3 ∷ 0 ∷ 1 ∷ []) ≡ utf8 "step kind width height\n0 2 4 6\n1 3 4 6\n"
  -- "prints the heading below, then for each entry": the program reads at most 16,384 bytes and has room for as many; an input's text is
  -- that of its first 12,816 bytes, and every text fits
  pub steps_prefix : (n : ℕ) (s : List ℕ) → 12816 ≤ n → text_of (take n s) ≡ text_of s
  pub steps_fit : (s : List ℕ) → fitted 16384 (text_of s) ≡ Ok (text_of s)
  -- ---- "iscl", "Other operations"

  -- "then `resize_area`": a sample is a mean. The weights of its footprint sum to the length that the sum is divided by, and a plane of
  -- one value keeps it
  pub area_weights : (from to k : ℕ) → 1 ≤ from → k < to → weighed (foot_of from to k) (λ j. 1) ≡ (foot_of from to k).end - (foot_of from to k).start
  pub area_constant : (P : Pic) (w h c : ℕ) (p : Part) → FormSound P.form → ((x y : ℕ) → x < columns_of P.form p → y < rows_of P.form p → P.at p x y ≡ c)
      → (x y : ℕ) → x < columns_of (area P w h).form p → y < rows_of (area P w h).form p → (area P w h).at p x y ≡ c
  -- "an unchanged size hands back the record", which shows what the mean would; so of the nearest sample, and of an unchanged depth
  pub area_unchanged : (P : Pic) → FormSound P.form → Agree (area P P.form.width P.form.height) P
  pub nearest_unchanged : (P : Pic) → FormSound P.form → Agree (nearest P P.form.width P.form.height) P
  pub depth_unchanged : (P : Pic) → Agree (rescaled P P.form.format.depth) P
  -- "`rescale_depth`": 0 stays 0, top becomes top, a lighter sample stays no darker
  pub depth_zero : (old new : ℕ) → 8 ≤ old → old ≤ 16 → level_of old new 0 ≡ 0
  pub depth_top : (old new : ℕ) → 8 ≤ old → old ≤ 16 → level_of old new (2 ^ old - 1) ≡ 2 ^ new - 1
  pub depth_rises : (old new : ℕ) → 8 ≤ old → old ≤ 16 → (v w : ℕ) → v ≤ w → level_of old new v ≤ level_of old new w
  -- ---- "Fill"

  -- "(`fill_to_ycbcr`, H.273)": every sample is less than one step from H.273's exact figure, held to 0 and top
  pub fill_figures : (red green blue depth : ℕ) (colour : Option Nclx) (s : Ycbcr) → red ≤ 65535 → green ≤ 65535 → blue ≤ 65535 → fill_of red green blue depth colour ≡ Ok s
      → AllWithin s (2 ^ depth - 1) (figures_of red green blue depth colour)
  -- ---- "Overlay"

  -- "A place that no input covers holds fill and fill alpha exactly"
  pub overlay_uncovered : (body tray list : List ℕ) (colour : Option Nclx) (n at : ℕ) (q : Inputs) → Bytes body → inputs_at body tray list n at ≡ Ok q → (x y : ℕ)
      → any (λ l. covers_at l x y) (layers_of body tray list q.descriptor 0 q.frames) ≡ false → (p : Part)
      → pixel (composed body tray list colour q) p x y ≡ fill_for q.descriptor.canvas_fill (first_format q.frames).depth colour p
  -- "one whose covering inputs all have alpha top or straight alpha 0 there ends as the topmost at top, capped at top, with alpha top, or
  -- as the fill where there is none"
  pub overlay_settled : (body tray list : List ℕ) (colour : Option Nclx) (n at : ℕ) (q : Inputs) → Bytes body → inputs_at body tray list n at ≡ Ok q → (x y : ℕ)
      → (let ls = layers_of body tray list q.descriptor 0 q.frames in
      let top = top_of (first_format q.frames) in
      AllCut top x y ls → (p : Part)
      → pixel (composed body tray list colour q) p x y
      ≡ ends_as top (fill_for q.descriptor.canvas_fill (first_format q.frames).depth colour) p x y (topmost (hides top x y) ls))
  -- ---- "Canvas session"

  -- all cells placed, in any order and as often as one likes, each with a record that shows the tile of its index, and finished: what
  -- `composite_grid` comes to over body and tray
  pub session_composes : (body tray : List ℕ) (t : Tiles) → Bytes body → tiles_of body tray ≡ Ok t → (R : ℕ → List ℕ) (F : ℕ → Frame)
      → ((i : ℕ) → i < count_of t.desc → record_of (R i) ≡ Ok (F i))
      → ((i : ℕ) → i < count_of t.desc → Agree (decode (R i) (F i)) (picture_in tray (frames_in tray t) i))
      → (js : List ℕ) → ((i : ℕ) → among i js ≡ ltb i (count_of t.desc)) → (d : List ℕ) → size_of (reserved_form t.desc t.tile) ≤ length d
      → session_run body R js d ≡ grid_run body tray (length d)
  -- "It lends one buffer holding, from the first accepted place, the tight canvas record with an alpha plane reserved behind it. Its alpha
  -- number turns 1 at the first tile with alpha; past that plane nothing is written. Unplaced cells are 0": after start and accepted
  -- calls, of which the last is the head of the list
  pub session_leaves : (body d : List ℕ) (g : GridDescriptor) (c : Call) (cs : List Call) (x : CanvasAfter) → grid_of body ≡ Ok g → calls_run body (c ∷ cs) d ≡ Ok x
      → (x.buffer ≡ left_bytes g (first_tile c cs) (c ∷ cs) ++ drop (size_of (reserved_form g (first_tile c cs))) d)
      × (x.canvas.desc ≡ g) × (x.canvas.tile ≡ first_tile c cs) × (x.canvas.alpha ≡ alpha_number (c ∷ cs))
  -- "Placing a cell again overwrites it, but a tile without alpha leaves the alpha there"; a call for another cell leaves it as it was
  pub session_places : (g : GridDescriptor) (t : Form) (cs : List Call) (x y i : ℕ) (bytes : List ℕ) (p : Part) → i ≡ cell_at g t p x y
      → has_part (drawn_pic g t (place i bytes)).form.format p ≡ true → left_at g t (place i bytes ∷ cs) p x y ≡ drawn_at g t (place i bytes) p x y
  pub session_keeps_alpha : (g : GridDescriptor) (t : Form) (cs : List Call) (x y i : ℕ) (bytes : List ℕ) → has_alpha (picture_of t (place i bytes)).form.format ≡ false
      → left_at g t (place i bytes ∷ cs) Alpha x y ≡ left_at g t cs Alpha x y
  pub session_other_cell : (g : GridDescriptor) (t : Form) (cs : List Call) (x y : ℕ) (c : Call) (p : Part) → (cell_in c ≡ cell_at g t p x y → ⊥)
      → left_at g t (c ∷ cs) p x y ≡ left_at g t cs p x y
  -- "A blank cell has the first tile's form: 2^(depth−1) in each colour plane, alpha top if that tile had alpha, else the alpha there is
  -- left": before any tile with alpha that is top
  pub session_blanks : (g : GridDescriptor) (t : Form) (cs : List Call) (x y i : ℕ) (p : Part) → i ≡ cell_at g t p x y → has_part t.format p ≡ true
      → left_at g t (blank i ∷ cs) p x y ≡ blank_at t.format p
  pub session_blank_alpha : (g : GridDescriptor) (t : Form) (cs : List Call) (x y i : ℕ) → has_alpha t.format ≡ false → left_at g t (blank i ∷ cs) Alpha x y ≡ left_at g t cs Alpha x y
  pub session_blank_first : (g : GridDescriptor) (c : Call) (cs : List Call) (i x y : ℕ) → alpha_number (c ∷ cs) ≡ 0
      → left_at g (first_tile c cs) (blank i ∷ (c ∷ cs)) Alpha x y ≡ top_of (first_tile c cs).format
  -- "A mark for each of 65,536 cells": the states that are taken, of 1,024 words of marks, are those that start and calls come to
  pub states_taken : (s : Canvas) → MadeBy s → (state_ok s ≡ true) × (length s.marks ≡ 1024) × ((i : ℕ) → get_or s.marks i 0 < 2 ^ 64)
  pub states_made : (s : Canvas) → state_ok s ≡ true → length s.marks ≡ 1024 → ((i : ℕ) → get_or s.marks i 0 < 2 ^ 64) → MadeBy s
  -- a state is read back from its words, and no word above 32 bits is read as a state that calls can have made
  pub state_read_back : (s : Canvas) (rest : List ℕ) → state_ok s ≡ true → length s.marks ≡ 1024 → canvas_of (words_of s ++ rest) ≡ s
  pub state_small : (ws : List ℕ) → state_ok (canvas_of ws) ≡ true → (i : ℕ) → i < 10 → get_or ws i 0 < 2 ^ 32
  -- ---- "Cases"

  -- "Starred cases make one table with one proved statement"
  pub cases : AllHold table
  -- ---- "Point call" and demand 3

  pub grid_demand : (body tray chain : List ℕ) (essential_only : Bool) → GridDemand body tray chain essential_only
  pub overlay_demand : (body tray chain : List ℕ) (essential_only : Bool) (premultiplied : List ℕ) (colour : Option Nclx) → OverlayDemand body tray chain essential_only premultiplied colour
  -- "equals at every place it covers": every sample of a plane covers a place of the picture
  pub sample_covers : (m : Form) (p : Part) (cx cy : ℕ) → cx < columns_of m p → cy < rows_of m p
      → (x : ℕ) × (y : ℕ) × (x < m.width) × (y < m.height) × Covers m.format p cx cy x y
