-- Laws of the point calls: everything before the place step by step, and what holds of a place that was found.
use Rattle.laws.specs.declared.Item.TheVariants.{Record}
use Rattle.std.specs.Prelude.{Ok, Err}
use mathlib.Core.Bool.{Bool, ◌||◌, false, true}
use mathlib.Core.List.{List, [], ◌∷◌}
use mathlib.Core.Path.{◌∙◌, ◌≡◌, ap, ap₂, refl, sym}
use Prim.Native.Nat.{◌*◌, ◌+◌, ◌-◌, ◌/◌, ◌<◌, ◌^◌, ◌≤◌, ℕ}
use native.Mathlib.Nat.{div-lt_iff_lt-mul, mul_comm}
use native.Mathlib.Omega.{arith}
use borrow.Author.Tests.{leb-false}
use Rattle.laws.proofs.Order.{mul-below}
use Rattle.laws.proofs.Out.{and_then-done, done-same, holds-done, item-done, item-no, item-yes, refuse-done, refused-back, then-done, then-refused}
use Rattle.laws.specs.Out.{Out, and_then, own_reason, refuse_item}
use Rattle.laws.specs.Pick.{pick}
use Rattle.laws.specs.declared.Refusal.{Refusal}
use Rattle.numbers.specs.Number.{on_number, read_number}
use Rattle.laws.specs.Puts.{Bytes}
use Rattle.planes.specs.Bytes.{decode}
use Rattle.image.specs.Format.{has_alpha}
use Rattle.records.specs.Record.{record_at}
use Rattle.records.specs.declared.record.Frame.{Frame}
use Rattle.derived.proofs.Taken.{overlay-taken}
use Rattle.derived.specs.Overlay.{placement_at}
use Rattle.derived.specs.inner.Sound.{OverlaySound}
use Rattle.derived.specs.declared.overlay.OverlayDescriptor.{OverlayDescriptor}
use Rattle.derived.specs.declared.overlay.Placement.{Placement}
use Rattle.props.proofs.ChainLaws.{judged-chain, judged-refused}
use Rattle.props.specs.Chain.{chain_at, entries_at}
use Rattle.props.specs.inner.Judged.{Judged, judged_at}
use Rattle.sizes.specs.Sound.{Inside}
use Rattle.props.specs.declared.chain.Chain.{Chain}
use Rattle.props.specs.declared.entry.PropertyEntry.{PropertyEntry}
use Rattle.motions.specs.Place.{Place}
use Rattle.sight.proofs.Steps.{bounded-place, sight-bounded, sight-inside}
use Rattle.sight.proofs.Turns.{back_in}
use Rattle.sight.specs.Sight.{back, bounded_source, source_place, sight_of}
use Rattle.sight.specs.inner.Bounded.{Bounded}
use Rattle.sight.specs.declared.CanvasPlace.{CanvasPlace}
use Rattle.sight.specs.declared.Sight.{Sight}
use Rattle.grid.proofs.GridLaws.{tiles-taken}
use Rattle.tiles.specs.Tiles.{tiles_of}
use Rattle.tiles.specs.declared.judge.Tiles.{Tiles}
use Rattle.inputs.proofs.FrameLaws.{frames-from, from-few, from_next, from-refused}
use Rattle.records.specs.inner.Frames.{frames_from}
use Rattle.inputs.specs.Layers.{see_through, layer_of, layers_of}
use Rattle.laws.specs.Any.{any}
use Rattle.inputs.specs.inner.Plan.{plan_at, plan_of}
use Rattle.inputs.specs.Inputs.{Inputs, inputs_at}
use Rattle.inputs.specs.declared.read.Plan.{Plan}
use Rattle.inputs.proofs.FoundLaws.{first_found}
use Rattle.inputs.specs.inner.Sought.{found_at}
use Rattle.point.proofs.GridShown.{canvas-sides}
use Rattle.point.specs.inner.Look.{GridHeld, Tiled, grid_held, grid_looked, overlay_held, overlay_looked, place_in}
use Rattle.point.specs.Point.{Look, grid_look, grid_names, lies_over, look_on, overlay_look, overlay_names, point_from, see_through_frame, spot_under, topmost_named}
use Rattle.point.specs.declared.Named.{Named}
use Rattle.point.specs.declared.look.GridLook.{GridLook}
use Rattle.point.specs.declared.look.OverlayLook.{OverlayLook}

-- ---- the place

module _ (k : Look) (x y : ℕ) (b : Bounded k.sight.area) where
  pub point-refused : (r : Refusal) → bounded_source k.sight x y ≡ Err r → Err r ≡ point_from k x y
  unfolding point_from
  point-refused r e = sym (then-refused _ (sym (bounded-place k.sight x y b) ∙ e))

  pub point-done : (l : CanvasPlace) (m : Named) → bounded_source k.sight x y ≡ Ok (place_in l) → m ≡ k.names (place_in l) → Ok (record { named = m; sight = k.sight }) ≡ point_from k x y
  unfolding point_from
  point-done l m e p = ap (λ (u : Named). Ok (record { named = u; sight = k.sight })) p ∙ sym (then-done _ (sym (bounded-place k.sight x y b) ∙ e))

-- the tiles cover it
pub held-tiled : (k : GridLook) (x y : ℕ) (l : CanvasPlace) → GridHeld k → bounded_source k.sight x y ≡ Ok (place_in l) → Tiled k.tiles l
unfolding source_place
held-tiled k x y l h e =
    let c = refuse-done _ _ _ (place_in l) (sym (bounded-place k.sight x y h.bounded) ∙ e) in
    let d = refuse-done _ _ _ (place_in l) c.1 in
    let u = back_in k.sight _ _ h.inside x y (leb-false _ _ c.0) (leb-false _ _ d.0) in
    let p : back k.sight x y ≡ place_in l = done-same _ _ d.1 in
    record {
      wide = h.wide;
      tall = h.tall;
      columns = h.columns;
      rows = h.rows;
      across = omega (arith, u.0, h.cover_x, ap (λ (v : Place). v.x) p);
      down = omega (arith, u.1, h.cover_y, ap (λ (v : Place). v.y) p);
    }

-- ---- the tile that covers a place

module _ (t : Tiles) (l : CanvasPlace) (k : Tiled t l) where
  row-few : l.y / t.tile.height < t.desc.rows
  row-few = (div-lt_iff_lt-mul k.tall).1 (omega (arith, mul_comm t.tile.height t.desc.rows, k.down))

  column-few : l.x / t.tile.width < t.desc.columns
  column-few = (div-lt_iff_lt-mul k.wide).1 (omega (arith, mul_comm t.tile.width t.desc.columns, k.across))

  pub rows-small : l.y / t.tile.height * t.desc.columns ≤ 65280
  rows-small = omega (arith, mul-below 255 256 (l.y / t.tile.height) t.desc.columns (omega (arith, row-few, k.rows)) k.columns)

  pub input-small : l.y / t.tile.height * t.desc.columns + l.x / t.tile.width ≤ 65535
  input-small = omega (arith, rows-small, column-few, k.columns)

-- ---- the topmost input that covers a place

-- one record after the other
module _ (body tray : List ℕ) (d : OverlayDescriptor) (l : Place) (i at : ℕ) (found : Named) where
  abbrev left : Named
  left = topmost_named body d l i found (frames_from (d.count - i) tray at)

  pub top-next : (fr : Frame) (o : Placement) (f : Named) → i < d.count → record_at tray at ≡ Ok fr → o ≡ placement_at body d i → f ≡ pick (lies_over fr o l) (spot_under i o l) found
      → left ≡ topmost_named body d l (i + 1) f (frames_from (d.count - (i + 1)) tray fr.end)
  unfolding topmost_named
  top-next fr o f h e p q =
      let z : d.count - i - 1 ≡ d.count - (i + 1) = omega arith in
      ap (topmost_named body d l i found) (from_next (d.count - i) tray at fr (omega arith) e)
      ∙ ap₂ (λ (g : Named) (n : ℕ). topmost_named body d l (i + 1) g (frames_from n tray fr.end)) (sym (q ∙ ap (λ (u : Placement). pick (lies_over fr u l) (spot_under i u l) found) p)) z

  pub top-refused : (r : Refusal) → record_at tray at ≡ Err r → left ≡ found
  unfolding topmost_named
  top-refused r e = ap (topmost_named body d l i found) (from-refused (d.count - i) tray at r e)

  pub top-none : d.count ≤ i → left ≡ found
  unfolding topmost_named frames_from
  top-none h = let z : d.count - i ≡ 0 = omega arith in rw z

-- ---- the grid's look, step by step

-- what a chain that was judged leaves of a picture of that size
abbrev pub sights : List ℕ → Chain → Bool → ℕ → ℕ → Out Sight
sights chain c flag w h = and_then (entries_at c.count chain c.first) (λ es. sight_of es flag w h)

look-on : (chain : List ℕ) (c : Chain) (j : Judged chain c) (flag : Bool) (w h : ℕ) (names : Place → Named) → look_on j.entries flag w h names ≡ and_then (sights chain c flag w h) (λ s. Ok (record { sight = s; names = names }))
unfolding look_on
look-on chain c j flag w h names = ap (λ (o : Out Sight). and_then o (λ s. Ok (record { sight = s; names = names }))) (sym (then-done _ j.read))

sights-bounded : (chain : List ℕ) (c : Chain) (j : Judged chain c) (flag : Bool) (w h : ℕ) (s : Sight) → sights chain c flag w h ≡ Ok s → w < 2 ^ 32 → h < 2 ^ 32 → Bounded s.area
sights-bounded chain c j flag w h s e i k = holds-done (λ u. Bounded u.area) _ s (sight-bounded j.entries flag w h i k) (sym (then-done _ j.read) ∙ e)

sights-inside : (chain : List ℕ) (c : Chain) (j : Judged chain c) (flag : Bool) (w h : ℕ) (s : Sight) → sights chain c flag w h ≡ Ok s → 1 ≤ w → 1 ≤ h → Inside s.area w h
sights-inside chain c j flag w h s e i k = holds-done (λ u. Inside u.area w h) _ s (sight-inside j.entries flag w h i k) (sym (then-done _ j.read) ∙ e)

sides-low : (w h : ℕ) → 1 ≤ w → 1 ≤ h → w * h ≤ 2 ^ 30 → (w < 2 ^ 32) × (h < 2 ^ 32)
sides-low w h i j a = (omega (arith, mul-below w h w 1 (omega arith) j, a), omega (arith, mul-below w h 1 h i (omega arith), a))

module _ (body tray chain : List ℕ) (flag : Bool) where
  abbrev GridRefused : Refusal → Type 0
  GridRefused r = (Err r ≡ grid_look body tray chain flag) × grid_held (Err r)

  grid-no : (r : Refusal) → grid_look body tray chain flag ≡ Err r → GridRefused r
  unfolding grid_held
  grid-no r e = (sym e, tt)

  pub grid-number : (r : Refusal) → read_number tray 0 ≡ Err r → GridRefused r
  unfolding grid_look on_number
  grid-number r e = grid-no _ (rw e)

  module _ (n at : ℕ) (counted : read_number tray 0 ≡ Ok (n, at)) where
    grid-counted : grid_look body tray chain flag
        ≡ and_then (chain_at chain 0) (λ es. and_then (tiles_of body tray) (λ t. look_on es flag t.desc.output_width t.desc.output_height (grid_names t)))
    unfolding grid_look on_number tiles_of
    grid-counted = rw counted

    pub grid-chain : (r : Refusal) → judged_at chain 0 ≡ Err r → GridRefused r
    grid-chain r e = grid-no _ (grid-counted ∙ then-refused _ (judged-refused _ _ _ e))

    module _ (c : Chain) (judged : judged_at chain 0 ≡ Ok c) where
      pub grid-tiles : (r : Refusal) → tiles_of body tray ≡ Err r → GridRefused r
      grid-tiles r e = grid-no _ (grid-counted ∙ then-done _ (judged-chain chain 0 c judged).1 ∙ then-refused _ e)

      module _ (t : Tiles) (taken : tiles_of body tray ≡ Ok t) where
        abbrev grid_sights : Out Sight
        grid_sights = sights chain c flag t.desc.output_width t.desc.output_height

        grid-on : grid_look body tray chain flag ≡ and_then grid_sights (λ s. Ok (record { sight = s; names = grid_names t }))
        grid-on = let j = judged-chain chain 0 c judged in grid-counted ∙ then-done _ j.1 ∙ then-done _ taken ∙ look-on chain c j.0 flag _ _ (grid_names t)

        pub grid-sight : (r : Refusal) → grid_sights ≡ Err r → GridRefused r
        grid-sight r e = grid-no _ (grid-on ∙ then-refused _ e)

        pub grid-done : (s : Sight) → grid_sights ≡ Ok s → Bytes body
            → (Ok (grid_looked (record { sight = s; tiles = t })) ≡ grid_look body tray chain flag) × grid_held (Ok (record { sight = s; tiles = t }))
        unfolding grid_held
        grid-done s e b =
            let j = (judged-chain chain 0 c judged).0 in
            let g = tiles-taken body tray t b taken in
            let z = canvas-sides t.desc t.tile t.alpha in
            let q = sides-low _ _ g.canvas.wide g.canvas.tall g.canvas.area in (
              sym (grid-on ∙ then-done _ e),
              record {
                wide = g.tile.wide;
                tall = g.tile.tall;
                columns = g.columns.1;
                rows = g.rows.1;
                cover_x = g.cover_x;
                cover_y = g.cover_y;
                inside = sights-inside chain c j flag _ _ s e (omega (arith, z.0, g.canvas.wide)) (omega (arith, z.1, g.canvas.tall));
                bounded = sights-bounded chain c j flag _ _ s e (omega (arith, z.0, q.0)) (omega (arith, z.1, q.1));
              },
            )

-- ---- the overlay's look, step by step

some-see : (body tray list : List ℕ) (d : OverlayDescriptor) (i : ℕ) (frs : List Frame) → any see_through (layers_of body tray list d i frs) ≡ any see_through_frame frs
unfolding any layers_of layer_of see_through see_through_frame decode
some-see body tray list d i [] = refl
some-see body tray list d i (fr ∷ frs) = ap (λ (b : Bool). has_alpha fr.form.format || b) (some-see body tray list d (i + 1) frs)

module _ (body tray list : List ℕ) (n at : ℕ) where
  abbrev Taken : Inputs → Type 0
  Taken q = OverlaySound body q.descriptor × (q.descriptor.count ≡ n) × (q.frames ≡ frames_from n tray at)

  taken_as : (q u : Inputs) → q ≡ u → Taken q → Taken u
  taken_as q u e k = rw e at k

  inputs-taken : (q : Inputs) → inputs_at body tray list n at ≡ Ok q → Taken q
  unfolding inputs_at
  inputs-taken q e =
      let a = and_then-done _ _ q e in
      let b = refuse-done _ _ _ q a.2 in
      let c = refuse-done _ _ _ q b.1 in
      let d = and_then-done _ _ q c.1 in
      let f = item-done Record _ 14 _ _ q d.2 in
      let o = overlay-taken body n a.0 a.1 in
      taken_as _ q (done-same _ q f.1) (o.0, o.1, frames-from n tray at d.0 d.1)

module _ (body tray chain : List ℕ) (flag : Bool) (list : List ℕ) where
  abbrev OverlayRefused : Refusal → Type 0
  OverlayRefused r = (Err r ≡ overlay_look body tray chain flag list) × overlay_held body (Err r)

  overlay-no : (r : Refusal) → overlay_look body tray chain flag list ≡ Err r → OverlayRefused r
  unfolding overlay_held
  overlay-no r e = (sym e, tt)

  pub overlay-number : (r : Refusal) → read_number tray 0 ≡ Err r → OverlayRefused r
  unfolding overlay_look on_number
  overlay-number r e = overlay-no _ (rw e)

  module _ (n at : ℕ) (counted : read_number tray 0 ≡ Ok (n, at)) where
    abbrev goes : List PropertyEntry → Inputs → Out Look
    goes es q = refuse_item Record see_through_frame 18 q.frames (look_on es flag q.descriptor.output_width q.descriptor.output_height (overlay_names body q))

    overlay-counted : overlay_look body tray chain flag list ≡ and_then (chain_at chain 0) (λ es. and_then (inputs_at body tray list n at) (goes es))
    unfolding overlay_look on_number
    overlay-counted = rw counted

    pub overlay-chain : (r : Refusal) → judged_at chain 0 ≡ Err r → OverlayRefused r
    overlay-chain r e = overlay-no _ (overlay-counted ∙ then-refused _ (judged-refused _ _ _ e))

    module _ (c : Chain) (judged : judged_at chain 0 ≡ Ok c) where
      pub overlay-inputs : (r : Refusal) → plan_at body tray list n at ≡ Err r → OverlayRefused r
      unfolding plan_at
      overlay-inputs r e = overlay-no _ (overlay-counted ∙ then-done _ (judged-chain chain 0 c judged).1 ∙ then-refused _ (refused-back _ (plan_of body tray list at) r e))

      -- what a plan leaves to answer
      abbrev plan_looked : Plan → Sight → OverlayLook
      plan_looked q s = record { sight = s; descriptor = q.descriptor; first = at }

      abbrev plan_sights : Plan → Out Sight
      plan_sights q = sights chain c flag q.descriptor.output_width q.descriptor.output_height

      record Planned (q : Plan) : Type 0 where
        sound : OverlaySound body q.descriptor
        alpha : q.alpha ≡ any see_through_frame (frames_from n tray at)
        left : overlay_look body tray chain flag list ≡ refuse_item Record see_through_frame 18 (frames_from n tray at) (and_then (plan_sights q) (λ s. Ok (overlay_looked body tray (plan_looked q s))))

      planned-as : (q u : Plan) → q ≡ u → Planned q → Planned u
      planned-as q u e k = rw e at k

      planned : (q : Inputs) → inputs_at body tray list n at ≡ Ok q → Planned (plan_of body tray list at q)
      unfolding plan_of
      planned q e =
          let j = judged-chain chain 0 c judged in
          let k = inputs-taken body tray list n at q e in
          record {
            sound = k.0;
            alpha = some-see body tray list q.descriptor 0 q.frames ∙ ap (any see_through_frame) k.2;
            left =
                overlay-counted ∙ then-done _ j.1 ∙ then-done _ e
                ∙ ap₂ (λ (frs : List Frame) (o : Out Look). refuse_item Record see_through_frame 18 frs o) k.2
                (look-on chain c j.0 flag _ _ (overlay_names body q)
                ∙ ap (λ (frs : List Frame). and_then (sights chain c flag q.descriptor.output_width q.descriptor.output_height) (λ s. Ok (record { sight = s; names = overlay_names body (record { descriptor = q.descriptor; frames = frs }) })))
                (k.2 ∙ ap (λ (m : ℕ). frames_from m tray at) (sym k.1)));
          }

      module _ (q : Plan) (taken : plan_at body tray list n at ≡ Ok q) where
        plan-planned : Planned q
        unfolding plan_at
        plan-planned = let a = and_then-done _ _ q taken in planned-as _ q (done-same _ q a.2) (planned a.0 a.1)

        pub overlay-alpha : (i : ℕ) → q.alpha ≡ true → i ≡ found_at 0 see_through_frame (frames_from n tray at) n → OverlayRefused (own_reason 18 Record i)
        overlay-alpha i e f =
            let some : any see_through_frame (frames_from n tray at) ≡ true = sym plan-planned.alpha ∙ e in
            overlay-no _ (plan-planned.left ∙ item-yes Record see_through_frame 18 (frames_from n tray at) i _ some (first_found see_through_frame Record 18 (frames_from n tray at) n i (from-few n tray at) f some))

        module _ (opaque : q.alpha ≡ false) where
          none_seen : {B : Type 0} (o : Out B) → refuse_item Record see_through_frame 18 (frames_from n tray at) o ≡ o
          none_seen o = item-no Record see_through_frame 18 (frames_from n tray at) o (sym plan-planned.alpha ∙ opaque)

          pub overlay-sight : (r : Refusal) → plan_sights q ≡ Err r → OverlayRefused r
          overlay-sight r e = overlay-no _ (plan-planned.left ∙ none_seen _ ∙ then-refused _ e)

          pub overlay-done : (s : Sight) → plan_sights q ≡ Ok s
              → (Ok (overlay_looked body tray (plan_looked q s)) ≡ overlay_look body tray chain flag list) × overlay_held body (Ok (plan_looked q s))
          unfolding overlay_held
          overlay-done s e =
              let z = plan-planned.sound.canvas in
              let u = sides-low _ _ z.wide z.tall z.area in
              (sym (plan-planned.left ∙ none_seen _ ∙ then-done _ e), (plan-planned.sound, sights-bounded chain c (judged-chain chain 0 c judged).0 flag _ _ s e u.0 u.1))
