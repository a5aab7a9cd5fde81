-- Demand 3, of grids and of overlays whose inputs have no alpha.
use Rattle.laws.specs.declared.Item.TheVariants.{Record}
use Rattle.std.specs.Prelude.{Ok, Option}
use mathlib.Core.Bool.{Bool, false}
use mathlib.Core.List.{List, []}
use mathlib.Core.Path.{◌∙◌, ◌≡◌, ap, ap₂, refl, sym}
use Prim.Native.Nat.{◌<◌, ◌≤◌, ℕ}
use Rattle.laws.proofs.Out.{Holds, and_then-done, holds-map, item-done, item-no, then-done}
use Rattle.laws.specs.Any.{any}
use Rattle.laws.specs.Out.{Out, and_then, refuse, refuse_item}
use Rattle.laws.specs.Pick.{pick}
use Rattle.laws.specs.Puts.{Bytes}
use Rattle.numbers.specs.Number.{last_byte, on_number, read_from, read_number}
use Rattle.records.proofs.RecordLaws.{on-number}
use Rattle.image.specs.Format.{top_of}
use Rattle.image.specs.Sound.{FormSound, SizeSound}
use Rattle.records.specs.Tray.{records_in}
use Rattle.planes.specs.inner.InRange.{InRange}
use Rattle.planes.specs.Picture.{Pic}
use Rattle.fill.specs.declared.Nclx.{Nclx}
use Rattle.props.proofs.ChainLaws.{Applied}
use Rattle.props.specs.Chain.{chain_at, count_at, entries_at}
use Rattle.props.specs.declared.entry.PropertyEntry.{PropertyEntry}
use Rattle.motions.specs.Chain.{NotIscl}
use Rattle.motions.specs.Place.{Place}
use Rattle.sight.specs.declared.Sight.{Sight}
use Rattle.grid.proofs.GridLaws.{tiles-taken}
use Rattle.tiles.proofs.TilesLaws.{tiles-number}
use Rattle.grid.specs.Run.{grid_on}
use Rattle.tiles.specs.Tiles.{tiles_at}
use Rattle.tiles.specs.declared.judge.Tiles.{Tiles}
use Rattle.grid.specs.inner.Ready.{TilesTaken}
use Rattle.overlay.proofs.RunLaws.{Took, took}
use Rattle.inputs.specs.Inputs.{Inputs, alpha_above, first_format, inputs_at}
use Rattle.overlay.specs.Run.{composed}
use Rattle.stages.proofs.AfterLaws.{in-range-back}
use Rattle.scene_room.proofs.ComposedLaws.{grid-in-range, overlay-in-range}
use Rattle.plans.proofs.ChainPlanLaws.{chain-in-range}
use Rattle.stages.specs.Chain.{Drawn, chain_drawn}
use Rattle.scene_room.specs.Scene.{grid_drawn, grid_scene, overlay_drawn, overlay_scene}
use Rattle.agreement.proofs.AlikeLaws.{grid-blind, overlay-blind}
use Rattle.agreement.proofs.Chained.{ReadsBack, chain-agrees, chain-names, chain-once, chain-sighted, chain-stays, chain-through}
use Rattle.point.proofs.GridShown.{grid-even, grid-form, grid-once, grid-reads, grid-sides, grid-there, tiles-records}
use Rattle.agreement.proofs.Halves.{grid-steps, overlay-steps, point_on}
use Rattle.point.proofs.OverlayShown.{inputs-records, none_above, overlay-even, overlay-once, overlay-reads, overlay-sides, overlay-there}
use Rattle.agreement.proofs.Runs.{Agrees, agrees-as, agrees_number, agrees-then, on-taken, unscaled}
use Rattle.agreement.specs.Agreement.{CarriedFrom, CarriedTo, NoAlpha, NoScaling, canvas_height, canvas_width, chain_carries, chain_sight, no_chain}
use Rattle.point.specs.Read.{InTray, grid_reads, overlay_reads}
use Rattle.point.specs.Point.{grid_names, grid_point, overlay_names, overlay_point, see_through_frame}
use Rattle.point.specs.declared.Named.{Named}
use Rattle.point.specs.declared.Point.{Point}
use Rattle.point.specs.declared.Spot.{Spot}
use Rattle.promises.specs.Promises.{GridDemand, OverlayDemand}

-- ---- point runs whose tray, chain and body were taken

-- they go by the chain's entries on a canvas whose places have names
record Places (tray chain : List ℕ) (flag : Bool) (point bare : ℕ → ℕ → Out Point) (es : List PropertyEntry) : Type 0 where
  chained : chain_at chain 0 ≡ Ok es
  width : ℕ
  height : ℕ
  wide : 1 ≤ width
  tall : 1 ≤ height
  names : Place → Named
  points : (x y : ℕ) → point x y ≡ point_on es flag width height x y names
  bares : (u v : ℕ) → bare u v ≡ point_on [] flag width height u v names
  apart : (l m : Place) (k : Spot) → l.x < width → l.y < height → m.x < width → m.y < height → names l ≡ Named.Spot k → names m ≡ Named.Spot k → l ≡ m
  spots : (l : Place) → l.x < width → l.y < height → (k : Spot) → names l ≡ Named.Spot k → InTray tray k

module _ (tray chain : List ℕ) (flag : Bool) (point bare : ℕ → ℕ → Out Point) (es : List PropertyEntry) (t : Places tray chain flag point bare es) where
  answers : (x y : ℕ) (a : Point) → point x y ≡ Ok a → point_on es flag t.width t.height x y t.names ≡ Ok a
  answers x y a e = sym (t.points x y) ∙ e

  bare-answers : (u v : ℕ) (b : Point) → bare u v ≡ Ok b → point_on [] flag t.width t.height u v t.names ≡ Ok b
  bare-answers u v b e = sym (t.bares u v) ∙ e

  places-once : (x y u v : ℕ) (a b : Point) (k : Spot) → point x y ≡ Ok a → point u v ≡ Ok b → a.named ≡ Named.Spot k → b.named ≡ Named.Spot k → (x ≡ u) × (y ≡ v)
  places-once x y u v a b k p q = chain-once t.width t.height t.wide t.tall es flag t.names t.apart x y u v a b k (answers x y a p) (answers u v b q)

  places-there : (x y : ℕ) (a : Point) (k : Spot) → point x y ≡ Ok a → a.named ≡ Named.Spot k → InTray tray k
  places-there x y a k p e = chain-names t.width t.height t.wide t.tall es flag t.names (λ n. (j : Spot) → n ≡ Named.Spot j → InTray tray j) t.spots x y a (answers x y a p) k e

  places-sighted : (x y u v : ℕ) (a b : Point) → point x y ≡ Ok a → bare u v ≡ Ok b → chain_sight chain flag (canvas_width b) (canvas_height b) ≡ Ok a.sight
  unfolding chain_sight
  places-sighted x y u v a b p q = then-done _ t.chained ∙ chain-sighted t.width t.height t.wide t.tall es flag t.names x y u v a b (answers x y a p) (bare-answers u v b q)

  places-stays : (u v : ℕ) (b : Point) (s : Sight) → bare u v ≡ Ok b → chain_sight chain flag (canvas_width b) (canvas_height b) ≡ Ok s
      → CarriedTo (chain_carries chain flag) (canvas_width b) (canvas_height b) (record { x = u; y = v }) s
  unfolding chain_sight chain_carries
  places-stays u v b s q e =
      let k = chain-stays t.width t.height t.wide t.tall es flag t.names u v b s (bare-answers u v b q) (sym (then-done _ t.chained) ∙ e) in
      record { end = k.end; carried = then-done _ t.chained ∙ k.carried; follows = k.follows }

  places-through : (x y : ℕ) (a : Point) → point x y ≡ Ok a → CarriedFrom (chain_carries chain flag) bare a x y
  unfolding chain_carries
  places-through x y a p =
      let k = chain-through t.width t.height t.wide t.tall es flag t.names x y a (answers x y a p) in
      record {
        place = k.place;
        answer = k.answer;
        answers = t.bares _ _ ∙ k.answers;
        named = k.named;
        end = k.end;
        carried = then-done _ t.chained ∙ k.carried;
        arrived = k.arrived;
      }

-- the chain without entries has none
no-chain : chain_at no_chain 0 ≡ Ok []
unfolding chain_at count_at entries_at read_number read_from last_byte on_number and_then refuse pick
no-chain = refl

-- ---- a grid's tiles that were taken

module _ (body tray : List ℕ) (bytes : Bytes body) (flag : Bool) (n at : ℕ) (number : read_number tray 0 ≡ Ok (n, at)) (es : List PropertyEntry) (applied : Applied NotIscl flag es) (t : Tiles) (taken : tiles_at body tray n at ≡ Ok t) where
  abbrev gridded : Pic
  gridded = grid_on tray t

  tiles : TilesTaken tray t
  tiles = tiles-taken body tray t bytes (tiles-number body tray n at number ∙ taken)

  sound : FormSound gridded.form
  sound = grid-form tray t tiles

  sides : (gridded.form.width ≡ t.desc.output_width) × (gridded.form.height ≡ t.desc.output_height)
  sides = grid-sides tray t

  column : (k : ℕ) → k < gridded.form.width → k < t.desc.output_width
  column k l = rw sides.0 at l

  row : (k : ℕ) → k < gridded.form.height → k < t.desc.output_height
  row k l = rw sides.1 at l

  abbrev grid_pointed : ℕ → ℕ → Out Point
  grid_pointed x y = point_on es flag t.desc.output_width t.desc.output_height x y (grid_names t)

  sized-point : (x y : ℕ) → point_on es flag gridded.form.width gridded.form.height x y (grid_names t) ≡ grid_pointed x y
  sized-point x y = ap₂ (λ (w h : ℕ). point_on es flag w h x y (grid_names t)) sides.0 sides.1

  tiles-agree : Holds (λ (d : Drawn). ReadsBack d.pic) (chain_drawn es flag gridded) → (x y : ℕ) → Agrees (grid_reads tray) x y (chain_drawn es flag gridded) (grid_pointed x y)
  unfolding Agrees
  tiles-agree drawn x y output spare m =
      rw (← (sized-point x y))
      (chain-agrees gridded (grid-even tray t) sound.wide sound.tall es flag applied (grid_names t) (grid_reads tray)
      (λ p h l lx ly. grid-reads tray t tiles (tiles-records body tray n at t number taken) p h l (column l.x lx) (row l.y ly))
      drawn x y output spare m)

-- ---- an overlay's inputs that were taken, without alpha

module _ (body tray list : List ℕ) (colour : Option Nclx) (bytes : Bytes body) (flag : Bool) (n at : ℕ) (number : read_number tray 0 ≡ Ok (n, at)) (es : List PropertyEntry) (applied : Applied NotIscl flag es) (q : Inputs)
    (taken : inputs_at body tray list n at ≡ Ok q) (none : any see_through_frame (records_in tray) ≡ false) where
  abbrev overlaid : Pic
  overlaid = composed body tray list colour q

  inputs : Took body tray list n at q
  inputs = took body tray list n at q taken

  opaque : any see_through_frame q.frames ≡ false
  opaque = ap (any see_through_frame) (sym (inputs-records body tray list n at q number inputs)) ∙ none

  -- the canvas has places
  canvas-sides : (overlaid.form.width ≡ q.descriptor.output_width) × (overlaid.form.height ≡ q.descriptor.output_height)
  canvas-sides = overlay-sides body tray list colour q

  canvas : SizeSound (record { width = overlaid.form.width; height = overlaid.form.height })
  canvas = rw (canvas-sides.0, canvas-sides.1) inputs.offsets.canvas

  abbrev overlay_pointed : ℕ → ℕ → Out Point
  overlay_pointed x y = point_on es flag q.descriptor.output_width q.descriptor.output_height x y (overlay_names body q)

  sides-point : (x y : ℕ) → point_on es flag overlaid.form.width overlaid.form.height x y (overlay_names body q) ≡ overlay_pointed x y
  sides-point x y = ap₂ (λ (w h : ℕ). point_on es flag w h x y (overlay_names body q)) canvas-sides.0 canvas-sides.1

  -- 18 an input with alpha
  not-18 : (x y : ℕ) → refuse_item Record see_through_frame 18 q.frames (overlay_pointed x y) ≡ overlay_pointed x y
  not-18 x y = item-no Record _ 18 _ _ opaque

  -- 16 an alpha sample above top
  not_16 : refuse_item Record (alpha_above tray (top_of (first_format q.frames))) 16 q.frames (chain_drawn es flag overlaid) ≡ chain_drawn es flag overlaid
  not_16 = item-no Record _ 16 _ _ (none_above tray (top_of (first_format q.frames)) q.frames opaque)

  chained-agree : Holds (λ (d : Drawn). ReadsBack d.pic) (chain_drawn es flag overlaid) → (x y : ℕ) → Agrees (overlay_reads body tray colour) x y (chain_drawn es flag overlaid) (overlay_pointed x y)
  unfolding Agrees
  chained-agree drawn x y output spare m =
      rw (← (sides-point x y))
      (chain-agrees overlaid (overlay-even body tray list colour q) canvas.wide canvas.tall es flag applied (overlay_names body q) (overlay_reads body tray colour)
      (λ p h l lx ly. overlay-reads body tray list colour n at q bytes number inputs opaque p l)
      drawn x y output spare m)

  inputs-agree : Holds (λ (d : Drawn). ReadsBack d.pic) (chain_drawn es flag overlaid) → (x y : ℕ)
      → Agrees (overlay_reads body tray colour) x y (refuse_item Record (alpha_above tray (top_of (first_format q.frames))) 16 q.frames (chain_drawn es flag overlaid)) (refuse_item Record see_through_frame 18 q.frames (overlay_pointed x y))
  inputs-agree drawn x y = agrees-as (overlay_reads body tray colour) x y (sym not_16) (sym (not-18 x y)) (chained-agree drawn x y)

-- ---- the calls

-- the records that a chain writes read back
chain_back : (es : List PropertyEntry) (flag : Bool) (P : Pic) → InRange P → Holds (λ (d : Drawn). ReadsBack d.pic) (chain_drawn es flag P)
chain_back es flag P k = holds-map _ _ _ (λ d f. in-range-back d.pic f) (chain-in-range es flag P k)

-- a grid's point run that answers, with any chain: its count, its chain and its tiles were taken
record GridTaken (body tray chain : List ℕ) : Type 0 where
  n : ℕ
  at : ℕ
  number : read_number tray 0 ≡ Ok (n, at)
  es : List PropertyEntry
  chained : chain_at chain 0 ≡ Ok es
  t : Tiles
  taken : tiles_at body tray n at ≡ Ok t

grid-read : (body tray chain : List ℕ) (flag : Bool) (x y : ℕ) (a : Point) → grid_point body tray chain flag x y ≡ Ok a → GridTaken body tray chain
grid-read body tray chain flag x y a e =
    let i = on-number _ _ a (sym (grid-steps body tray chain flag x y) ∙ e) in
    let j = and_then-done _ _ a i.3 in
    let k = and_then-done _ _ a j.2 in
    record { n = i.0; at = i.1; number = i.2; es = j.0; chained = j.1; t = k.0; taken = k.1 }

module _ (body tray chain : List ℕ) (flag : Bool) (bytes : Bytes body) where
  grid-points : (c : List ℕ) (r : GridTaken body tray c) (x y : ℕ) → grid_point body tray c flag x y ≡ point_on r.es flag r.t.desc.output_width r.t.desc.output_height x y (grid_names r.t)
  grid-points c r x y = grid-steps body tray c flag x y ∙ on-taken _ r.number ∙ then-done _ r.chained ∙ then-done _ r.taken

  grid-places : (r : GridTaken body tray chain) → Places tray chain flag (grid_point body tray chain flag) (grid_point body tray no_chain flag) r.es
  grid-places r =
      let t = r.t in
      let tiles = tiles-taken body tray t bytes (tiles-number body tray r.n r.at r.number ∙ r.taken) in
      let sound = grid-form tray t tiles in
      let sides = grid-sides tray t in
      record {
        chained = r.chained;
        width = t.desc.output_width;
        height = t.desc.output_height;
        wide = rw sides.0 at sound.wide;
        tall = rw sides.1 at sound.tall;
        names = grid_names t;
        points = grid-points chain r;
        bares = grid-points no_chain (record { n = r.n; at = r.at; number = r.number; es = []; chained = no-chain; t = t; taken = r.taken });
        apart = λ l m k lx ly mx my e f. grid-once tray t tiles l m k lx ly mx my e f;
        spots = λ l lx ly k e. grid-there tray t tiles (tiles-records body tray r.n r.at t r.number r.taken) l lx ly k e;
      }

-- DEMAND 3, of grids
pub grid-demand : (body tray chain : List ℕ) (flag : Bool) → GridDemand body tray chain flag
unfolding GridDemand NoScaling grid_drawn grid_scene chain_sight Agrees
grid-demand body tray chain flag bytes small =
    record {
      agrees = λ plain output spare m x y.
          agrees-as (grid_reads tray) x y refl (sym (grid-steps body tray chain flag x y))
          (agrees_number (grid_reads tray) x y (read_number tray 0) _ _
          (λ n at c. agrees-then (grid_reads tray) x y (chain_at chain 0) _ _
          (λ es k. agrees-then (grid_reads tray) x y (tiles_at body tray n at) _ _
          (λ t e. tiles-agree body tray bytes flag n at c es (unscaled flag es (plain es k)) t e (chain_back es flag (grid_on tray t) (grid-in-range body tray n at t bytes small c e)) x y))))
          output spare m;
      blind = λ other a x y. grid-blind body tray other chain flag x y a;
      once = λ x y u v a b k p. places-once tray chain flag _ _ _ (grid-places body tray chain flag bytes (grid-read body tray chain flag x y a p)) x y u v a b k p;
      there = λ x y a k p. places-there tray chain flag _ _ _ (grid-places body tray chain flag bytes (grid-read body tray chain flag x y a p)) x y a k p;
      sighted = λ x y u v a b p. places-sighted tray chain flag _ _ _ (grid-places body tray chain flag bytes (grid-read body tray chain flag x y a p)) x y u v a b p;
      stays = λ u v b s q e.
          let r = grid-read body tray no_chain flag u v b q in
          let c = and_then-done _ _ s e in
          places-stays tray chain flag _ _ _
          (grid-places body tray chain flag bytes (record { n = r.n; at = r.at; number = r.number; es = c.0; chained = c.1; t = r.t; taken = r.taken })) u v b s q e;
      through = λ x y a p. places-through tray chain flag _ _ _ (grid-places body tray chain flag bytes (grid-read body tray chain flag x y a p)) x y a p;
    }

-- an overlay's, likewise; no input has alpha
record OverlayTaken (body tray chain list : List ℕ) : Type 0 where
  n : ℕ
  at : ℕ
  number : read_number tray 0 ≡ Ok (n, at)
  es : List PropertyEntry
  chained : chain_at chain 0 ≡ Ok es
  q : Inputs
  taken : inputs_at body tray list n at ≡ Ok q
  opaque : any see_through_frame q.frames ≡ false

overlay_read : (body tray chain : List ℕ) (flag : Bool) (list : List ℕ) (x y : ℕ) (a : Point) → overlay_point body tray chain flag list x y ≡ Ok a → OverlayTaken body tray chain list
overlay_read body tray chain flag list x y a e =
    let i = on-number _ _ a (sym (overlay-steps body tray chain flag list x y) ∙ e) in
    let j = and_then-done _ _ a i.3 in
    let k = and_then-done _ _ a j.2 in
    record { n = i.0; at = i.1; number = i.2; es = j.0; chained = j.1; q = k.0; taken = k.1; opaque = (item-done Record _ 18 _ _ a k.2).0 }

module _ (body tray chain : List ℕ) (flag : Bool) (list : List ℕ) where
  overlay-points : (c : List ℕ) (r : OverlayTaken body tray c list) (x y : ℕ)
      → overlay_point body tray c flag list x y ≡ point_on r.es flag r.q.descriptor.output_width r.q.descriptor.output_height x y (overlay_names body r.q)
  overlay-points c r x y = overlay-steps body tray c flag list x y ∙ on-taken _ r.number ∙ then-done _ r.chained ∙ then-done _ r.taken ∙ item-no Record _ 18 _ _ r.opaque

  overlay-places : (r : OverlayTaken body tray chain list) → Places tray chain flag (overlay_point body tray chain flag list) (overlay_point body tray no_chain flag list) r.es
  overlay-places r =
      let q = r.q in
      let inputs = took body tray list r.n r.at q r.taken in
      record {
        chained = r.chained;
        width = q.descriptor.output_width;
        height = q.descriptor.output_height;
        wide = inputs.offsets.canvas.wide;
        tall = inputs.offsets.canvas.tall;
        names = overlay_names body q;
        points = overlay-points chain r;
        bares = overlay-points no_chain (record { n = r.n; at = r.at; number = r.number; es = []; chained = no-chain; q = q; taken = r.taken; opaque = r.opaque });
        apart = λ l m k lx ly mx my e f. overlay-once body q l m k e f;
        spots = λ l lx ly k e. overlay-there body tray q (inputs-records body tray list r.n r.at q r.number inputs) l k e;
      }

-- DEMAND 3, of overlays; picture runs whose inputs have no alpha
pub overlay-demand : (body tray chain : List ℕ) (flag : Bool) (premultiplied : List ℕ) (colour : Option Nclx) → OverlayDemand body tray chain flag premultiplied colour
unfolding OverlayDemand NoScaling NoAlpha overlay_drawn overlay_scene chain_sight Agrees
overlay-demand body tray chain flag list colour bytes small =
    record {
      agrees = λ plain output spare m x y.
          agrees-as (overlay_reads body tray colour) x y refl (sym (overlay-steps body tray chain flag list x y))
          (agrees_number (overlay_reads body tray colour) x y (read_number tray 0) _ _
          (λ n at c. agrees-then (overlay_reads body tray colour) x y (chain_at chain 0) _ _
          (λ es k. agrees-then (overlay_reads body tray colour) x y (inputs_at body tray list n at) _ _
          (λ q e. inputs-agree body tray list colour bytes flag n at c es (unscaled flag es (plain.0 es k)) q e plain.1 (chain_back es flag (composed body tray list colour q) (overlay-in-range body tray list colour n at q bytes c e)) x y))))
          output spare m;
      blind = λ other a x y. overlay-blind body tray other chain flag list x y a;
      once = λ x y u v a b k p. places-once tray chain flag _ _ _ (overlay-places body tray chain flag list (overlay_read body tray chain flag list x y a p)) x y u v a b k p;
      there = λ x y a k p. places-there tray chain flag _ _ _ (overlay-places body tray chain flag list (overlay_read body tray chain flag list x y a p)) x y a k p;
      sighted = λ x y u v a b p. places-sighted tray chain flag _ _ _ (overlay-places body tray chain flag list (overlay_read body tray chain flag list x y a p)) x y u v a b p;
      stays = λ u v b s q e.
          let r = overlay_read body tray no_chain flag list u v b q in
          let c = and_then-done _ _ s e in
          places-stays tray chain flag _ _ _
          (overlay-places body tray chain flag list (record { n = r.n; at = r.at; number = r.number; es = c.0; chained = c.1; q = r.q; taken = r.taken; opaque = r.opaque })) u v b s q e;
      through = λ x y a p. places-through tray chain flag _ _ _ (overlay-places body tray chain flag list (overlay_read body tray chain flag list x y a p)) x y a p;
    }
