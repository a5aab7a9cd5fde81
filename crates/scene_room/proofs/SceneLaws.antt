-- What the scene calls come to, refusal by refusal.
use Rattle.laws.specs.declared.Item.TheVariants.{Record}
use Rattle.std.specs.Prelude.{Ok, Err, Option}
use mathlib.Core.Bool.{Bool, false, true}
use mathlib.Core.List.{List, ◌++◌}
use mathlib.Core.Path.{◌∙◌, ◌≡◌, ap, refl, sym}
use Prim.Native.Nat.{◌-◌, ◌≤◌, ℕ}
use native.Mathlib.Nat.{le_trans}
use native.Mathlib.Omega.{arith}
use lib.Dec.{ltb}
use lib.ListN.{length, replicate, take}
use lib.Seq.{take_at}
use borrow.Author.Tests.{le-ltb, ltb-false}
use Rattle.laws.proofs.Out.{Same, alike, and_then-done, both, done-same, item-then, not_done, refuse-done, refuse-no, refused-back, same_left, then-done, then-refused}
use Rattle.laws.proofs.Puts.{length-puts, puts-start}
use Rattle.laws.specs.Out.{Out, and_then, answer_of, refuse, refuse_item}
use Rattle.laws.specs.Puts.{Bytes, puts}
use Rattle.laws.specs.declared.Refusal.{Refusal}
use Rattle.numbers.specs.Number.{on_number, read_number}
use Rattle.records.proofs.RecordLaws.{whole-sound}
use Rattle.image.specs.Format.{top_of}
use Rattle.records.specs.Record.{record_of}
use Rattle.image.specs.declared.format.Form.{Form}
use Rattle.records.specs.declared.record.Frame.{Frame}
use Rattle.records.specs.inner.Frames.{frames_from}
use Rattle.records.specs.inner.Placed.{Sound}
use Rattle.planes.specs.inner.InRange.{InRange}
use Rattle.planes.proofs.RoundTrip.{length-encode}
use Rattle.planes.specs.Bytes.{decode, encode, size_of}
use Rattle.planes.specs.Picture.{Pic}
use Rattle.fill.specs.declared.Nclx.{Nclx}
use Rattle.props.proofs.ChainLaws.{judged-chain, judged-refused}
use Rattle.props.specs.Chain.{chain_at, fold_chain}
use Rattle.props.specs.declared.chain.Chain.{Chain}
use Rattle.props.specs.declared.entry.PropertyEntry.{PropertyEntry}
use Rattle.props.specs.inner.Judged.{Judged, judged_at}
use Rattle.grid.proofs.GridLaws.{tiles-taken}
use Rattle.grid.specs.Mosaic.{grid_pic}
use Rattle.grid.specs.Run.{grid_on}
use Rattle.tiles.specs.Tiles.{canvas_form, tiles_at, tiles_of}
use Rattle.tiles.specs.declared.judge.Tiles.{Tiles}
use Rattle.grid.specs.inner.Ready.{TilesTaken}
use Rattle.inputs.proofs.FrameLaws.{frames-from}
use Rattle.inputs.specs.Inputs.{Inputs, alpha_above, composed_form, first_format, inputs_at}
use Rattle.inputs.specs.Layers.{layers_of, overlay_form}
use Rattle.inputs.specs.declared.read.Plan.{Plan}
use Rattle.inputs.specs.inner.Plan.{plan_at, plan_of}
use Rattle.overlay.proofs.RunLaws.{Took, frames-are, plan-sound, plan_pic, took}
use Rattle.blend.specs.Overlay.{overlay_pic}
use Rattle.overlay.specs.Run.{composed, fill_for}
use Rattle.overlay.specs.inner.Block.{PlanSound}
use Rattle.chains.proofs.ApplyLaws.{Carried, chain-carried}
use Rattle.plans.proofs.ChainPlanLaws.{Leads, plan-drawn, plan-lands}
use Rattle.stages.proofs.StageLaws.{plain-bytes, stage_at}
use Rattle.chains.proofs.GoingLaws.{start-lands}
use Rattle.scene_room.proofs.ComposedLaws.{grid-in-range, overlay-in-range, record-in-range}
use Rattle.stages.specs.Chain.{Drawn, chain_drawn, first_drawn}
use Rattle.scene_room.specs.Room.{longest_of}
use Rattle.scene_room.specs.Scene.{grid_drawn, grid_scene, output_of, overlay_drawn, overlay_scene, room_for, spare_of}
use Rattle.scene_room.specs.Transforms.{record_drawn, transforms_run}
use Rattle.stages.specs.declared.stage.Current.{Current}
use Rattle.plans.specs.declared.chain_plan.ChainPlan.{ChainPlan}
use Rattle.chains.specs.inner.Apply.{Finished, Ready, bytes_in, chain_bytes, lying}
use Rattle.stages.specs.inner.Stage.{record_after, stage_start}
use Rattle.plans.specs.inner.ChainPlan.{chain_plan_of, current_for, current_of}

-- ---- what is answered and written

pub scene-refused : (o : Out (List ℕ)) (r : Refusal) (d f : List ℕ) → o ≡ Err r → (Err r ≡ answer_of o) × (d ≡ output_of o d) × (f ≡ spare_of o f)
unfolding answer_of output_of spare_of
scene-refused o r d f e = (sym (ap answer_of e), sym (ap (λ (u : Out (List ℕ)). output_of u d) e), sym (ap (λ (u : Out (List ℕ)). spare_of u f) e))

-- the buffers were d and f, and are e and g; on the way they were as long
pub scene-done : (o : Out (List ℕ)) (bs d d' e f f' g : List ℕ) (a : Out ℕ) → o ≡ Ok bs → length d' ≡ length d → length f' ≡ length f → Finished a bs d' e f' g
    → (a ≡ answer_of o) × (e ≡ output_of o d) × (g ≡ spare_of o f)
unfolding answer_of output_of spare_of
scene-done o bs d d' e f f' g a q i j k = (
  k.answer ∙ sym (ap answer_of q),
  k.output ∙ ap (λ (n : ℕ). bs ++ replicate (n - length bs) 0) i ∙ sym (ap (λ (u : Out (List ℕ)). output_of u d) q),
  k.spare ∙ ap (λ (n : ℕ). replicate n 0) j ∙ sym (ap (λ (u : Out (List ℕ)). spare_of u f) q),
)

-- ---- a chain on a composed picture

-- the chain, then 17
unfoldable pub scene_on : List PropertyEntry → Bool → Pic → ℕ → ℕ → Out (List ℕ)
scene_on es flag P output spare = and_then (chain_drawn es flag P) (room_for output spare)

-- where a form's record lies, and what the chain on its picture comes to
record Planned (es : List PropertyEntry) (flag : Bool) (P : Pic) (m : Form) (output spare : ℕ) (h : Current) : Type 0 where
  drawn : Drawn
  run : chain_drawn es flag P ≡ Ok drawn
  over : drawn.longest ≤ output
  under : drawn.longest ≤ spare
  size : h.size ≡ size_of m
  plan : ChainPlan
  planned : chain_plan_of es flag m ≡ Ok plan
  side : h.inside ≡ plan.even

module _ (es : List PropertyEntry) (flag : Bool) (P : Pic) (k : InRange P) (m : Form) (same : m ≡ P.form) (output spare : ℕ) where
  by-forms : Same Leads (chain_plan_of es flag m) (chain_drawn es flag P)
  by-forms = rw same (plan-drawn es flag P k)

  -- 17 by forms is 17 by pictures
  room-refused : (c : ChainPlan) (d : Drawn) (r : Refusal) → Leads c d → current_for output spare m c ≡ Err r → room_for output spare d ≡ Err r
  unfolding current_for room_for refuse
  room-refused c d r l = rw l.longest (go (ltb output d.longest) (ltb spare d.longest))
    where
      held : Current
      held = record { size = size_of m; inside = c.even }

      go : (t u : Bool) → refuse t 17 (refuse u 17 (Ok held)) ≡ Err r → refuse t 17 (refuse u 17 (Ok (encode d.pic))) ≡ Err r
      go true u q = cc
      go false true q = cc
      go false false q = not_done r _ (sym q)

  pub held-refused : (r : Refusal) → current_of es flag m output spare ≡ Err r → scene_on es flag P output spare ≡ Err r
  unfolding current_of scene_on and_then
  held-refused r = go _ _ by-forms
    where
      go : (o : Out ChainPlan) (u : Out Drawn) → Same Leads o u → and_then o (current_for output spare m) ≡ Err r → and_then u (room_for output spare) ≡ Err r
      go _ _ alike q = cc
      go _ _ (both {a = c} {b = d} l) q = room-refused c d r l q

  held-planned : (h : Current) → current_of es flag m output spare ≡ Ok h → Planned es flag P m output spare h
  unfolding current_of current_for
  held-planned h q =
      let a = and_then-done _ _ h q in
      let b = refuse-done _ 17 _ h a.2 in
      let c = refuse-done _ 17 _ h b.1 in
      let d = same_left Leads _ _ by-forms a.0 a.1 in
      let i = done-same _ h c.1 in
      record {
        drawn = d.0;
        run = d.1;
        over = rw (← d.2.longest) (ltb-false _ _ b.0);
        under = rw (← d.2.longest) (ltb-false _ _ c.0);
        size = sym (ap (λ (z : Current). z.size) i);
        plan = a.0;
        planned = a.1;
        side = sym (ap (λ (z : Current). z.inside) i);
      }

  module _ (h : Current) (p : Planned es flag P m output spare h) where
    planned-done : scene_on es flag P output spare ≡ Ok (encode p.drawn.pic)
    unfolding scene_on room_for
    planned-done = then-done _ p.run ∙ refuse-no _ _ (le-ltb _ _ p.over) ∙ refuse-no _ _ (le-ltb _ _ p.under)

    planned-carried : Carried output spare flag es P (length (encode P)) p.drawn
    unfolding chain_drawn first_drawn
    planned-carried = chain-carried output spare flag es P (length (encode P)) p.drawn k (omega arith) p.run p.over p.under

-- ---- the composed record in one of the buffers

module _ (s : List ℕ) (g : Chain) (judged : Judged s g) (flag : Bool) (P : Pic) (k : InRange P) (m : Form) (same : m ≡ P.form) (output spare : List ℕ) (h : Current)
    (e : current_of judged.entries flag m (length output) (length spare) ≡ Ok h) where
  abbrev es : List PropertyEntry
  es = judged.entries

  abbrev planned : Planned es flag P m (length output) (length spare) h
  planned = held-planned es flag P k m same (length output) (length spare) h e

  abbrev carried : Carried (length output) (length spare) flag es P (length (encode P)) planned.drawn
  carried = planned-carried es flag P k m same (length output) (length spare) h planned

  size_is : h.size ≡ length (encode P)
  size_is = planned.size ∙ ap size_of same ∙ sym (length-encode P)

  -- the composed record has room
  pub first-output : length (encode P) ≤ length output
  first-output = le_trans carried.grows planned.over

  pub first-spare : length (encode P) ≤ length spare
  first-spare = le_trans carried.grows planned.under

  -- a buffer that begins with it
  begins : (d : List ℕ) → length (encode P) ≤ length d → take h.size (puts d 0 (encode P)) ≡ encode P
  begins d l = ap (take h.size) (puts-start d (encode P) l) ∙ take_at (encode P) _ h.size (sym size_is)

  -- the bytes that the chain ends with
  ends_with : (bs : List ℕ) → bs ≡ encode P → chain_bytes s g.count g.first flag bs ≡ encode planned.drawn.pic
  unfolding chain_bytes bytes_in
  ends_with bs i = ap bytes_in (then-done _ judged.read ∙ ap (λ (b : List ℕ). fold_chain record_after flag es b) i ∙ carried.ends)

  ready_with : (d f : List ℕ) → length d ≡ length output → length f ≡ length spare → lying h.inside h.size d f ≡ encode P
      → Ready s g.count g.first flag (stage_start m h) d f
  unfolding stage_start
  ready_with d f i j b =
      let z : size_of m ≡ length (encode P) = ap size_of same ∙ sym (length-encode P) in
      record {
        entries = es;
        read = judged.read;
        staged = record {
          sound = stage_at P k _ b (stage_start m h) same same refl;
          first = rw (i, size_is) first-output;
          other = rw (j, size_is) first-spare;
          long = rw (i, z) first-output;
          broad = rw (j, z) first-spare;
        };
        lands = start-lands flag es m h planned.plan planned.side (plan-lands flag es m planned.plan planned.planned);
        room = rw (i, j, plain-bytes (stage_start m h) _ refl ∙ b) carried.room;
      }

  -- the buffers once it is drawn: in output, or in the spare
  module _ (d : List ℕ) where
    lies-output : h.inside ≡ true → d ≡ puts output 0 (encode P) → lying h.inside h.size d spare ≡ encode P
    unfolding lying
    lies-output t i = ap (λ (z : Bool). lying z h.size d spare) t ∙ ap (take h.size) i ∙ begins output first-output

    lies-spare : h.inside ≡ false → d ≡ puts spare 0 (encode P) → lying h.inside h.size output d ≡ encode P
    unfolding lying
    lies-spare t i = ap (λ (z : Bool). lying z h.size output d) t ∙ ap (take h.size) i ∙ begins spare first-spare

    pub ready-output : h.inside ≡ true → d ≡ puts output 0 (encode P) → Ready s g.count g.first flag (stage_start m h) d spare
    ready-output t i = ready_with d spare (ap length i ∙ length-puts output 0 (encode P)) refl (lies-output t i)

    pub ready-spare : h.inside ≡ false → d ≡ puts spare 0 (encode P) → Ready s g.count g.first flag (stage_start m h) output d
    ready-spare t i = ready_with output d refl (ap length i ∙ length-puts spare 0 (encode P)) (lies-spare t i)

    -- what the call then comes to
    module _ (u : Out (List ℕ)) (is : u ≡ scene_on es flag P (length output) (length spare)) (a : Out ℕ) (f z : List ℕ) where
      scene-ends : u ≡ Ok (encode planned.drawn.pic)
      scene-ends = is ∙ planned-done es flag P k m same (length output) (length spare) h planned

      pub scene-output : h.inside ≡ true → d ≡ puts output 0 (encode P) → Finished a (chain_bytes s g.count g.first flag (lying h.inside h.size d spare)) d f spare z
          → (a ≡ answer_of u) × (f ≡ output_of u output) × (z ≡ spare_of u spare)
      scene-output t i w = scene-done u _ output d f spare spare z a scene-ends (ap length i ∙ length-puts output 0 (encode P)) refl (rw (ends_with _ (lies-output t i)) at w)

      pub scene-spare : h.inside ≡ false → d ≡ puts spare 0 (encode P) → Finished a (chain_bytes s g.count g.first flag (lying h.inside h.size output d)) output f d z
          → (a ≡ answer_of u) × (f ≡ output_of u output) × (z ≡ spare_of u spare)
      scene-spare t i w = scene-done u _ output output f spare d z a scene-ends refl (ap length i ∙ length-puts spare 0 (encode P)) (rw (ends_with _ (lies-spare t i)) at w)

-- ---- the grid's scene

-- a chain and tiles that were read
pub record GridKnown (body tray chain : List ℕ) (flag : Bool) (h : Chain) (t : Tiles) : Type 0 where
  pub judged : Judged chain h
  pub taken : TilesTaken tray t
  pub in_range : InRange (grid_on tray t)
  pub drawn : grid_drawn body tray chain flag ≡ chain_drawn judged.entries flag (grid_on tray t)
  pub is : (output spare : ℕ) → grid_scene body tray chain flag output spare ≡ scene_on judged.entries flag (grid_on tray t) output spare

pub grid-form : (tray : List ℕ) (t : Tiles) (m : Form) → m ≡ canvas_form t.desc t.tile t.alpha → m ≡ (grid_on tray t).form
unfolding grid_on grid_pic
grid-form tray t m e = e

pub grid-size : (tray : List ℕ) (t : Tiles) → size_of (canvas_form t.desc t.tile t.alpha) ≡ length (encode (grid_on tray t))
unfolding grid_on grid_pic
grid-size tray t = sym (length-encode (grid_on tray t))

module _ (body tray chain : List ℕ) (flag : Bool) where
  pub grid-drawn-malformed : (r : Refusal) → read_number tray 0 ≡ Err r → grid_drawn body tray chain flag ≡ Err r
  unfolding grid_drawn on_number
  grid-drawn-malformed r e = rw e

  pub grid-malformed : (r : Refusal) → read_number tray 0 ≡ Err r → (output spare : ℕ) → grid_scene body tray chain flag output spare ≡ Err r
  unfolding grid_scene
  grid-malformed r e output spare = then-refused (room_for output spare) (grid-drawn-malformed r e)

  module _ (n at : ℕ) (counted : read_number tray 0 ≡ Ok (n, at)) where
    pub grid-counted : grid_drawn body tray chain flag ≡ and_then (chain_at chain 0) (λ es. and_then (tiles_at body tray n at) (λ t. chain_drawn es flag (grid_on tray t)))
    unfolding grid_drawn on_number
    grid-counted = rw counted

    tiles-at : tiles_at body tray n at ≡ tiles_of body tray
    unfolding tiles_of on_number
    tiles-at = sym (ap (λ z. on_number z (tiles_at body tray)) counted)

    pub grid-drawn-chain : (r : Refusal) → judged_at chain 0 ≡ Err r → grid_drawn body tray chain flag ≡ Err r
    grid-drawn-chain r e = grid-counted ∙ then-refused _ (judged-refused chain 0 r e)

    pub grid-chain : (r : Refusal) → judged_at chain 0 ≡ Err r → (output spare : ℕ) → grid_scene body tray chain flag output spare ≡ Err r
    unfolding grid_scene
    grid-chain r e output spare = then-refused _ (grid-drawn-chain r e)

    module _ (h : Chain) (e : judged_at chain 0 ≡ Ok h) where
      pub grid-drawn-tiles : (r : Refusal) → tiles_of body tray ≡ Err r → grid_drawn body tray chain flag ≡ Err r
      grid-drawn-tiles r q = grid-counted ∙ then-done _ (judged-chain chain 0 h e).1 ∙ then-refused _ (tiles-at ∙ q)

      pub grid-tiles : (r : Refusal) → tiles_of body tray ≡ Err r → (output spare : ℕ) → grid_scene body tray chain flag output spare ≡ Err r
      unfolding grid_scene
      grid-tiles r q output spare = then-refused _ (grid-drawn-tiles r q)

      pub grid-read : Bytes body → Bytes tray → (t : Tiles) → tiles_of body tray ≡ Ok t → GridKnown body tray chain flag h t
      unfolding grid_scene scene_on
      grid-read b d t q =
          let drawn = grid-counted ∙ then-done _ (judged-chain chain 0 h e).1 ∙ then-done _ (tiles-at ∙ q) in
          record {
            judged = (judged-chain chain 0 h e).0;
            taken = tiles-taken body tray t b q;
            in_range = grid-in-range body tray n at t b d counted (tiles-at ∙ q);
            drawn = drawn;
            is = λ output spare. ap (λ z. and_then z (room_for output spare)) drawn;
          }

-- ---- the overlay's scene

-- a chain and inputs that were read
pub record OverlayKnown (body tray chain : List ℕ) (flag : Bool) (list : List ℕ) (colour : Option Nclx) (n at : ℕ) (h : Chain) (plan : Plan) : Type 0 where
  pub judged : Judged chain h
  pub sound : PlanSound body tray list plan
  pub in_range : InRange (plan_pic body tray list colour plan)
  pub drawn : overlay_drawn body tray chain flag list colour
      ≡ refuse_item Record (alpha_above tray (top_of plan.form.format)) 16 (frames_from n tray at) (chain_drawn judged.entries flag (plan_pic body tray list colour plan))
  pub is : (output spare : ℕ) → overlay_scene body tray chain flag list colour output spare
      ≡ refuse_item Record (alpha_above tray (top_of plan.form.format)) 16 (frames_from n tray at) (scene_on judged.entries flag (plan_pic body tray list colour plan) output spare)

pub plan-form : (body tray list : List ℕ) (colour : Option Nclx) (plan : Plan) → plan.form ≡ (plan_pic body tray list colour plan).form
unfolding overlay_pic
plan-form body tray list colour plan = refl

module _ (body tray chain : List ℕ) (flag : Bool) (list : List ℕ) (colour : Option Nclx) where
  pub overlay-drawn-malformed : (r : Refusal) → read_number tray 0 ≡ Err r → overlay_drawn body tray chain flag list colour ≡ Err r
  unfolding overlay_drawn on_number
  overlay-drawn-malformed r e = rw e

  pub overlay-malformed : (r : Refusal) → read_number tray 0 ≡ Err r → (output spare : ℕ) → overlay_scene body tray chain flag list colour output spare ≡ Err r
  unfolding overlay_scene
  overlay-malformed r e output spare = then-refused (room_for output spare) (overlay-drawn-malformed r e)

  module _ (n at : ℕ) (counted : read_number tray 0 ≡ Ok (n, at)) where
    overlay-counted : overlay_drawn body tray chain flag list colour
        ≡ and_then (chain_at chain 0) (λ es. and_then (inputs_at body tray list n at) (λ q.
        refuse_item Record (alpha_above tray (top_of (first_format q.frames))) 16 q.frames (chain_drawn es flag (composed body tray list colour q))))
    unfolding overlay_drawn on_number
    overlay-counted = rw counted

    pub overlay-drawn-chain : (r : Refusal) → judged_at chain 0 ≡ Err r → overlay_drawn body tray chain flag list colour ≡ Err r
    overlay-drawn-chain r e = overlay-counted ∙ then-refused _ (judged-refused chain 0 r e)

    pub overlay-chain : (r : Refusal) → judged_at chain 0 ≡ Err r → (output spare : ℕ) → overlay_scene body tray chain flag list colour output spare ≡ Err r
    unfolding overlay_scene
    overlay-chain r e output spare = then-refused _ (overlay-drawn-chain r e)

    module _ (h : Chain) (e : judged_at chain 0 ≡ Ok h) where
      pub overlay-drawn-inputs : (r : Refusal) → plan_at body tray list n at ≡ Err r → overlay_drawn body tray chain flag list colour ≡ Err r
      unfolding plan_at
      overlay-drawn-inputs r q =
          overlay-counted ∙ then-done _ (judged-chain chain 0 h e).1 ∙ then-refused _ (refused-back (inputs_at body tray list n at) (plan_of body tray list at) r q)

      pub overlay-inputs : (r : Refusal) → plan_at body tray list n at ≡ Err r → (output spare : ℕ) → overlay_scene body tray chain flag list colour output spare ≡ Err r
      unfolding overlay_scene
      overlay-inputs r q output spare = then-refused _ (overlay-drawn-inputs r q)

      -- the picture by the plan
      pic-is : (q : Inputs) → Took body tray list n at q → composed body tray list colour q ≡ plan_pic body tray list colour (plan_of body tray list at q)
      unfolding plan_of composed composed_form overlay_form
      pic-is q k =
          ap (λ (b : List Frame). overlay_pic (composed_form body tray list q) (fill_for q.descriptor.canvas_fill (first_format q.frames).depth colour) (layers_of body tray list q.descriptor 0 b))
          (frames-are body tray list n at q k)

      top-is : (q : Inputs) → top_of (first_format q.frames) ≡ top_of (plan_of body tray list at q).form.format
      unfolding plan_of composed_form overlay_form top_of
      top-is q = refl

      known_of : (q : Inputs) → inputs_at body tray list n at ≡ Ok q → Bytes body → OverlayKnown body tray chain flag list colour n at h (plan_of body tray list at q)
      unfolding overlay_scene scene_on
      known_of q i b =
          let k = took body tray list n at q i in
          let j = judged-chain chain 0 h e in
          let drawn : overlay_drawn body tray chain flag list colour
          ≡ refuse_item Record (alpha_above tray (top_of (plan_of body tray list at q).form.format)) 16 (frames_from n tray at) (chain_drawn j.0.entries flag (plan_pic body tray list colour (plan_of body tray list at q))) =
          overlay-counted ∙ then-done _ j.1 ∙ then-done _ i ∙ rw (top-is q, pic-is q k, frames-from n tray at q.frames k.frames) in
          record {
            judged = j.0;
            sound = plan-sound body tray list n at q k;
            in_range = rw (← pic-is q k) (overlay-in-range body tray list colour n at q b counted i);
            drawn = drawn;
            is = λ output spare. ap (λ z. and_then z (room_for output spare)) drawn ∙ item-then Record _ 16 _ _ (room_for output spare);
          }

      pub overlay_read : Bytes body → (plan : Plan) → plan_at body tray list n at ≡ Ok plan → OverlayKnown body tray chain flag list colour n at h plan
      unfolding plan_at
      overlay_read b plan q = let a = and_then-done _ _ plan q in known_as _ plan (done-same _ plan a.2) (known_of a.0 a.1 b)
        where
          known_as : (p p' : Plan) → p ≡ p' → OverlayKnown body tray chain flag list colour n at h p → OverlayKnown body tray chain flag list colour n at h p'
          known_as p p' i k = rw i at k

-- ---- room

-- the longest record by forms is that by pictures
pub room-on : (es : List PropertyEntry) (flag : Bool) (P : Pic) → InRange P → (m : Form) → m ≡ P.form → and_then (chain_plan_of es flag m) (λ c. Ok c.longest) ≡ longest_of (chain_drawn es flag P)
unfolding longest_of and_then
room-on es flag P k m same = go (chain_plan_of es flag m) (chain_drawn es flag P) (rw same (plan-drawn es flag P k))
  where
    go : (o : Out ChainPlan) (u : Out Drawn) → Same Leads o u → and_then o (λ c. Ok c.longest) ≡ and_then u (λ d. Ok d.longest)
    go _ _ alike = refl
    go _ _ (both {a = c} {b = d} l) = ap Ok l.longest

pub room-refused-as : (o : Out Drawn) (r : Refusal) → o ≡ Err r → Err r ≡ longest_of o
unfolding longest_of
room-refused-as o r e = sym (then-refused _ e)

-- ---- a chain on one record

-- a record and a chain that were read
pub record RecordKnown (s chain : List ℕ) (flag : Bool) (h : Chain) (fr : Frame) : Type 0 where
  pub judged : Judged chain h
  pub sound : Sound s fr
  pub in_range : InRange (decode s fr)
  pub is : (output spare : ℕ) → transforms_run s chain flag output spare ≡ scene_on judged.entries flag (decode s fr) output spare

pub record-form : (s : List ℕ) (fr : Frame) → fr.form ≡ (decode s fr).form
unfolding decode
record-form s fr = refl

module _ (s chain : List ℕ) (flag : Bool) where
  pub record-refused : (r : Refusal) → record_of s ≡ Err r → (output spare : ℕ) → transforms_run s chain flag output spare ≡ Err r
  unfolding transforms_run record_drawn
  record-refused r e output spare = then-refused _ (then-refused _ e)

  module _ (fr : Frame) (taken : record_of s ≡ Ok fr) where
    pub record-chain : (r : Refusal) → judged_at chain 0 ≡ Err r → (output spare : ℕ) → transforms_run s chain flag output spare ≡ Err r
    unfolding transforms_run record_drawn
    record-chain r e output spare = then-refused _ (then-done _ taken ∙ then-refused _ (judged-refused chain 0 r e))

    pub record-read : Bytes s → (h : Chain) → judged_at chain 0 ≡ Ok h → RecordKnown s chain flag h fr
    unfolding transforms_run record_drawn scene_on
    record-read b h e = record {
      judged = (judged-chain chain 0 h e).0;
      sound = (whole-sound s fr taken).0;
      in_range = record-in-range s fr b (whole-sound s fr taken).0.form;
      is = λ output spare. ap (λ z. and_then z (room_for output spare)) (then-done _ taken ∙ then-done _ (judged-chain chain 0 h e).1);
    }
