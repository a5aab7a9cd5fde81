-- The run step by step: what holds of a plan that was read, and what is left to answer.
use Rattle.laws.specs.declared.Item.TheVariants.{Record}
use Rattle.std.specs.Prelude.{Ok, Err, Option}
use mathlib.Core.Bool.{false, true}
use mathlib.Core.List.{List}
use mathlib.Core.Path.{◌∙◌, ◌≡◌, ap, ap₂, sym}
use Prim.Native.Nat.{◌<◌, ◌≤◌, suc, zero, ℕ}
use native.Mathlib.Nat.{not-suc-le-zero}
use native.Mathlib.Omega.{arith}
use lib.ListN.{length}
use borrow.Author.Tests.{eqb-false, eqb-true, not-false}
use Rattle.laws.proofs.Order.{pick-le, positive}
use Rattle.laws.proofs.Out.{about-done, and_then-done, done-same, item-done, item-no, item_refused, refuse-done, refused-back, then-done, then-refused}
use Rattle.laws.specs.Any.{any}
use Rattle.laws.specs.Out.{Out, and_then, fitted, refuse_item}
use Rattle.laws.specs.declared.Refusal.{Refusal}
use Rattle.numbers.specs.Number.{on_number, read_number}
use Rattle.records.proofs.RecordLaws.{record-sound}
use Rattle.image.specs.Format.{half_x, half_y, top_of}
use Rattle.image.specs.Sound.{FormSound}
use Rattle.records.specs.Tray.{frames_at}
use Rattle.image.specs.declared.format.Part.{Part}
use Rattle.records.specs.declared.record.Frame.{Frame}
use Rattle.records.specs.inner.Frames.{frames_from}
use Rattle.planes.proofs.RoundTrip.{length-encode}
use Rattle.planes.specs.Bytes.{encode, size_of}
use Rattle.planes.specs.Picture.{Pic}
use Rattle.fill.specs.declared.Nclx.{Nclx}
use Rattle.derived.proofs.Taken.{overlay-taken}
use Rattle.derived.specs.Overlay.{overlay_of}
use Rattle.derived.specs.inner.Sound.{OverlaySound}
use Rattle.inputs.proofs.FrameLaws.{frames-from}
use Rattle.inputs.specs.Inputs.{Inputs, alpha_above, composed_form, first_form, first_format, inputs_at, other_depth_of}
use Rattle.inputs.specs.Layers.{layers_of, overlay_form, see_through}
use Rattle.inputs.specs.declared.read.Plan.{Plan}
use Rattle.inputs.specs.inner.Plan.{plan_at, plan_of}
use Rattle.opaque.proofs.FitLaws.{form-fits}
use Rattle.opaque.specs.inner.Laid.{unfit}
use Rattle.blend.specs.Overlay.{overlay_pic}
use Rattle.overlay.proofs.EvenLaws.{alpha-whole}
use Rattle.overlay.specs.Run.{composed, fill_for, overlay_run}
use Rattle.overlay.specs.inner.Block.{PlanSound, layers_at}

pub frames-sound : (n : ℕ) (s : List ℕ) (at : ℕ) (frs : List Frame) → 0 < n → frames_at n s at ≡ Ok frs → FormSound (first_form frs)
unfolding frames_at first_form
frames-sound zero s at frs h e = absurd (not-suc-le-zero h)
frames-sound (suc n) s at frs h e =
    let a = and_then-done _ _ frs e in
    let b = and_then-done _ _ frs a.2 in
    rw (← done-same _ frs b.2) (record-sound s at a.0 (about-done Record 0 _ _ a.1)).form

module _ (body tray list : List ℕ) (n at : ℕ) where
  -- what was taken
  pub record Took (q : Inputs) : Type 0 where
    pub body-read : overlay_of body n ≡ Ok q.descriptor
    pub offsets : OverlaySound body q.descriptor
    pub count : q.descriptor.count ≡ n
    pub nonempty : 0 < n
    pub many : length list ≡ n
    pub frames : frames_at n tray at ≡ Ok q.frames
    pub depths : any (other_depth_of (first_format q.frames)) q.frames ≡ false

  took-as : (q q' : Inputs) → q ≡ q' → Took q → Took q'
  took-as q q' e k = rw e at k

  pub took : (q : Inputs) → inputs_at body tray list n at ≡ Ok q → Took q
  unfolding inputs_at
  took q e =
      let a = and_then-done _ _ q e in
      let b = refuse-done _ _ _ q a.2 in
      let c = refuse-done _ _ _ q b.1 in
      let d = and_then-done _ _ q c.1 in
      let f = item-done Record _ 14 _ _ q d.2 in
      let o = overlay-taken body n a.0 a.1 in
      took-as _ q (done-same _ q f.1) (record { body-read = a.1; offsets = o.0; count = o.1; nonempty = positive n (eqb-false n 0 b.0); many = eqb-true _ _ (not-false _ c.0); frames = d.1; depths = f.0 })

  module _ (q : Inputs) (k : Took q) where
    form-taken : FormSound (composed_form body tray list q)
    unfolding composed_form overlay_form
    form-taken =
        let f = frames-sound n tray at q.frames k.nonempty k.frames in
        record {
          chroma = pick-le _ 3 _ 3 (omega arith) f.chroma;
          low = f.low;
          high = f.high;
          alpha = pick-le _ 1 0 1 (omega arith) (omega arith);
          wide = k.offsets.canvas.wide;
          tall = k.offsets.canvas.tall;
          area = k.offsets.canvas.area;
        }

    pub frames-are : q.frames ≡ frames_from q.descriptor.count tray at
    frames-are = frames-from n tray at q.frames k.frames ∙ ap (λ (m : ℕ). frames_from m tray at) (sym k.count)

    frames-fit : any see_through (layers_of body tray list q.descriptor 0 q.frames) ≡ false → any (unfit (composed_form body tray list q)) (frames_from q.descriptor.count tray at) ≡ false
    unfolding composed_form
    frames-fit a = ap (any (unfit (composed_form body tray list q))) (sym frames-are) ∙ form-fits body tray list q.descriptor (first_format q.frames) _ _ _ q.frames a k.depths

    form-whole : any see_through (layers_of body tray list q.descriptor 0 q.frames) ≡ true → (p : Part) → (half_x (composed_form body tray list q).format p ≡ false) × (half_y (composed_form body tray list q).format p ≡ false)
    unfolding composed_form
    form-whole a = alpha-whole _ _ _ _ _ a

    pub plan-sound : PlanSound body tray list (plan_of body tray list at q)
    unfolding plan_of
    plan-sound = record { form = form-taken; offsets = k.offsets; list = k.many ∙ sym k.count; whole = form-whole; fit = frames-fit }

-- what goes on with a plan
abbrev pub plan_pic : List ℕ → List ℕ → List ℕ → Option Nclx → Plan → Pic
plan_pic body tray list colour plan = overlay_pic plan.form (fill_for plan.descriptor.canvas_fill plan.form.format.depth colour) (layers_at body tray list plan)

pub record Taken (body tray list : List ℕ) (colour : Option Nclx) (room n at : ℕ) (plan : Plan) : Type 0 where
  pub sound : PlanSound body tray list plan
  pub left : overlay_run body tray list colour room
      ≡ refuse_item Record (alpha_above tray (top_of plan.form.format)) 16 (frames_from n tray at) (fitted room (encode (plan_pic body tray list colour plan)))

module _ (body tray list : List ℕ) (colour : Option Nclx) (room : ℕ) where
  pub run-malformed : (r : Refusal) → read_number tray 0 ≡ Err r → overlay_run body tray list colour room ≡ Err r
  unfolding overlay_run on_number
  run-malformed r e = rw e

  module _ (n at : ℕ) (counted : read_number tray 0 ≡ Ok (n, at)) where
    abbrev going : Inputs → Out (List ℕ)
    going q = refuse_item Record (alpha_above tray (top_of (first_format q.frames))) 16 q.frames (fitted room (encode (composed body tray list colour q)))

    run-counted : overlay_run body tray list colour room ≡ and_then (inputs_at body tray list n at) going
    unfolding overlay_run on_number
    run-counted = rw counted

    pub run-refused : (r : Refusal) → plan_at body tray list n at ≡ Err r → overlay_run body tray list colour room ≡ Err r
    unfolding plan_at
    run-refused r e = run-counted ∙ then-refused _ (refused-back (inputs_at body tray list n at) (plan_of body tray list at) r e)

    as-plan : (q : Inputs) → Took body tray list n at q → going q ≡ refuse_item Record (alpha_above tray (top_of (plan_of body tray list at q).form.format)) 16 (frames_from n tray at) (fitted room (encode (plan_pic body tray list colour (plan_of body tray list at q))))
    unfolding plan_of composed composed_form overlay_form top_of
    as-plan q k =
        ap₂ (λ (a b : List Frame). refuse_item Record (alpha_above tray (top_of (first_format q.frames))) 16 a
        (fitted room
        (encode (overlay_pic (composed_form body tray list q) (fill_for q.descriptor.canvas_fill (first_format q.frames).depth colour)
        (layers_of body tray list q.descriptor 0 b)))))
        (frames-from n tray at q.frames k.frames) (frames-are body tray list n at q k)

    taken_as : (p p' : Plan) → p ≡ p' → Taken body tray list colour room n at p → Taken body tray list colour room n at p'
    taken_as p p' e k = rw e at k

    pub plan-taken : (plan : Plan) → plan_at body tray list n at ≡ Ok plan → Taken body tray list colour room n at plan
    unfolding plan_at
    plan-taken plan e =
        let a = and_then-done _ _ plan e in
        let k = took body tray list n at a.0 a.1 in
        taken_as _ plan (done-same _ plan a.2) (record { sound = plan-sound body tray list n at a.0 k; left = run-counted ∙ then-done _ a.1 ∙ as-plan a.0 k })

-- what alpha samples held to a top that was worked out come to
module _ (tray : List ℕ) (n at t t' : ℕ) (r : Out Unit) (e : t ≡ t') (k : r ≡ refuse_item Record (alpha_above tray t) 16 (frames_from n tray at) (Ok tt)) where
  held : {B : Type 0} (o : Out B) → refuse_item Record (alpha_above tray t') 16 (frames_from n tray at) o ≡ refuse_item Record (alpha_above tray t) 16 (frames_from n tray at) o
  held o = rw (← e)

  pub alpha-refused : {B : Type 0} (o : Out B) (x : Refusal) → r ≡ Err x → refuse_item Record (alpha_above tray t') 16 (frames_from n tray at) o ≡ Err x
  alpha-refused o x q = held o ∙ item_refused Record (alpha_above tray t) 16 (frames_from n tray at) tt o x (sym k ∙ q)

  pub alpha-within : {B : Type 0} (o : Out B) → r ≡ Ok tt → refuse_item Record (alpha_above tray t') 16 (frames_from n tray at) o ≡ o
  alpha-within o q = held o ∙ item-no Record (alpha_above tray t) 16 (frames_from n tray at) o (item-done Record (alpha_above tray t) 16 (frames_from n tray at) (Ok tt) tt (sym k ∙ q)).0

-- room for the picture, by its size
module _ {body tray list : List ℕ} {colour : Option Nclx} {room n at : ℕ} {plan : Plan} (t : Taken body tray list colour room n at plan) (k : ℕ) (e : k ≡ size_of plan.form) where
  long : length (encode (plan_pic body tray list colour plan)) ≡ k
  unfolding overlay_pic
  long = length-encode (plan_pic body tray list colour plan) ∙ sym e

  pub room-short : room < k → room < length (encode (plan_pic body tray list colour plan))
  room-short h = rw long h

  pub room-enough : k ≤ room → length (encode (plan_pic body tray list colour plan)) ≤ room
  room-enough h = rw long h
