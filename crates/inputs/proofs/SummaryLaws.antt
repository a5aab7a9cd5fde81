-- What the inputs come to, summarised one after the other, is what the definition asks of them all; and the runs step by step.
use Rattle.laws.specs.Out.{own_refusal}
use Rattle.laws.specs.declared.Item.TheVariants.{Record}
use Rattle.std.specs.Prelude.{Ok, Err}
use mathlib.Core.Bool.{Bool, ◌||◌, false, not, true}
use mathlib.Core.List.{List, [], ◌++◌, ◌∷◌, append_assoc, append-nil}
use mathlib.Core.Path.{◌∙◌, ◌≡◌, ap, ap₂, refl, sym}
use Prim.Native.Nat.{◌+◌, ◌-◌, ◌<◌, ◌≤◌, ℕ}
use native.Mathlib.Omega.{arith}
use lib.Dec.{eqb}
use lib.ListN.{length, length-append}
use borrow.Author.Tests.{eq-eqb, ne_eqb}
use Rattle.laws.proofs.Out.{done-after, item-no, item-then, item-yes, refuse-no, refuse-yes, then-done, then-refused}
use Rattle.laws.specs.Any.{any}
use Rattle.laws.specs.Out.{Out, after, and_then, own_reason, reason, refuse_item}
use Rattle.laws.specs.declared.Refusal.{Refusal}
use Rattle.records.proofs.TrayLaws.{frames-begin, frames-end, frames-left-on, frames-length, frames-on, frames-refused, frames-refused-on}
use Rattle.image.specs.Format.{has_alpha, odd}
use Rattle.records.specs.Record.{record_at}
use Rattle.records.specs.Tray.{frames_at}
use Rattle.image.specs.declared.format.Form.{Form}
use Rattle.image.specs.declared.format.PixelFormat.{PixelFormat}
use Rattle.records.specs.declared.record.Frame.{Frame}
use Rattle.records.specs.inner.Frames.{frames_from}
use Rattle.planes.specs.Bytes.{decode}
use Rattle.derived.proofs.Taken.{overlay-taken}
use Rattle.derived.specs.Overlay.{overlay_of, placement_at}
use Rattle.derived.specs.declared.overlay.OverlayDescriptor.{OverlayDescriptor}
use Rattle.derived.specs.declared.overlay.Placement.{Placement}
use Rattle.inputs.proofs.FrameLaws.{frames-first, frames-from}
use Rattle.inputs.specs.Inputs.{Inputs, composed_form, first_format, inputs_at, other_depth_of}
use Rattle.inputs.specs.Layers.{layer_of, layers_of, odd_across_of, odd_down_of, odd_offset, other_chroma_of, overlay_form, promotes, see_through}
use Rattle.inputs.specs.declared.read.InputSummary.{InputSummary}
use Rattle.inputs.specs.declared.read.Plan.{Plan}
use Rattle.inputs.specs.inner.Plan.{plan_at, plan_of}
use Rattle.inputs.specs.inner.Summary.{empty_summary, frames_plan, summarised, summary_form, summary_of, summary_plan}
use Rattle.inputs.proofs.FoundLaws.{first_found}
use Rattle.inputs.specs.inner.Sought.{found_at}

or_assoc : (a b c : Bool) → ((a || b) || c) ≡ (a || (b || c))
or_assoc true b c = refl
or_assoc false b c = refl

or-none : (a : Bool) → a ≡ (a || false)
or-none true = refl
or-none false = refl

abbrev pub notes : Bool → Bool → Bool → Bool → Bool → InputSummary
notes a b c d e = record { other_depth = a; other_chroma = b; alpha = c; odd_across = d; odd_down = e }

pub same-notes : {a b c d e a' b' c' d' e' : Bool} → a ≡ a' → b ≡ b' → c ≡ c' → d ≡ d' → e ≡ e' → notes a b c d e ≡ notes a' b' c' d' e'
same-notes p q r s t = rw (p, q, r, s, t)

module _ (body tray list : List ℕ) (d : OverlayDescriptor) (f : PixelFormat) where
  pub noted-is : (n : InputSummary) (i : ℕ) (frs : List Frame) → summary_of body d f n i frs
      ≡ notes (n.other_depth || any (other_depth_of f) frs) (n.other_chroma || any (other_chroma_of f) (layers_of body tray list d i frs)) (n.alpha || any see_through (layers_of body tray list d i frs))
      (n.odd_across || any odd_across_of (layers_of body tray list d i frs)) (n.odd_down || any odd_down_of (layers_of body tray list d i frs))
  unfolding summary_of summarised layers_of layer_of any other_depth_of other_chroma_of see_through odd_across_of odd_down_of decode
  noted-is n i [] = same-notes (or-none _) (or-none _) (or-none _) (or-none _) (or-none _)
  noted-is n i (fr ∷ frs) =
      noted-is (summarised n f fr.form (placement_at body d i)) (i + 1) frs
      ∙ same-notes (or_assoc n.other_depth (not (eqb fr.form.format.depth f.depth)) (any (other_depth_of f) frs))
      (or_assoc n.other_chroma (not (eqb fr.form.format.chroma f.chroma)) (any (other_chroma_of f) (layers_of body tray list d (i + 1) frs)))
      (or_assoc n.alpha (has_alpha fr.form.format) (any see_through (layers_of body tray list d (i + 1) frs)))
      (or_assoc n.odd_across (odd_offset (placement_at body d i).horizontal || odd fr.form.width) (any odd_across_of (layers_of body tray list d (i + 1) frs)))
      (or_assoc n.odd_down (odd_offset (placement_at body d i).vertical || odd fr.form.height) (any odd_down_of (layers_of body tray list d (i + 1) frs)))

  -- one more at the end
  pub noted_more : (n : InputSummary) (i : ℕ) (frs : List Frame) (fr : Frame) → summary_of body d f n i (frs ++ (fr ∷ [])) ≡ summarised (summary_of body d f n i frs) f fr.form (placement_at body d (i + length frs))
  unfolding summary_of
  noted_more n i [] fr = let z : i + 0 ≡ i = omega arith in rw z
  noted_more n i (g ∷ frs) fr =
      let z : i + 1 + length frs ≡ i + length (g ∷ frs) = omega arith in
      noted_more (summarised n f g.form (placement_at body d i)) (i + 1) frs fr
      ∙ ap (λ (k : ℕ). summarised (summary_of body d f n i (g ∷ frs)) f fr.form (placement_at body d k)) z

-- ---- records read one after the other

abbrev pub preceded : List Frame → Out (List Frame) → Out (List Frame)
preceded seen o = and_then o (λ frs. Ok (seen ++ frs))

pub preceded-none : (o : Out (List Frame)) → o ≡ preceded [] o
unfolding and_then
preceded-none (Err r) = refl
preceded-none (Ok frs) = refl

pub preceded-refused : (seen : List Frame) (i n : ℕ) (s : List ℕ) (at : ℕ) (r : Refusal) → 0 < n → record_at s at ≡ Err r → preceded seen (after i (frames_at n s at)) ≡ Err (own_refusal r.reason (Record i))
preceded-refused seen i n s at r h e = then-refused _ (frames-refused-on i n s at r h e)

pub preceded-next : (seen : List Frame) (i k : ℕ) (s : List ℕ) (at : ℕ) (fr : Frame) → i < k → record_at s at ≡ Ok fr
    → preceded seen (after i (frames_at (k - i) s at)) ≡ preceded (seen ++ (fr ∷ [])) (after (i + 1) (frames_at (k - (i + 1)) s fr.end))
unfolding and_then
preceded-next seen i k s at fr h e = ap (preceded seen) (frames-on i k s at fr h e) ∙ go (after (i + 1) (frames_at (k - (i + 1)) s fr.end))
  where
    go : (o : Out (List Frame)) → preceded seen (and_then o (λ frs. Ok (fr ∷ frs))) ≡ preceded (seen ++ (fr ∷ [])) o
    go (Err r) = refl
    go (Ok frs) = ap Ok (sym (append_assoc seen (fr ∷ []) frs))

pub preceded-left : (seen : List Frame) (i n : ℕ) (s : List ℕ) (at : ℕ) → n ≤ 0 → at < length s → preceded seen (after i (frames_at n s at)) ≡ Err (reason 5)
preceded-left seen i n s at h l = then-refused _ (frames-left-on i n s at h l)

pub preceded-end : (seen : List Frame) (i n : ℕ) (s : List ℕ) (at : ℕ) → n ≤ 0 → length s ≤ at → preceded seen (after i (frames_at n s at)) ≡ Ok seen
preceded-end seen i n s at h l = then-done _ (done-after i _ _ (frames-end n s at h l)) ∙ ap Ok (append-nil seen)

-- ---- the plan

pub plan-body : (body tray list : List ℕ) (n first : ℕ) (r : Refusal) → overlay_of body n ≡ Err r → plan_at body tray list n first ≡ Err r
unfolding plan_at inputs_at
plan-body body tray list n first r e = then-refused _ (then-refused _ e)

-- the records of a body that was taken
module _ (body tray : List ℕ) (d : OverlayDescriptor) (first : ℕ) (f : PixelFormat) where
  pub plan-refused : (r : Refusal) → frames_at d.count tray first ≡ Err r → frames_plan body tray d first f ≡ Err r
  unfolding frames_plan
  plan-refused r e = then-refused _ e

  module _ (seen : List Frame) (n : InputSummary) (e : frames_at d.count tray first ≡ Ok seen) (k : n ≡ summary_of body d f (empty_summary d) 0 seen) where
    some-other : n.other_depth ≡ any (other_depth_of f) seen
    unfolding empty_summary
    some-other = ap (λ (m : InputSummary). m.other_depth) (k ∙ noted-is body tray body d f (empty_summary d) 0 seen)

    pub plan-depth : (i : ℕ) → n.other_depth ≡ true → i ≡ found_at 0 (other_depth_of f) (frames_from d.count tray first) d.count → frames_plan body tray d first f ≡ Err (own_reason 14 Record i)
    unfolding frames_plan summary_plan
    plan-depth i o g =
        let h : any (other_depth_of f) seen ≡ true = sym some-other ∙ o in
        let few : length seen ≤ d.count = omega (arith, frames-length d.count tray first seen e) in
        let w = frames-from d.count tray first seen e in
        then-done _ e ∙ item-yes Record (other_depth_of f) 14 seen i _ h (first_found (other_depth_of f) Record 14 seen d.count i few (g ∙ rw w) h)

    pub plan-done : (m : Form) → n.other_depth ≡ false → m ≡ summary_form d f n → frames_plan body tray d first f ≡ Ok (record { descriptor = d; first = first; form = m; alpha = n.alpha })
    unfolding frames_plan summary_plan
    plan-done m o g =
        then-done _ e ∙ ap (summary_plan d first f seen) (sym k) ∙ item-no Record (other_depth_of f) 14 seen _ (sym some-other ∙ o)
        ∙ ap (λ (w : Form). Ok (record { descriptor = d; first = first; form = w; alpha = n.alpha })) (sym g)

  -- one more summarised
  pub noted_step : (seen : List Frame) (n : InputSummary) (fr : Frame) (o : Placement) (i : ℕ) → n ≡ summary_of body d f (empty_summary d) 0 seen → o ≡ placement_at body d i → length seen ≡ i
      → summarised n f fr.form o ≡ summary_of body d f (empty_summary d) 0 (seen ++ (fr ∷ []))
  noted_step seen n fr o i e g l =
      let z : i ≡ 0 + length seen = omega arith in
      ap₂ (λ (a : InputSummary) (b : Placement). summarised a f fr.form b) e (g ∙ ap (placement_at body d) z) ∙ sym (noted_more body tray body d f (empty_summary d) 0 seen fr)

-- records seen so far, and what they come to
pub record SummaryAt (body tray : List ℕ) (d : OverlayDescriptor) (first : ℕ) (f : PixelFormat) (i at : ℕ) (n : InputSummary) : Type 0 where
  pub seen : List Frame
  pub many : length seen ≡ i
  pub left : frames_at d.count tray first ≡ preceded seen (after i (frames_at (d.count - i) tray at))
  pub notes : n ≡ summary_of body d f (empty_summary d) 0 seen

module _ (body tray : List ℕ) (d : OverlayDescriptor) (first : ℕ) (f : PixelFormat) where
  pub seen_none : (n : InputSummary) → n ≡ empty_summary d → SummaryAt body tray d first f 0 first n
  unfolding summary_of
  seen_none n e = record { seen = []; many = refl; left = frames-begin d.count tray first ∙ preceded-none _; notes = e }

  pub seen_more : (i at : ℕ) (n m : InputSummary) (fr : Frame) (o : Placement) → i < d.count → record_at tray at ≡ Ok fr → m ≡ summarised n f fr.form o → o ≡ placement_at body d i
      → SummaryAt body tray d first f i at n → SummaryAt body tray d first f (i + 1) fr.end m
  seen_more i at n m fr o h e k g s = record {
    seen = s.seen ++ (fr ∷ []);
    many = length-append s.seen (fr ∷ []) ∙ omega (arith, s.many);
    left = s.left ∙ preceded-next s.seen i d.count tray at fr h e;
    notes = k ∙ noted_step body tray d first f s.seen n fr o i s.notes g s.many;
  }

module _ (body tray list : List ℕ) (d : OverlayDescriptor) (first : ℕ) (f : PixelFormat) where
  abbrev taken : List Frame → Inputs
  taken frs = record { descriptor = d; frames = frs }

  -- the notes of records that were taken, as the definition has them
  noted-plan : (frs : List Frame) → first_format frs ≡ f
      → refuse_item Record (other_depth_of (first_format frs)) 14 frs (Ok (plan_of body tray list first (taken frs))) ≡ summary_plan d first f frs (summary_of body d f (empty_summary d) 0 frs)
  unfolding plan_of composed_form overlay_form promotes summary_plan summary_form empty_summary
  noted-plan frs e = rw (e, noted-is body tray list d f (empty_summary d) 0 frs)

  frames-plan : (o : Out (List Frame)) → ((frs : List Frame) → o ≡ Ok frs → first_format frs ≡ f)
      → and_then (and_then o (λ frs. refuse_item Record (other_depth_of (first_format frs)) 14 frs (Ok (taken frs)))) (λ q. Ok (plan_of body tray list first q))
      ≡ and_then o (λ frs. summary_plan d first f frs (summary_of body d f (empty_summary d) 0 frs))
  unfolding and_then
  frames-plan (Err r) h = refl
  frames-plan (Ok frs) h = item-then Record _ 14 frs (Ok (taken frs)) (λ q. Ok (plan_of body tray list first q)) ∙ noted-plan frs (h frs refl)

  -- ---- what reading comes to, refusal by refusal

  module _ (n : ℕ) where
    module _ (parsed : overlay_of body n ≡ Ok d) where
      pub plan-none : n ≡ 0 → plan_at body tray list n first ≡ Err (reason 15)
      unfolding plan_at inputs_at
      plan-none z = then-refused _ (then-done _ parsed ∙ refuse-yes _ _ (eq-eqb n 0 z))

      pub plan-list : (n ≡ 0 → ⊥) → (length list ≡ n → ⊥) → plan_at body tray list n first ≡ Err (reason 11)
      unfolding plan_at inputs_at
      plan-list z l = then-refused _ (then-done _ parsed ∙ refuse-no _ _ (ne_eqb n 0 z) ∙ refuse-yes _ _ (ap not (ne_eqb (length list) n l)))

      module _ (z : n ≡ 0 → ⊥) (l : length list ≡ n) where
        rest : Out Plan
        rest = and_then (and_then (frames_at n tray first) (λ frs. refuse_item Record (other_depth_of (first_format frs)) 14 frs (Ok (taken frs)))) (λ q. Ok (plan_of body tray list first q))

        plan-frames : plan_at body tray list n first ≡ rest
        unfolding plan_at inputs_at rest
        plan-frames = ap (λ (o : Out Inputs). and_then o (λ q. Ok (plan_of body tray list first q))) (then-done _ parsed ∙ refuse-no _ _ (ne_eqb n 0 z) ∙ refuse-no _ _ (ap not (eq-eqb (length list) n l)))

        pub plan-record : (r : Refusal) → record_at tray first ≡ Err r → plan_at body tray list n first ≡ Err (own_refusal r.reason (Record 0))
        unfolding rest
        plan-record r e = plan-frames ∙ then-refused _ (then-refused _ (frames-refused n tray first r (omega arith) e))

        pub plan-noted : (fr : Frame) → record_at tray first ≡ Ok fr → fr.form.format ≡ f → plan_at body tray list n first ≡ frames_plan body tray d first f
        unfolding rest frames_plan
        plan-noted fr e g =
            plan-frames ∙ frames-plan (frames_at n tray first) (λ frs k. ap (λ (m : Form). m.format) (frames-first n tray first fr frs (omega arith) e k) ∙ g)
            ∙ ap (λ (k : ℕ). and_then (frames_at k tray first) (λ frs. summary_plan d first f frs (summary_of body d f (empty_summary d) 0 frs))) (sym (overlay-taken body n d parsed).1)
