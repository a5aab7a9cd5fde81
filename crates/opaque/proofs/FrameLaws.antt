-- Laws of inputs laid one after the other, record by record.
use Rattle.std.specs.Prelude.{Ok, Err}
use mathlib.Core.Bool.{false}
use mathlib.Core.List.{List, ◌∷◌}
use mathlib.Core.Path.{◌∙◌, ◌≡◌, ap, refl, sym}
use Prim.Native.Nat.{◌+◌, ◌-◌, ◌<◌, ◌≤◌, ℕ}
use native.Mathlib.Omega.{arith}
use lib.ListN.{length}
use Rattle.laws.proofs.Order.{or_left, or_right, pick-both}
use Rattle.laws.specs.Any.{any}
use Rattle.laws.specs.declared.Refusal.{Refusal}
use Rattle.records.specs.Record.{record_at}
use Rattle.image.specs.declared.format.Form.{Form}
use Rattle.image.specs.declared.format.Part.{Part}
use Rattle.image.specs.declared.format.Part.TheVariants.{Alpha, Cb, Cr, Luma}
use Rattle.records.specs.declared.record.Frame.{Frame}
use Rattle.records.specs.inner.Frames.{frames_from}
use Rattle.planes.specs.Bytes.{decode}
use Rattle.planes.specs.Picture.{Pic}
use Rattle.paste.proofs.RowLaws.{length-store_rows}
use Rattle.derived.specs.Overlay.{placement_at}
use Rattle.derived.specs.declared.overlay.OverlayDescriptor.{OverlayDescriptor}
use Rattle.derived.specs.declared.overlay.Placement.{Placement}
use Rattle.inputs.proofs.BlendLaws.{less_one}
use Rattle.inputs.proofs.FrameLaws.{from_next, from-refused}
use Rattle.opaque.specs.inner.Laid.{Lays, lay_frames, lay_input, lay_part, lay_rows, unfit}

pub length-lay_part : (c : Form) (T : Pic) (o : Placement) (p : Part) (d : List ℕ) → length (lay_part c T o p d) ≡ length d
unfolding lay_part lay_rows
length-lay_part c T o p d = pick-both (λ (e : List ℕ). length e ≡ length d) _ _ _ (length-store_rows d _ _ _ _) refl

pub length-lay_input : (c : Form) (T : Pic) (o : Placement) (d : List ℕ) → length (lay_input c T o d) ≡ length d
unfolding lay_input
length-lay_input c T o d = length-lay_part c T o Alpha _ ∙ length-lay_part c T o Cr _ ∙ length-lay_part c T o Cb _ ∙ length-lay_part c T o Luma d

-- a record can be laid after another of its planes, or another input, was
pub lays-as : (tray : List ℕ) (fr : Frame) (c : Form) (n k : ℕ) → k ≡ n → Lays tray fr c n → Lays tray fr c k
lays-as tray fr c n k e l = rw e l

module _ (c : Form) (body tray : List ℕ) (e : OverlayDescriptor) where
  pub laid-refused : (n at i : ℕ) (d : List ℕ) (r : Refusal) → record_at tray at ≡ Err r → lay_frames c body tray e i (frames_from n tray at) d ≡ d
  unfolding lay_frames
  laid-refused n at i d r q = rw (from-refused n tray at r q)

  pub laid_none : (n at i : ℕ) (d : List ℕ) → n ≤ 0 → lay_frames c body tray e i (frames_from n tray at) d ≡ d
  unfolding lay_frames frames_from
  laid_none n at i d h = let z : n ≡ 0 = omega arith in rw z

module _ (tray : List ℕ) (n at i : ℕ) (fr : Frame) (l : i < n) (q : record_at tray at ≡ Ok fr) where
  next : frames_from (n - i) tray at ≡ fr ∷ frames_from (n - (i + 1)) tray fr.end
  next = from_next (n - i) tray at fr (omega arith) q ∙ ap (λ (k : ℕ). fr ∷ frames_from k tray fr.end) (less_one n i)

  pub laid_next : (c : Form) (body : List ℕ) (e : OverlayDescriptor) (o : Placement) (d d' : List ℕ) → o ≡ placement_at body e i → d' ≡ lay_input c (decode tray fr) o d
      → lay_frames c body tray e i (frames_from (n - i) tray at) d ≡ lay_frames c body tray e (i + 1) (frames_from (n - (i + 1)) tray fr.end) d'
  unfolding lay_frames
  laid_next c body e o d d' g k = rw (next, k, g)

  pub fit_next : (c : Form) → any (unfit c) (frames_from (n - i) tray at) ≡ false → (unfit c fr ≡ false) × (any (unfit c) (frames_from (n - (i + 1)) tray fr.end) ≡ false)
  unfolding any
  fit_next c f = let g = ap (any (unfit c)) (sym next) ∙ f in (or_left (unfit c fr) _ g, or_right (unfit c fr) _ g)
