-- Where no input has alpha, each can be laid as it is on the composed form (document 01, Overlay: what is promoted).
use mathlib.Core.Bool.{Bool, ◌&&◌, ◌||◌, false, not, true}
use mathlib.Core.List.{List, [], ◌∷◌}
use mathlib.Core.Path.{◌∙◌, ◌≡◌, refl, sym}
use Prim.Native.Nat.{◌+◌, ℕ}
use lib.Dec.{eqb}
use borrow.Author.Tests.{eqb-true, not-false}
use Rattle.laws.proofs.Order.{or_left, or_right}
use Rattle.laws.specs.Any.{any}
use Rattle.laws.specs.Pick.{pick}
use Rattle.image.specs.Format.{halves_x, halves_y, has_alpha, is_mono}
use Rattle.image.specs.declared.format.Form.{Form}
use Rattle.image.specs.declared.format.PixelFormat.{PixelFormat}
use Rattle.records.specs.declared.record.Frame.{Frame}
use Rattle.planes.specs.Bytes.{decode}
use Rattle.derived.specs.declared.overlay.OverlayDescriptor.{OverlayDescriptor}
use Rattle.inputs.specs.Inputs.{other_depth_of}
use Rattle.inputs.specs.Layers.{Layer, layer_of, layers_of, other_chroma_of, overlay_form, promotes, see_through}
use Rattle.opaque.proofs.SourceLaws.{fit-opaque}
use Rattle.opaque.specs.inner.Laid.{unfit}

-- halved nowhere at 4:4:4, else as the first is
halves-as : (b : Bool) (c f m : PixelFormat) → c.chroma ≡ pick b 3 f.chroma → (b ≡ false → m.chroma ≡ f.chroma) → (halves_x c && not (halves_x m) || halves_y c && not (halves_y m)) ≡ false
unfolding halves_x halves_y pick
halves-as true c f m e g = rw e refl
halves-as false c f m e g = rw (e ∙ sym (g refl)) (neither (eqb m.chroma 1 || eqb m.chroma 2) (eqb m.chroma 1))
  where
    neither : (u v : Bool) → (u && not u || v && not v) ≡ false
    neither true true = refl
    neither true false = refl
    neither false true = refl
    neither false false = refl

fit-one : (c : Form) (fr : Frame) → has_alpha fr.form.format ≡ false → not (eqb fr.form.format.depth c.format.depth) ≡ false
    → (halves_x c.format && not (halves_x fr.form.format) || halves_y c.format && not (halves_y fr.form.format)) ≡ false → unfit c fr ≡ false
unfolding unfit
fit-one c fr a d h = rw (a, d, h) refl

module _ (body tray list : List ℕ) (d : OverlayDescriptor) (c : Form) (f : PixelFormat) (b : Bool) (depth : c.format.depth ≡ f.depth) (chroma : c.format.chroma ≡ pick b 3 f.chroma) where
  frames-fit : (i : ℕ) (frs : List Frame) → any see_through (layers_of body tray list d i frs) ≡ false → (b ≡ false → any (other_chroma_of f) (layers_of body tray list d i frs) ≡ false) → any (other_depth_of f) frs ≡ false
      → any (unfit c) frs ≡ false
  unfolding any layers_of layer_of see_through other_chroma_of other_depth_of decode
  frames-fit i [] a g e = refl
  frames-fit i (fr ∷ frs) a g e =
      rw (
        fit-one c fr (or_left _ _ a) (rw depth (or_left _ _ e))
            (halves-as b c.format f fr.form.format chroma (λ q. eqb-true _ _ (not-false _ (or_left _ _ (g q))))),
        frames-fit (i + 1) frs (or_right (has_alpha fr.form.format) _ a) (λ q. or_right (not (eqb fr.form.format.chroma f.chroma)) _ (g q)) (or_right (not (eqb fr.form.format.depth f.depth)) _ e),
      ) refl

same-chroma : (f : PixelFormat) (width height : ℕ) (ls : List Layer) → promotes f width height ls ≡ false → any (other_chroma_of f) ls ≡ false
unfolding promotes
same-chroma f width height ls q = or_right (not (is_mono f) && any see_through ls) _ (or_left (not (is_mono f) && any see_through ls || any (other_chroma_of f) ls) _ q)

-- the composed form
pub form-fits : (body tray list : List ℕ) (d : OverlayDescriptor) (f : PixelFormat) (width height alpha : ℕ) (frs : List Frame) → any see_through (layers_of body tray list d 0 frs) ≡ false → any (other_depth_of f) frs ≡ false
    → any (unfit (overlay_form f width height alpha (layers_of body tray list d 0 frs))) frs ≡ false
unfolding overlay_form
form-fits body tray list d f width height alpha frs a e =
    frames-fit body tray list d _ f (promotes f width height (layers_of body tray list d 0 frs)) refl refl 0 frs a (same-chroma f width height (layers_of body tray list d 0 frs)) e

-- what can be laid has no alpha
pub fit-clear : (body tray list : List ℕ) (d : OverlayDescriptor) (c : Form) (i : ℕ) (frs : List Frame) → any (unfit c) frs ≡ false → any see_through (layers_of body tray list d i frs) ≡ false
unfolding any layers_of layer_of see_through decode
fit-clear body tray list d c i [] e = refl
fit-clear body tray list d c i (fr ∷ frs) e = rw (fit-opaque c fr (or_left (unfit c fr) _ e), fit-clear body tray list d c (i + 1) frs (or_right (unfit c fr) _ e)) refl
