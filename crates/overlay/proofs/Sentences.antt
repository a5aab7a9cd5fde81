-- Document 01's two sentences on overlay places (Overlay): what the composed picture reads where no input covers, and where all that
-- cover have alpha top or straight alpha 0.
use Rattle.std.specs.Prelude.{Ok, Option}
use mathlib.Core.Bool.{false}
use mathlib.Core.List.{List}
use mathlib.Core.Path.{◌∙◌, ◌≡◌}
use Prim.Native.Nat.{◌<◌, ◌≤◌, ℕ}
use Rattle.laws.proofs.Out.{holds-done}
use Rattle.laws.specs.Puts.{Bytes}
use Rattle.image.proofs.FormLaws.{top-some}
use Rattle.image.specs.Format.{top_at, top_of}
use Rattle.image.specs.Sound.{FormSound}
use Rattle.image.specs.declared.format.Part.{Part}
use Rattle.image.specs.declared.format.Part.TheVariants.{Alpha, Cb, Cr, Luma}
use Rattle.image.specs.declared.format.PixelFormat.{PixelFormat}
use Rattle.planes.specs.Picture.{Pic, pixel}
use Rattle.fill.proofs.TopLaws.{fill-alpha-top, fill-top}
use Rattle.fill.specs.Fill.{fill_alpha_of}
use Rattle.fill.specs.declared.Nclx.{Nclx}
use Rattle.derived.proofs.Taken.{overlay-fill}
use Rattle.derived.specs.declared.overlay.Fill.{Fill}
use Rattle.overlay.proofs.CoveredLaws.{settles, uncovered}
use Rattle.overlay.proofs.EvenLaws.{overlay-pixel}
use Rattle.overlay.proofs.FlatLaws.{fill-taken}
use Rattle.overlay.proofs.RunLaws.{Took, frames-sound, took}
use Rattle.overlay.specs.Covered.{AllCut, ends_as, hides, topmost}
use Rattle.inputs.specs.Layers.{Layer, overlay_form, layers_of}
use Rattle.blend.specs.Overlay.{covers_at, overlay_pic}
use Rattle.laws.specs.Any.{any}
use Rattle.inputs.specs.Inputs.{Inputs, composed_form, first_form, first_format, inputs_at}
use Rattle.overlay.specs.Run.{composed, fill_for, fill_part}

-- every sample of a fill is at most top
pub fill-low : (k : Fill) (depth : ℕ) (colour : Option Nclx) → k.alpha ≤ 65535 → 8 ≤ depth → depth ≤ 16 → (p : Part) → fill_for k depth colour p ≤ top_at depth
unfolding fill_for fill_part
fill-low k depth colour a l h Luma = (holds-done _ _ _ (fill-top k.red k.green k.blue depth colour) (fill-taken k depth colour l h)).y
fill-low k depth colour a l h Cb = (holds-done _ _ _ (fill-top k.red k.green k.blue depth colour) (fill-taken k depth colour l h)).cb
fill-low k depth colour a l h Cr = (holds-done _ _ _ (fill-top k.red k.green k.blue depth colour) (fill-taken k depth colour l h)).cr
fill-low k depth colour a l h Alpha = fill-alpha-top k.alpha depth a

-- ---- of inputs laid over a fill that is at most top

module _ (f : PixelFormat) (width height alpha : ℕ) (fill : Part → ℕ) (ls : List Layer) (some-top : 0 < top_of f) (low : (p : Part) → fill p ≤ top_of f) (x y : ℕ) where
  abbrev picture : Pic
  picture = overlay_pic (overlay_form f width height alpha ls) fill ls

  uncovered-pixel : any (λ l. covers_at l x y) ls ≡ false → (p : Part) → pixel picture p x y ≡ fill p
  uncovered-pixel e p = overlay-pixel f width height alpha fill ls p x y ∙ uncovered (top_of f) some-top fill low x y ls e p

  pub settled-pixel : AllCut (top_of f) x y ls → (p : Part) → pixel picture p x y ≡ ends_as (top_of f) fill p x y (topmost (hides (top_of f) x y) ls)
  settled-pixel k p = overlay-pixel f width height alpha fill ls p x y ∙ settles (top_of f) some-top fill low x y ls k p

-- ---- of what is composed from a body's bytes and inputs that were taken

module _ (body tray list : List ℕ) (colour : Option Nclx) (n at : ℕ) (q : Inputs) (small : Bytes body) (taken : inputs_at body tray list n at ≡ Ok q) where
  -- the first input's format, the inputs in list order, and the fill
  abbrev first : PixelFormat
  first = first_format q.frames

  abbrev inputs : List Layer
  inputs = layers_of body tray list q.descriptor 0 q.frames

  abbrev fill : Part → ℕ
  fill = fill_for q.descriptor.canvas_fill first.depth colour

  parts : Took body tray list n at q
  parts = took body tray list n at q taken

  first-sound : FormSound (first_form q.frames)
  first-sound = frames-sound n tray at q.frames parts.nonempty parts.frames

  some-top : 0 < top_of first
  some-top = top-some first first-sound.low

  fill-at-most : (p : Part) → fill p ≤ top_of first
  unfolding top_of
  fill-at-most p = fill-low q.descriptor.canvas_fill first.depth colour (overlay-fill body n q.descriptor small parts.body-read) first-sound.low first-sound.high p

  -- "A place that no input covers holds fill and fill alpha exactly"
  pub composed-uncovered : (x y : ℕ) → any (λ l. covers_at l x y) inputs ≡ false → (p : Part) → pixel (composed body tray list colour q) p x y ≡ fill p
  unfolding composed composed_form
  composed-uncovered x y none p =
      uncovered-pixel first q.descriptor.output_width q.descriptor.output_height (fill_alpha_of q.descriptor.canvas_fill.alpha first.depth) fill inputs some-top fill-at-most x y none p

  -- "one whose covering inputs all have alpha top or straight alpha 0 there ends as the topmost at top, capped at top, with alpha top,
  -- or as the fill where there is none"
  pub composed-settled : (x y : ℕ) → AllCut (top_of first) x y inputs → (p : Part) → pixel (composed body tray list colour q) p x y ≡ ends_as (top_of first) fill p x y (topmost (hides (top_of first) x y) inputs)
  unfolding composed composed_form
  composed-settled x y k p =
      settled-pixel first q.descriptor.output_width q.descriptor.output_height (fill_alpha_of q.descriptor.canvas_fill.alpha first.depth) fill inputs some-top fill-at-most x y k p
