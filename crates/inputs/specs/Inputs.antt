-- An overlay's body and records: their refusals, and the composed form ("Refusals in order", Overlay).
use Rattle.laws.specs.declared.Item.TheVariants.{Record}
use Rattle.std.specs.Prelude.{Ok}
use Rattle.std.specs.Prelude.{Bool, ◌&&◌, not, List, [], ◌∷◌, ℕ, eqb, ltb, length}
use Rattle.laws.specs.Any.{any_below}
use Rattle.laws.specs.Out.{Out, and_then, refuse, refuse_item}
use Rattle.image.specs.Format.{has_alpha}
use Rattle.records.specs.Tray.{frames_at, no_form}
use Rattle.image.specs.declared.format.Form.{Form}
use Rattle.image.specs.declared.format.Part.TheVariants.{Alpha}
use Rattle.image.specs.declared.format.PixelFormat.{PixelFormat}
use Rattle.records.specs.declared.record.Frame.{Frame}
use Rattle.planes.specs.Bytes.{decode}
use Rattle.fill.specs.Fill.{fill_alpha_of}
use Rattle.derived.specs.Overlay.{overlay_of}
use Rattle.derived.specs.declared.overlay.OverlayDescriptor.{OverlayDescriptor}
use Rattle.inputs.specs.Layers.{layers_of, overlay_form}

-- a body and a tray's records that were taken
pub record Inputs : Type 0 where
  pub descriptor : OverlayDescriptor
  pub frames : List Frame

-- the form of the first record
unfoldable pub first_form : List Frame → Form
first_form [] = no_form
first_form (fr ∷ frs) = fr.form

abbrev pub first_format : List Frame → PixelFormat
first_format frs = (first_form frs).format

unfoldable pub other_depth_of : PixelFormat → Frame → Bool
other_depth_of f fr = not (eqb fr.form.format.depth f.depth)

-- a tray of n records, the first at a place: the body, 15 no inputs, 11 a premultiplied list of another length, the records and what
-- is left over, 14 the first record whose depth differs
unfoldable pub inputs_at : List ℕ → List ℕ → List ℕ → ℕ → ℕ → Out Inputs
inputs_at body tray premultiplied n at =
    and_then (overlay_of body n) (λ d.
    refuse (eqb n 0) 15
    (refuse (not (eqb (length premultiplied) n)) 11
    (and_then (frames_at n tray at) (λ frs.
    refuse_item Record (other_depth_of (first_format frs)) 14 frs (Ok (record { descriptor = d; frames = frs }))))))

unfoldable pub alpha_above : List ℕ → ℕ → Frame → Bool
alpha_above tray top fr =
    has_alpha fr.form.format
    && any_below fr.form.height (λ y. any_below fr.form.width (λ x. ltb top ((decode tray fr).at Alpha x y)))

-- the composed form, and the picture
unfoldable pub composed_form : List ℕ → List ℕ → List ℕ → Inputs → Form
composed_form body tray premultiplied q =
    let d = q.descriptor in
    let f = first_format q.frames in
    overlay_form f d.output_width d.output_height (fill_alpha_of d.canvas_fill.alpha f.depth) (layers_of body tray premultiplied d 0 q.frames)
