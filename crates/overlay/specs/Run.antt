-- What composite_overlay answers and writes (document 01, Overlay and "Refusals in order").
use Rattle.laws.specs.declared.Item.TheVariants.{Record}
use Rattle.std.specs.Prelude.{List, ℕ, Option}
use Rattle.laws.specs.Out.{Out, and_then, fitted, refuse_item}
use Rattle.numbers.specs.Number.{on_number, read_number}
use Rattle.image.specs.Format.{top_of}
use Rattle.image.specs.declared.format.Part.{Part}
use Rattle.image.specs.declared.format.Part.TheVariants.{Alpha, Cb, Cr, Luma}
use Rattle.planes.specs.Bytes.{encode}
use Rattle.planes.specs.Picture.{Pic}
use Rattle.fill.specs.Fill.{fill_alpha_of, nclx_of, part_of, ycbcr_of}
use Rattle.fill.specs.declared.Nclx.{Nclx}
use Rattle.fill.specs.declared.Ycbcr.{Ycbcr}
use Rattle.derived.specs.declared.overlay.Fill.{Fill}
use Rattle.inputs.specs.Inputs.{Inputs, alpha_above, composed_form, first_format, inputs_at}
use Rattle.inputs.specs.Layers.{layers_of}
use Rattle.blend.specs.Overlay.{overlay_pic}

-- ---- the picture

-- a sample of the fill for each plane
unfoldable pub fill_part : Ycbcr → ℕ → Part → ℕ
fill_part s alpha Luma = s.y
fill_part s alpha Cb = s.cb
fill_part s alpha Cr = s.cr
fill_part s alpha Alpha = alpha

unfoldable pub fill_for : Fill → ℕ → Option Nclx → Part → ℕ
fill_for k depth colour = fill_part (ycbcr_of (part_of k.red) (part_of k.green) (part_of k.blue) depth (nclx_of colour)) (fill_alpha_of k.alpha depth)

unfoldable pub composed : List ℕ → List ℕ → List ℕ → Option Nclx → Inputs → Pic
composed body tray premultiplied colour q =
    overlay_pic (composed_form body tray premultiplied q) (fill_for q.descriptor.canvas_fill (first_format q.frames).depth colour)
    (layers_of body tray premultiplied q.descriptor 0 q.frames)

-- composite_overlay: 5 a tray count that cannot be read, the body and the records, 16 the first record with an alpha sample above top,
-- drawn or cut off, then 17
unfoldable pub overlay_run : List ℕ → List ℕ → List ℕ → Option Nclx → ℕ → Out (List ℕ)
overlay_run body tray premultiplied colour room =
    on_number (read_number tray 0) (λ n at.
    and_then (inputs_at body tray premultiplied n at) (λ q.
    refuse_item Record (alpha_above tray (top_of (first_format q.frames))) 16 q.frames
    (fitted room (encode (composed body tray premultiplied colour q)))))
