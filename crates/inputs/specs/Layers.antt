-- The inputs of an overlay as layers, and the composed form (document 01, Overlay).
use Rattle.std.specs.Prelude.{Bool, ◌&&◌, ◌||◌, not, List, [], ◌∷◌, ◌+◌, ℕ, eqb, ltb, get_or}
use Rattle.laws.specs.Any.{any}
use Rattle.laws.specs.Pick.{pick}
use Rattle.numbers.specs.declared.Offset.{Offset}
use Rattle.image.specs.Format.{has_alpha, is_mono, needs444, odd, top_of}
use Rattle.image.specs.declared.format.Form.{Form}
use Rattle.image.specs.declared.format.PixelFormat.{PixelFormat}
use Rattle.records.specs.declared.record.Frame.{Frame}
use Rattle.planes.specs.Bytes.{decode}
use Rattle.planes.specs.Picture.{Pic}
use Rattle.derived.specs.Overlay.{placement_at}
use Rattle.derived.specs.declared.overlay.OverlayDescriptor.{OverlayDescriptor}
use Rattle.derived.specs.declared.overlay.Placement.{Placement}

-- an input: its picture, where its top left corner lies, whether its colour is already multiplied by its alpha
pub record Layer : Type 0 where
  pub pic : Pic
  pub placement : Placement
  pub premultiplied : Bool

unfoldable pub see_through : Layer → Bool
see_through l = has_alpha l.pic.form.format

unfoldable pub other_chroma_of : PixelFormat → Layer → Bool
other_chroma_of f l = not (eqb l.pic.form.format.chroma f.chroma)

unfoldable pub odd_offset : Offset → Bool
odd_offset o = odd o.ahead || odd o.behind

unfoldable pub odd_across_of : Layer → Bool
odd_across_of l = odd_offset l.placement.horizontal || odd l.pic.form.width

unfoldable pub odd_down_of : Layer → Bool
odd_down_of l = odd_offset l.placement.vertical || odd l.pic.form.height

-- all inputs are promoted if the first is not mono and any has alpha, if chromas differ, or if any offset, input side or canvas side
-- is odd along an axis that the first input halves
unfoldable pub promotes : PixelFormat → ℕ → ℕ → List Layer → Bool
promotes f width height ls =
    (not (is_mono f) && any see_through ls || any (other_chroma_of f) ls)
    || needs444 f (odd width || any odd_across_of ls) (odd height || any odd_down_of ls)

-- the canvas has alpha only where the fill's is below top
unfoldable pub overlay_form : PixelFormat → ℕ → ℕ → ℕ → List Layer → Form
overlay_form f width height fill_alpha ls = record {
  width = width;
  height = height;
  format = record { chroma = pick (promotes f width height ls) 3 f.chroma; depth = f.depth; alpha = pick (ltb fill_alpha (top_of f)) 1 0 };
}

-- ---- the layers of a body and a tray

unfoldable pub layer_of : List ℕ → List ℕ → List ℕ → OverlayDescriptor → ℕ → Frame → Layer
layer_of body tray premultiplied d i fr =
    record { pic = decode tray fr; placement = placement_at body d i; premultiplied = not (eqb (get_or premultiplied i 0) 0) }

-- the inputs from number i on
unfoldable pub layers_of : List ℕ → List ℕ → List ℕ → OverlayDescriptor → ℕ → List Frame → List Layer
layers_of body tray premultiplied d i [] = []
layers_of body tray premultiplied d i (fr ∷ frs) = layer_of body tray premultiplied d i fr ∷ layers_of body tray premultiplied d (i + 1) frs
