-- What the functions of this crate hand to each other: what the inputs come to.
use Rattle.std.specs.Prelude.{false, true, List, ◌≡◌, ℕ, length}
use Rattle.laws.specs.Any.{any}
use Rattle.image.specs.Format.{half_x, half_y}
use Rattle.image.specs.Sound.{FormSound}
use Rattle.image.specs.declared.format.Part.{Part}
use Rattle.records.specs.inner.Frames.{frames_from}
use Rattle.derived.specs.inner.Sound.{OverlaySound}
use Rattle.inputs.specs.Layers.{Layer, layers_of}
use Rattle.inputs.specs.declared.read.Plan.{Plan}
use Rattle.opaque.specs.inner.Laid.{unfit}
use Rattle.overlay.specs.Run.{fill_part}
use Rattle.overlay.specs.declared.draw.Backdrop.{Backdrop}

-- ---- the canvas

abbrev pub backdrop_fill : Backdrop → Part → ℕ
backdrop_fill g p = fill_part g.colour g.alpha p

abbrev pub layers_at : List ℕ → List ℕ → List ℕ → Plan → List Layer
layers_at body tray premultiplied q = layers_of body tray premultiplied q.descriptor 0 (frames_from q.descriptor.count tray q.first)

-- a plan that was read of a body and a tray, with a list as long; where no input has alpha, each can be laid as it is, and where one has, the
-- canvas is not halved
pub record PlanSound (body tray premultiplied : List ℕ) (q : Plan) : Type 0 where
  pub form : FormSound q.form
  pub offsets : OverlaySound body q.descriptor
  pub list : length premultiplied ≡ q.descriptor.count
  pub whole : q.alpha ≡ true → (p : Part) → (half_x q.form.format p ≡ false) × (half_y q.form.format p ≡ false)
  pub fit : q.alpha ≡ false → any (unfit q.form) (frames_from q.descriptor.count tray q.first) ≡ false
