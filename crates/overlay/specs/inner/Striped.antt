-- A canvas that is not halved, as its stripes are written.
use Rattle.std.specs.Prelude.{Option, Some, false, List, ◌≡◌, ◌*◌, ◌+◌, ◌≤◌, ℕ, ltb}
use Rattle.laws.specs.Pick.{pick}
use Rattle.laws.specs.Puts.{puts}
use Rattle.image.specs.Format.{bytes_of, half_x, half_y, has_part, top_of}
use Rattle.records.specs.Record.{plane_of}
use Rattle.image.specs.declared.format.Form.{Form}
use Rattle.image.specs.declared.format.Part.{Part}
use Rattle.image.specs.declared.format.Part.TheVariants.{Alpha}
use Rattle.planes.specs.Bytes.{encode, samples_of, tight_at}
use Rattle.planes.specs.Picture.{Pic}
use Rattle.inputs.specs.Layers.{Layer}
use Rattle.inputs.specs.declared.read.Plan.{Plan}
use Rattle.blend.specs.Overlay.{backdrop, over_all, place_at, unpremultiply}
use Rattle.blend.specs.declared.over.Stripe.{Stripe}
use Rattle.blend.specs.inner.Stripe.{across_at, down_at}
use Rattle.blocks.specs.declared.list.Entry.{Entry}
use Rattle.blocks.specs.inner.Listed.{Listed, Whole}
use Rattle.overlay.specs.declared.draw.Backdrop.{Backdrop}
use Rattle.overlay.specs.inner.Block.{PlanSound, backdrop_fill}

-- ---- a stripe of a plane

-- what a sample of a colour plane ends as
unfoldable pub colour_at : ℕ → (Part → ℕ) → List Layer → Part → ℕ → ℕ → ℕ
colour_at top fill ls p x y = unpremultiply top (fill p) (over_all top p x y ls (backdrop fill p)) (over_all top Alpha x y ls (backdrop fill Alpha))

-- stored in the tight record of a form, if it has the plane
unfoldable pub store_run : Form → Part → Stripe → (ℕ → ℕ) → List ℕ → List ℕ
store_run m p r f d =
    pick (has_part m.format p) (puts d ((plane_of (tight_at m 0) p).start + r.start * bytes_of m.format) (samples_of (bytes_of m.format) f r.count)) d

unfoldable pub colour_stripe : Form → ℕ → (Part → ℕ) → List Layer → Part → Stripe → List ℕ → List ℕ
colour_stripe m top fill ls p r d = store_run m p r (λ j. colour_at top fill ls p (across_at r j) (down_at r j)) d

unfoldable pub alpha_stripe : Form → ℕ → (Part → ℕ) → List Layer → Stripe → List ℕ → List ℕ
alpha_stripe m top fill ls r d = store_run m Alpha r (λ j. place_at top fill ls Alpha (across_at r j) (down_at r j)) d

-- ---- the canvas

-- composed as far as sample s of each plane, row after row; the fill from there on
unfoldable pub drawn_to : Form → (Part → ℕ) → List Layer → ℕ → Pic
drawn_to m fill ls s = record { form = m; at = λ p x y. pick (ltb (y * m.width + x) s) (place_at (top_of m.format) fill ls p x y) (fill p) }

-- drawn on from sample s to sample t, whatever stands behind the record
pub record Continued (m : Form) (fill : Part → ℕ) (ls : List Layer) (s t : ℕ) (d d' : List ℕ) : Type 0 where
  pub on : (D : List ℕ) → d ≡ puts D 0 (encode (drawn_to m fill ls s)) → d' ≡ puts D 0 (encode (drawn_to m fill ls t))

-- ---- what is asked

pub record CanvasReady (body tray list : List ℕ) (q : Plan) (g : Backdrop) : Type 0 where
  pub plan : PlanSound body tray list q
  pub whole : (p : Part) → (half_x q.form.format p ≡ false) × (half_y q.form.format p ≡ false)
  pub top : g.top ≡ top_of q.form.format
  pub low : (p : Part) → backdrop_fill g p ≤ g.top

pub record RunReady (q : Plan) (r : Stripe) : Type 0 where
  pub columns : r.columns ≡ q.form.width
  pub ends : r.start + r.count ≤ q.form.height * q.form.width
  pub whole : Whole r

-- a stripe, whose inputs are listed
pub record StripeReady (body tray list : List ℕ) (q : Plan) (g : Backdrop) (r : Stripe) (e : List Entry) (inputs : Option ℕ) : Type 0 where
  pub canvas : CanvasReady body tray list q g
  pub run : RunReady q r
  pub listed : (n : ℕ) → inputs ≡ Some n → Listed body tray q.descriptor q.first r.columns r.start r.count e n

-- a block, whose inputs are listed
pub record BlockReady (body tray : List ℕ) (q : Plan) (start count : ℕ) (e : List Entry) (inputs : Option ℕ) : Type 0 where
  pub ends : start + count ≤ q.form.height * q.form.width
  pub listed : (n : ℕ) → inputs ≡ Some n → Listed body tray q.descriptor q.first q.form.width start count e n
