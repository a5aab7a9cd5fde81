-- The inputs that meet a block of the canvas, which is a run of its samples, row after row.
use Rattle.std.specs.Prelude.{Ok, Err, Option, Some}
use Rattle.std.specs.Prelude.{Bool, ◌||◌, false, true, List, ◌≡◌, ◌*◌, ◌+◌, ◌-◌, ◌<◌, ◌≤◌, min, suc, zero, ℕ, leb, get_or, length}
use Rattle.laws.specs.Out.{Out}
use Rattle.records.specs.Record.{record_at}
use Rattle.image.specs.declared.format.Form.{Form}
use Rattle.image.specs.declared.format.Part.{Part}
use Rattle.records.specs.declared.record.Frame.{Frame}
use Rattle.records.specs.inner.Frames.{frames_from}
use Rattle.derived.specs.declared.overlay.OverlayDescriptor.{OverlayDescriptor}
use Rattle.derived.specs.declared.overlay.Placement.{Placement}
use Rattle.inputs.specs.Layers.{layer_of, layers_of}
use Rattle.opaque.specs.declared.axis.Stretch.{Stretch}
use Rattle.opaque.specs.inner.Window.{stretch_of}
use Rattle.blend.specs.Overlay.{over_all, over_at}
use Rattle.blend.specs.declared.over.Stripe.{Stripe}
use Rattle.blocks.specs.declared.list.Entry.{Entry}

-- past the list's end
abbrev pub no_entry : Entry
no_entry = record { at = 0; number = 0; hull = record { from = 0; to = 0 } }

-- the samples of a canvas of c columns between which an input lies
unfoldable pub hull_of : ℕ → Placement → Form → Stretch
hull_of c o m = record {
  from = (stretch_of false o.vertical m.height).from * c + (stretch_of false o.horizontal m.width).from;
  to = ((stretch_of false o.vertical m.height).to - 1) * c + min (stretch_of false o.horizontal m.width).to c;
}

-- the input i, if its record was read
unfoldable pub over_taken : List ℕ → List ℕ → List ℕ → OverlayDescriptor → ℕ → Part → ℕ → ℕ → ℕ → Out Frame → ℕ → ℕ
over_taken body tray list d top p x y i (Err r) v = v
over_taken body tray list d top p x y i (Ok fr) v = over_at top p x y (layer_of body tray list d i fr) v

-- the input of an entry
unfoldable pub over_entry : List ℕ → List ℕ → List ℕ → OverlayDescriptor → List Entry → ℕ → Part → ℕ → ℕ → ℕ → ℕ → ℕ
over_entry body tray list d e top p x y k v = over_taken body tray list d top p x y ((get_or e k no_entry).number) (record_at tray ((get_or e k no_entry).at)) v

-- those of the first n, in turn
unfoldable pub over_entries : List ℕ → List ℕ → List ℕ → OverlayDescriptor → List Entry → ℕ → Part → ℕ → ℕ → ℕ → ℕ → ℕ
over_entries body tray list d e top p x y zero v = v
over_entries body tray list d e top p x y (suc n) v = over_entry body tray list d e top p x y n (over_entries body tray list d e top p x y n v)

-- n entries for the inputs before number i, of those of a tray, that meet a block; the record of number i stands at a place
pub record Listing (body tray : List ℕ) (d : OverlayDescriptor) (first c start count : ℕ) (e : List Entry) (n i at : ℕ) : Type 0 where
  pub room : n ≤ length e
  pub numbers : (k : ℕ) → k < n → (get_or e k no_entry).number < d.count
  pub sooner : (list : List ℕ) (k top : ℕ) (p : Part) (x y v : ℕ) → k < n → x < c → y * c + x < (get_or e k no_entry).hull.from → over_entry body tray list d e top p x y k v ≡ v
  pub later : (list : List ℕ) (k top : ℕ) (p : Part) (x y v : ℕ) → k < n → x < c → (get_or e k no_entry).hull.to ≤ y * c + x → over_entry body tray list d e top p x y k v ≡ v
  pub all : (list : List ℕ) (top : ℕ) (p : Part) (x y v : ℕ) → x < c → start ≤ y * c + x → y * c + x < start + count
      → over_all top p x y (layers_of body tray list d i (frames_from (d.count - i) tray at)) (over_entries body tray list d e top p x y n v)
      ≡ over_all top p x y (layers_of body tray list d 0 (frames_from d.count tray first)) v

-- all of them
abbrev pub Listed : List ℕ → List ℕ → OverlayDescriptor → ℕ → ℕ → ℕ → ℕ → List Entry → ℕ → Type 0
Listed body tray d first c start count e n = Listing body tray d first c start count e n d.count 0

-- a stripe of a canvas that is not halved
pub record Whole (r : Stripe) : Type 0 where
  pub across : r.half_across ≡ false
  pub down : r.half_down ≡ false

-- an entry's input lies beside so many samples from a start on
unfoldable pub missed : List Entry → ℕ → ℕ → ℕ → Bool
missed e k start count = leb (start + count) ((get_or e k no_entry).hull.from) || leb ((get_or e k no_entry).hull.to) start

-- the inputs are listed, and all do
pub record AllMissed (e : List Entry) (inputs : Option ℕ) (start count : ℕ) : Type 0 where
  pub many : ℕ
  pub listed : inputs ≡ Some many
  pub each : (k : ℕ) → k < many → missed e k start count ≡ true
