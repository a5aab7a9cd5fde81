-- What a picture run and the point runs over the same descriptor, tray, chain and settings have to do with each other, in the words of
-- document 01 ("Point call"): demand 3 is said with these.
use Rattle.std.specs.Prelude.{Ok, Err}
use Rattle.std.specs.Prelude.{Bool, false, true, List, [], ◌∷◌, ◌≡◌, ◌<◌, ◌≤◌, ℕ}
use Rattle.laws.specs.Any.{any}
use Rattle.laws.specs.Out.{Out, and_then, reason}
use Rattle.laws.specs.declared.Refusal.{Refusal}
use Rattle.image.specs.Format.{Covers, has_part}
use Rattle.image.specs.declared.format.Part.{Part}
use Rattle.records.specs.Record.{record_of}
use Rattle.records.specs.Tray.{records_in}
use Rattle.records.specs.declared.record.Frame.{Frame}
use Rattle.planes.specs.Bytes.{decode}
use Rattle.planes.specs.Picture.{Pic}
use Rattle.props.specs.Chain.{applies, chain_at}
use Rattle.props.specs.declared.entry.PropertyEntry.{PropertyEntry}
use Rattle.motions.specs.Chain.{NotIscl}
use Rattle.motions.specs.Place.{Place}
use Rattle.agreement.specs.Carry.{Follows, Tracked, carry_of, kept}
use Rattle.sight.specs.Sight.{final_height, final_width, sight_of}
use Rattle.sight.specs.declared.Sight.{Sight}
use Rattle.stages.specs.Chain.{Drawn}
use Rattle.point.specs.Point.{see_through_frame}
use Rattle.point.specs.declared.Named.{Named}
use Rattle.point.specs.declared.Point.{Point}

-- ---- one picture run and one point run

-- the final picture Q at a place that the point run answers: its size is the final size of the rectangle and the turn; every sample of
-- every plane that covers the place is what is read at the input and the spot named there, or the fill
pub record Shown (reads : Named → Part → ℕ) (Q : Pic) (a : Point) (x y : ℕ) : Type 0 where
  pub width : Q.form.width ≡ final_width a.sight
  pub height : Q.form.height ≡ final_height a.sight
  pub across : x < Q.form.width
  pub down : y < Q.form.height
  pub samples : (p : Part) → has_part Q.form.format p ≡ true → (cx cy : ℕ) → Covers Q.form.format p cx cy x y → Q.at p cx cy ≡ reads a.named p

-- the bytes that a picture run writes are a record; of its picture something holds
pub record Pictured (bytes : List ℕ) (M : Pic → Type 0) : Type 0 where
  pub frame : Frame
  pub taken : record_of bytes ≡ Ok frame
  pub holds : M (decode bytes frame)

-- the same refusal; or 18 for a place outside the final picture; or an answer, and the final picture shows what it names
pub data Agreement (reads : Named → Part → ℕ) (x y : ℕ) : Out (List ℕ) → Out Point → Type 0 where
  alike : {r : Refusal} → Agreement reads x y (Err r) (Err r)
  outside : {bytes : List ℕ} → Pictured bytes (λ Q. x < Q.form.width → y < Q.form.height → ⊥) → Agreement reads x y (Ok bytes) (Err (reason 18))
  inside : {bytes : List ℕ} {a : Point} → Pictured bytes (λ Q. Shown reads Q a x y) → Agreement reads x y (Ok bytes) (Ok a)

-- enough room: output and spare are as long as the longest record of the run
unfoldable pub Room : Out Drawn → ℕ → ℕ → Type 0
Room o output spare = (d : Drawn) → o ≡ Ok d → (d.longest ≤ output) × (d.longest ≤ spare)

-- ---- what the entries of a chain make of a canvas

-- the chain without entries: a point run with it answers for the canvas itself, whose size is its final size
abbrev pub no_chain : List ℕ
no_chain = 0 ∷ []

abbrev pub canvas_width : Point → ℕ
canvas_width b = final_width b.sight

abbrev pub canvas_height : Point → ℕ
canvas_height b = final_height b.sight

-- the rectangle and the turn that a chain comes to on a canvas of that size
unfoldable pub chain_sight : List ℕ → Bool → ℕ → ℕ → Out Sight
chain_sight chain essential_only width height = and_then (chain_at chain 0) (λ es. sight_of es essential_only width height)

-- what its entries in turn make of a place of the canvas
unfoldable pub chain_carries : List ℕ → Bool → ℕ → ℕ → Place → Out Tracked
chain_carries chain essential_only width height l = and_then (chain_at chain 0) (λ es. carry_of es essential_only width height l)

-- the entries carry the place l to a final place or crop it away, as a rectangle and a turn say
pub record CarriedTo (carries : ℕ → ℕ → Place → Out Tracked) (width height : ℕ) (l : Place) (s : Sight) : Type 0 where
  pub end : Tracked
  pub carried : carries width height l ≡ Ok end
  pub follows : Follows width height l s end

-- the canvas place that the entries carry to the final place (x, y) names what the final place does
pub record CarriedFrom (carries : ℕ → ℕ → Place → Out Tracked) (bare : ℕ → ℕ → Out Point) (a : Point) (x y : ℕ) : Type 0 where
  pub place : Place
  pub answer : Point
  pub answers : bare place.x place.y ≡ Ok answer
  pub named : answer.named ≡ a.named
  pub end : Tracked
  pub carried : carries (canvas_width answer) (canvas_height answer) place ≡ Ok end
  pub arrived : end.place ≡ kept (record { x = x; y = y })

-- ---- the runs that demand 3 speaks of

-- no applied entry is an iscl
unfoldable pub Unscaled : Bool → List PropertyEntry → Type 0
Unscaled essential_only [] = Unit {0}
Unscaled essential_only (e ∷ es) = (applies essential_only e ≡ true → NotIscl e.property) × Unscaled essential_only es

-- a chain whose applied entries are clap, irot and imir in any order, whatever they hold; a damaged one has no entries
unfoldable pub NoScaling : List ℕ → Bool → Type 0
NoScaling chain essential_only = (es : List PropertyEntry) → chain_at chain 0 ≡ Ok es → Unscaled essential_only es

-- inputs without alpha; a damaged tray has none
unfoldable pub NoAlpha : List ℕ → Type 0
NoAlpha tray = any see_through_frame (records_in tray) ≡ false
