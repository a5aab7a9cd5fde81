-- Where the entries of a chain carry a place of the canvas, one by one, or crop it away (document 01, "Point call").
use Rattle.std.specs.Prelude.{Ok, Err}
use Rattle.std.specs.Prelude.{Bool, ◌&&◌, false, true, List, ◌≡◌, ◌+◌, ◌-◌, ◌<◌, ℕ, leb, ltb}
use Rattle.laws.specs.Out.{Out, and_then, reason}
use Rattle.laws.specs.Pick.{pick}
use Rattle.image.specs.Format.{odd}
use Rattle.sizes.specs.Aperture.{resolve_of}
use Rattle.props.specs.Chain.{fold_chain}
use Rattle.sizes.specs.Sound.{Inside}
use Rattle.sizes.specs.declared.clap.CropRect.{CropRect}
use Rattle.props.specs.declared.entry.Property.{Property}
use Rattle.props.specs.declared.entry.PropertyEntry.{PropertyEntry}
use Rattle.motions.specs.Place.{Place, sideways, swaps}
use Rattle.motions.specs.Turn.{Quarter, q0, q1, q2, q3, quarter_of}
use Rattle.sight.specs.Sight.{exchange, final_height, final_width}
use Rattle.sight.specs.declared.Sight.{Sight}

-- ---- one entry on one place

-- what became of a place
pub data Carried : Type 0 where
  cropped : Carried
  kept : Place → Carried

-- whether a place lies in a rectangle
unfoldable pub in_rect : CropRect → Place → Bool
in_rect r l = (leb r.x l.x && ltb l.x (r.x + r.width)) && (leb r.y l.y && ltb l.y (r.y + r.height))

-- a crop keeps the places of its rectangle, counted from its corner
unfoldable pub crop_place : CropRect → Place → Carried
crop_place r l = pick (in_rect r l) (kept (record { x = l.x - r.x; y = l.y - r.y })) cropped

-- quarter turns anticlockwise of a picture w by h: at the first the right column becomes the top row
unfoldable pub turn_place : Quarter → ℕ → ℕ → Place → Place
turn_place q0 w h l = l
turn_place q1 w h l = record { x = l.y; y = w - 1 - l.x }
turn_place q2 w h l = record { x = w - 1 - l.x; y = h - 1 - l.y }
turn_place q3 w h l = record { x = h - 1 - l.y; y = l.x }

-- left and right exchanged (true), or top and bottom
unfoldable pub mirror_place : Bool → ℕ → ℕ → Place → Place
mirror_place true w h l = record { x = w - 1 - l.x; y = l.y }
mirror_place false w h l = record { x = l.x; y = h - 1 - l.y }

-- what is cropped away stays away
unfoldable pub onward : (Place → Carried) → Carried → Carried
onward f cropped = cropped
onward f (kept l) = f l

-- ---- the entries in turn

-- the size after some entries, and what they made of a place
pub record Tracked : Type 0 where
  pub width : ℕ
  pub height : ℕ
  pub place : Carried

unfoldable pub carry_after : Property → Tracked → Out Tracked
carry_after Property.Other c = Ok c
carry_after (Property.Clap k) c = and_then (resolve_of k c.width c.height) (λ q. Ok (record { width = q.rect.width; height = q.rect.height; place = onward (crop_place q.rect) c.place }))
carry_after (Property.Irot k) c =
    let q = quarter_of k.angle in
    Ok
    (record {
      width = sideways (swaps q) c.width c.height;
      height = sideways (swaps q) c.height c.width;
      place = onward (λ l. kept (turn_place q c.width c.height l)) c.place;
    })
carry_after (Property.Imir k) c = Ok (record { width = c.width; height = c.height; place = onward (λ l. kept (mirror_place (odd k.axis) c.width c.height l)) c.place })
carry_after (Property.Iscl k) c = Err (reason 18)

-- a chain on a place of a picture of that size, under the flag its essential entries alone
unfoldable pub carry_of : List PropertyEntry → Bool → ℕ → ℕ → Place → Out Tracked
carry_of es essential_only width height l = fold_chain carry_after essential_only es (record { width = width; height = height; place = kept l })

-- ---- the rectangle is what stays

-- where a rectangle and a turn carry a place of the rectangle: counted from its corner, left and right exchanged or not, then turned
unfoldable pub forward : Sight → Place → Place
forward s l =
    let r = s.area in
    turn_place (quarter_of s.turns) r.width r.height (exchange s.exchanged r.width (record { x = l.x - r.x; y = l.y - r.y }))

-- a place that is cropped away lies outside the rectangle; one that is kept lies in it, and has come to where the turn carries it
unfoldable pub Fate : Sight → Place → Carried → Type 0
Fate s l cropped = in_rect s.area l ≡ false
Fate s l (kept m) = (in_rect s.area l ≡ true) × (m.x < final_width s) × (m.y < final_height s) × (forward s l ≡ m)

-- one rectangle, which lies in the picture w by h, and one of eight turns; its sides, swapped at 1 or 3 turns, are the final size
pub record Follows (w h : ℕ) (l : Place) (s : Sight) (c : Tracked) : Type 0 where
  pub inside : Inside s.area w h
  pub turns : s.turns < 4
  pub width : c.width ≡ final_width s
  pub height : c.height ≡ final_height s
  pub fate : Fate s l c.place
