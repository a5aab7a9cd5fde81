-- What a chain without scaling leaves of a picture: a rectangle of it, its left and right exchanged or not, then quarter turns
-- anticlockwise (document 01, "Point call").
use Rattle.std.specs.Prelude.{Ok, Err, Bool, false, not, true, List, ◌%◌, ◌+◌, ◌-◌, ◌^◌, ℕ, leb}
use Rattle.laws.specs.Out.{Out, and_then, reason, refuse}
use Rattle.image.specs.Format.{odd}
use Rattle.sizes.specs.Aperture.{resolve_of}
use Rattle.props.specs.Chain.{fold_chain}
use Rattle.sizes.specs.declared.clap.Crop.{Crop}
use Rattle.sizes.specs.declared.clap.CropRect.{CropRect}
use Rattle.props.specs.declared.entry.Property.{Property}
use Rattle.props.specs.declared.entry.PropertyEntry.{PropertyEntry}
use Rattle.motions.specs.Place.{Place, sideways, swaps, unturn}
use Rattle.motions.specs.Turn.{Quarter, q0, q1, q2, q3, quarter_of}
use Rattle.sight.specs.declared.CanvasPlace.{CanvasPlace}
use Rattle.sight.specs.declared.Sight.{Sight}

-- the empty chain's: a whole picture of that size as it is
unfoldable pub whole : ℕ → ℕ → Sight
whole width height = record { area = record { x = 0; y = 0; width = width; height = height }; exchanged = false; turns = 0 }

-- the final size: the rectangle's sides, swapped at 1 or 3 turns
unfoldable pub wide_of : Quarter → CropRect → ℕ
wide_of q r = sideways (swaps q) r.width r.height

unfoldable pub high_of : Quarter → CropRect → ℕ
high_of q r = sideways (swaps q) r.height r.width

unfoldable pub final_width : Sight → ℕ
final_width s = wide_of (quarter_of s.turns) s.area

unfoldable pub final_height : Sight → ℕ
final_height s = high_of (quarter_of s.turns) s.area

-- ---- places

-- left and right exchanged, in a picture of that width
unfoldable pub exchange : Bool → ℕ → Place → Place
exchange true w l = record { x = w - 1 - l.x; y = l.y }
exchange false w l = l

-- the place of the picture that a final place shows: the turns undone, then the exchange, then the rectangle's corner added
unfoldable pub back_from : CropRect → Bool → Quarter → ℕ → ℕ → Place
back_from r m q x y =
    let l = exchange m r.width (unturn q r.width r.height x y) in
    record { x = r.x + l.x; y = r.y + l.y }

unfoldable pub back : Sight → ℕ → ℕ → Place
back s x y = back_from s.area s.exchanged (quarter_of s.turns) x y

-- the same, refused 18 for a place outside
unfoldable pub source_place : Sight → ℕ → ℕ → Out Place
source_place s x y = refuse (leb (final_width s) x) 18 (refuse (leb (final_height s) y) 18 (Ok (back s x y)))

-- the same for any numbers: before it, 18 a far edge of the rectangle that is no 32-bit number, which no chain leaves
unfoldable pub bounded_source : Sight → ℕ → ℕ → Out Place
bounded_source s x y =
    refuse (leb (2 ^ 32) (s.area.x + s.area.width)) 18
    (refuse (leb (2 ^ 32) (s.area.y + s.area.height)) 18
    (source_place s x y))

-- ---- what an entry makes of a sight

-- a crop before a quarter turn: its margins turn with it, so that left was bottom, top was left, right was top, bottom was right
-- (document 02, A1)
unfoldable pub quarter_back : Crop → Crop
quarter_back k = record {
  rect = record { x = k.margins.bottom; y = k.margins.left; width = k.rect.height; height = k.rect.width };
  margins = record { left = k.margins.bottom; top = k.margins.left; right = k.margins.top; bottom = k.margins.right };
}

-- a crop of the final picture before the turns, and before the exchange
unfoldable pub unturn_crop : Quarter → Crop → Crop
unturn_crop q0 k = k
unturn_crop q1 k = quarter_back k
unturn_crop q2 k = quarter_back (quarter_back k)
unturn_crop q3 k = quarter_back (quarter_back (quarter_back k))

unfoldable pub exchange_crop : Bool → Crop → Crop
exchange_crop true k = record {
  rect = record { x = k.margins.right; y = k.rect.y; width = k.rect.width; height = k.rect.height };
  margins = record { left = k.margins.right; top = k.margins.top; right = k.margins.left; bottom = k.margins.bottom };
}
exchange_crop false k = k

-- the rectangle d of the rectangle r
unfoldable pub within : CropRect → CropRect → CropRect
within r d = record { x = r.x + d.x; y = r.y + d.y; width = d.width; height = d.height }

unfoldable pub crop_from : CropRect → Bool → Quarter → Crop → CropRect
crop_from r m q k = within r (exchange_crop m (unturn_crop q k)).rect

-- clap: the rectangle of what is seen stays
unfoldable pub then_crop : Sight → Crop → Sight
then_crop s k = record { area = crop_from s.area s.exchanged (quarter_of s.turns) k; exchanged = s.exchanged; turns = s.turns }

-- irot: so many quarter turns more
unfoldable pub then_turn : Sight → ℕ → Sight
then_turn s angle = record { area = s.area; exchanged = s.exchanged; turns = (s.turns + angle) % 4 }

-- imir: both exchange; left and right (true) turns t into −t, top and bottom turns t into 2 − t
unfoldable pub mirror_turns : Bool → ℕ → ℕ
mirror_turns true t = (4 - t % 4) % 4
mirror_turns false t = (6 - t % 4) % 4

unfoldable pub then_mirror : Sight → Bool → Sight
then_mirror s b = record { area = s.area; exchanged = not s.exchanged; turns = mirror_turns b s.turns }

-- an applied entry: a clap's rectangle is that of the current final size, with its refusals; an iscl is refused 18
unfoldable pub sight_after : Property → Sight → Out Sight
sight_after Property.Other s = Ok s
sight_after (Property.Clap c) s = and_then (resolve_of c (final_width s) (final_height s)) (λ k. Ok (then_crop s k))
sight_after (Property.Irot k) s = Ok (then_turn s k.angle)
sight_after (Property.Imir k) s = Ok (then_mirror s (odd k.axis))
sight_after (Property.Iscl k) s = Err (reason 18)

-- a chain on a picture of that size, under the flag its essential entries alone
unfoldable pub sight_of : List PropertyEntry → Bool → ℕ → ℕ → Out Sight
sight_of es essential_only width height = fold_chain sight_after essential_only es (whole width height)

-- ---- what the code answers

abbrev pub place_out : Out CanvasPlace → Out Place
place_out (Ok l) = Ok (record { x = l.x; y = l.y })
place_out (Err e) = Err e
