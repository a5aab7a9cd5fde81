-- What a property makes of a form, and whether a sight can hold it.
use Rattle.std.specs.Prelude.{Ok}
use Rattle.std.specs.Prelude.{Bool, ◌&&◌, false, not, true}
use Rattle.laws.specs.Out.{Out, and_then}
use Rattle.laws.specs.Pick.{pick}
use Rattle.image.specs.Format.{needs444, odd, sized}
use Rattle.image.specs.declared.format.Form.{Form}
use Rattle.sizes.specs.Aperture.{resolve_of}
use Rattle.sizes.specs.Scale.{scale_of}
use Rattle.props.specs.declared.entry.Property.{Property}
use Rattle.motions.specs.Turn.{quarter_of}
use Rattle.motions.specs.inner.Moves.{crop_move, turn_form}

-- the form after a property
unfoldable pub form_after : Property → Form → Out Form
form_after Property.Other m = Ok m
form_after (Property.Clap c) m = and_then (resolve_of c m.width m.height) (λ k. Ok (crop_move m k.rect).form)
form_after (Property.Irot k) m = Ok (turn_form m (quarter_of k.angle))
form_after (Property.Imir k) m = Ok m
form_after (Property.Iscl k) m = and_then (scale_of k m.width m.height) (λ z. Ok (sized m z.width z.height))

-- any other property draws nothing
unfoldable pub moves : Property → Bool
moves Property.Other = false
moves (Property.Clap c) = true
moves (Property.Irot k) = true
moves (Property.Imir k) = true
moves (Property.Iscl k) = true

-- a scaling
unfoldable pub scales : Property → Bool
scales Property.Other = false
scales (Property.Clap c) = false
scales (Property.Irot k) = false
scales (Property.Imir k) = false
scales (Property.Iscl k) = true

-- no halved side is odd
unfoldable pub is_even : Form → Bool
is_even m = not (needs444 m.format (odd m.width) (odd m.height))

-- whether a sight can hold what a property makes of a form: a mirror moves the chroma of an odd side otherwise than its pixels
unfoldable pub is_held : Property → Form → Bool
is_held p m = not (scales p) && is_even m

-- whether a property that draws begins a drawing: one that a sight can hold is drawn with those before it
unfoldable pub begins : Property → Form → Bool → Bool
begins p m shown = moves p && not (shown && is_held p m)

-- whether what is reached is what a sight shows, not drawn yet
unfoldable pub shown_after : Property → Form → Bool → Bool
shown_after p m shown = pick (moves p) (is_held p m) shown
