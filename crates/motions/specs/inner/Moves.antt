-- The moves of a crop, a turn and a mirror of a form.
use Rattle.std.specs.Prelude.{Bool, ◌||◌, false, not, true, ◌-◌, ℕ}
use Rattle.laws.specs.Pick.{pick}
use Rattle.image.specs.Format.{as444, needs444, odd, sized}
use Rattle.image.specs.declared.format.Form.{Form}
use Rattle.sizes.specs.declared.clap.CropRect.{CropRect}
use Rattle.moves.specs.declared.walk.Axis.{Axis}
use Rattle.moves.specs.declared.walk.Move.{Move}
use Rattle.motions.specs.Turn.{Quarter, lopsided, q0, q1, q2, q3}

-- the form promoted or not
unfoldable pub form_with : Bool → Form → Form
form_with promoted m = pick promoted (as444 m) m

-- from one end of n places to the other
unfoldable pub end_axis : Bool → ℕ → Axis
end_axis back n = record { from = pick back (n - 1) 0; back = back }

unfoldable pub crop_with : Bool → Form → CropRect → Move
crop_with b m r = record {
  form = sized (form_with b m) r.width r.height;
  promoted = b;
  swapped = false;
  across = record { from = r.x; back = false };
  down = record { from = r.y; back = false };
}

unfoldable pub crop_move : Form → CropRect → Move
crop_move m r = crop_with (needs444 m.format (odd r.x || odd r.width) (odd r.y || odd r.height)) m r

-- a quarter turn one way or the other: the columns run down, the rows across
unfoldable pub quarter_with : Bool → Form → Bool → Bool → Move
quarter_with b m left up = record {
  form = sized (form_with b m) m.height m.width;
  promoted = b;
  swapped = true;
  across = end_axis left m.width;
  down = end_axis up m.height;
}

unfoldable pub quarter_move : Form → Bool → Bool → Move
quarter_move m left up = quarter_with (needs444 m.format (lopsided m.format || odd m.width) (lopsided m.format || odd m.height)) m left up

-- a half turn
unfoldable pub half_with : Bool → Form → Move
half_with b m = record {
  form = sized (form_with b m) m.width m.height;
  promoted = b;
  swapped = false;
  across = end_axis true m.width;
  down = end_axis true m.height;
}

unfoldable pub half_move : Form → Move
half_move m = half_with (needs444 m.format (odd m.width) (odd m.height)) m

-- the form of a turn
unfoldable pub turn_form : Form → Quarter → Form
turn_form m q0 = m
turn_form m q1 = (quarter_move m true false).form
turn_form m q2 = (half_move m).form
turn_form m q3 = (quarter_move m false true).form

-- a picture as it is
unfoldable pub still_move : Form → Move
still_move m = record { form = m; promoted = false; swapped = false; across = end_axis false m.width; down = end_axis false m.height }

unfoldable pub mirror_move : Form → Bool → Move
mirror_move m sideways = record {
  form = m;
  promoted = false;
  swapped = false;
  across = end_axis sideways m.width;
  down = end_axis (not sideways) m.height;
}
