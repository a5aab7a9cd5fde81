-- What a sight shows of a picture, as one move of it.
use Rattle.std.specs.Prelude.{Bool, false, not, true, ◌≡◌, ◌+◌, ◌-◌, ◌<◌, ℕ, eqb}
use Rattle.laws.specs.Pick.{pick}
use Rattle.image.specs.Format.{as444, halves_x, halves_y, has_part}
use Rattle.image.specs.Sound.{FormSound}
use Rattle.image.specs.declared.format.Form.{Form}
use Rattle.image.specs.declared.format.Part.{Part}
use Rattle.planes.specs.Picture.{Pic}
use Rattle.sizes.specs.Sound.{Inside}
use Rattle.moves.specs.inner.Move.{moved}
use Rattle.moves.specs.declared.walk.Axis.{Axis}
use Rattle.moves.specs.declared.walk.Move.{Move}
use Rattle.motions.specs.Place.{swaps}
use Rattle.motions.specs.Turn.{Quarter, q0, q1, q2, q3, quarter_of}
use Rattle.sight.specs.Sight.{final_height, final_width}
use Rattle.sight.specs.declared.Sight.{Sight}

-- so many places from one on, or from the last of them back
unfoldable pub sight_axis : Bool → ℕ → ℕ → Axis
sight_axis back from size = record { from = pick back (from + size - 1) from; back = back }

-- whether turns alone walk the columns from the right, and the rows from the bottom
unfoldable pub turns_left : Quarter → Bool
turns_left q0 = false
turns_left q1 = true
turns_left q2 = true
turns_left q3 = false

unfoldable pub turns_up : Quarter → Bool
turns_up q0 = false
turns_up q1 = false
turns_up q2 = true
turns_up q3 = true

unfoldable pub runs_left : Sight → Bool
runs_left s = pick s.exchanged (not (turns_left (quarter_of s.turns))) (turns_left (quarter_of s.turns))

unfoldable pub runs_up : Sight → Bool
runs_up s = turns_up (quarter_of s.turns)

-- from a form to another, which is promoted where its chroma is not the same
unfoldable pub sight_move : Form → Form → Sight → Move
sight_move m n s = record {
  form = n;
  promoted = not (eqb m.format.chroma n.format.chroma);
  swapped = swaps (quarter_of s.turns);
  across = sight_axis (runs_left s) s.area.x s.area.width;
  down = sight_axis (runs_up s) s.area.y s.area.height;
}

unfoldable pub shown : Form → Sight → Pic → Pic
shown n s P = moved (sight_move P.form n s) P

-- what chains make of a format: none is promoted and turned over only where both axes are halved alike, or it is promoted
pub data Reached (m n : Form) (s : Sight) : Type 0 where
  kept : n.format ≡ m.format → (swaps (quarter_of s.turns) ≡ true → halves_x m.format ≡ halves_y m.format) → Reached m n s
  promoted : n.format ≡ (as444 m).format → Reached m n s

-- a sight of a form, and the form of what it shows
pub record Shown (m n : Form) (s : Sight) : Type 0 where
  pub from : FormSound m
  pub sound : FormSound n
  pub inside : Inside s.area m.width m.height
  pub turns : s.turns < 4
  pub width : n.width ≡ final_width s
  pub height : n.height ≡ final_height s
  pub depth : n.format.depth ≡ m.format.depth
  pub parts : (p : Part) → has_part n.format p ≡ has_part m.format p
  pub reached : Reached m n s
