-- Forms whose halved sides are even.
use Rattle.std.specs.Prelude.{Bool, false, true, ◌≡◌, ◌%◌, ℕ}
use Rattle.image.specs.Format.{halves_x, halves_y}
use Rattle.image.specs.declared.format.Form.{Form}

-- a side or an offset along an axis: even where the axis is halved, so that no chroma sample reaches across it
unfoldable pub Evenly : Bool → ℕ → Type 0
Evenly true n = n % 2 ≡ 0
Evenly false n = Unit {0}

-- a halved axis has an even side
pub record Even (m : Form) : Type 0 where
  pub even_x : Evenly (halves_x m.format) m.width
  pub even_y : Evenly (halves_y m.format) m.height
