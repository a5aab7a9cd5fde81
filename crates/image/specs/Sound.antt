-- What holds of a size and a form that were taken.
use Rattle.std.specs.Prelude.{◌*◌, ◌^◌, ◌≤◌}
use Rattle.image.specs.declared.format.Form.{Form}
use Rattle.image.specs.declared.size.Size.{Size}

-- a size that a picture may have
pub record SizeSound (z : Size) : Type 0 where
  pub wide : 1 ≤ z.width
  pub tall : 1 ≤ z.height
  pub area : z.width * z.height ≤ 2 ^ 30

pub record FormSound (m : Form) : Type 0 where
  pub chroma : m.format.chroma ≤ 3
  pub low : 8 ≤ m.format.depth
  pub high : m.format.depth ≤ 16
  pub alpha : m.format.alpha ≤ 1
  pub wide : 1 ≤ m.width
  pub tall : 1 ≤ m.height
  pub area : m.width * m.height ≤ 2 ^ 30
