-- What the rows of a tile and a canvas ask of their bytes.
use Rattle.std.specs.Prelude.{Bool, false, true, List, ◌≡◌, ◌≤◌, ℕ}
use Rattle.image.specs.Format.{is_mono}
use Rattle.image.specs.Sound.{FormSound}
use Rattle.image.specs.declared.format.Form.{Form}
use Rattle.records.specs.declared.record.Frame.{Frame}
use Rattle.records.specs.inner.Placed.{Sound}
use Rattle.planes.specs.Bytes.{size_of}
use Rattle.cells.specs.Cell.{tile_form}

-- a tile for a canvas: its record is sound, its depth and its chroma are the canvas's, and so is its alpha if it has one
pub record FitsCanvas (s : List ℕ) (fr : Frame) (c : Form) (promoted : Bool) (n : ℕ) : Type 0 where
  pub sound : Sound s fr
  pub canvas : FormSound c
  pub chroma : c.format.chroma ≡ (tile_form promoted fr.form).format.chroma
  pub depth : c.format.depth ≡ fr.form.format.depth
  pub alpha : fr.form.format.alpha ≤ c.format.alpha
  pub colour : promoted ≡ true → is_mono fr.form.format ≡ false
  pub room : size_of c ≤ n
