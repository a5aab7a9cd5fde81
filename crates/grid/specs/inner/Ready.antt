-- What holds of a grid's tiles that were taken.
use Rattle.std.specs.Prelude.{Ok}
use Rattle.std.specs.Prelude.{List, ◌≡◌, ◌*◌, ◌<◌, ◌≤◌, ℕ, get_or}
use Rattle.image.specs.Sound.{FormSound}
use Rattle.records.specs.inner.Placed.{Sound}
use Rattle.records.specs.Tray.{frames_at, no_frame}
use Rattle.image.specs.declared.format.Form.{Form}
use Rattle.grid.specs.Run.{frames_in}
use Rattle.tiles.specs.Tiles.{canvas_form, count_of}
use Rattle.tiles.specs.declared.judge.Tiles.{Tiles}

-- a tile's form beside the first's
pub record Alike (t m : Form) : Type 0 where
  pub width : m.width ≡ t.width
  pub height : m.height ≡ t.height
  pub chroma : m.format.chroma ≡ t.format.chroma
  pub depth : m.format.depth ≡ t.format.depth

pub record TilesTaken (tray : List ℕ) (t : Tiles) : Type 0 where
  pub taken : frames_at (count_of t.desc) tray t.first ≡ Ok (frames_in tray t)
  pub rows : (1 ≤ t.desc.rows) × (t.desc.rows ≤ 256)
  pub columns : (1 ≤ t.desc.columns) × (t.desc.columns ≤ 256)
  pub canvas : FormSound (canvas_form t.desc t.tile t.alpha)
  pub tile : FormSound t.tile
  pub cover_x : t.desc.output_width ≤ t.tile.width * t.desc.columns
  pub cover_y : t.desc.output_height ≤ t.tile.height * t.desc.rows
  pub sound : (i : ℕ) → i < count_of t.desc → Sound tray (get_or (frames_in tray t) i no_frame)
  pub alike : (i : ℕ) → i < count_of t.desc → Alike t.tile (get_or (frames_in tray t) i no_frame).form
  pub alpha : (i : ℕ) → i < count_of t.desc → (get_or (frames_in tray t) i no_frame).form.format.alpha ≤ t.alpha
