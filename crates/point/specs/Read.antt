-- What document 01 reads at an input and a spot ("Point call").
use Rattle.std.specs.Prelude.{List, ◌<◌, min, ℕ, length, Ok, Err, Option}
use Rattle.laws.specs.Out.{Out}
use Rattle.laws.specs.Pick.{pick}
use Rattle.image.specs.Format.{has_alpha, top_of}
use Rattle.image.specs.declared.format.Part.{Part}
use Rattle.image.specs.declared.format.Part.TheVariants.{Alpha, Cb, Cr, Luma}
use Rattle.records.specs.Tray.{records_in}
use Rattle.planes.specs.Bytes.{input_in}
use Rattle.planes.specs.Picture.{Pic, full}
use Rattle.fill.specs.declared.Nclx.{Nclx}
use Rattle.derived.specs.Overlay.{overlay_of}
use Rattle.derived.specs.declared.overlay.OverlayDescriptor.{OverlayDescriptor}
use Rattle.inputs.specs.Inputs.{first_format}
use Rattle.overlay.specs.Run.{fill_for}
use Rattle.point.specs.declared.Named.{Named}
use Rattle.point.specs.declared.Spot.{Spot}

-- colour is read at the spot's covering sample, 2 ^ (depth − 1) for the chroma that mono has not; alpha is the input's, or top where
-- it has none
unfoldable pub read_at : Pic → Part → ℕ → ℕ → ℕ
read_at P Luma x y = full P Luma x y
read_at P Cb x y = full P Cb x y
read_at P Cr x y = full P Cr x y
read_at P Alpha x y = pick (has_alpha P.form.format) (P.at Alpha x y) (top_of P.form.format)

-- grid samples come as they are; a grid's canvas has no fill
unfoldable pub grid_reads : List ℕ → Named → Part → ℕ
grid_reads tray Named.Fill p = 0
grid_reads tray (Named.Spot k) p = read_at (input_in tray k.input) p k.x k.y

-- the fill of a body's canvas; none is read where the body is refused
unfoldable pub canvas_fill_of : Out OverlayDescriptor → ℕ → Option Nclx → Part → ℕ
canvas_fill_of (Err r) depth colour p = 0
canvas_fill_of (Ok d) depth colour p = fill_for d.canvas_fill depth colour p

-- the canvas fill and the fill alpha, or the input's sample, capped at top
unfoldable pub overlay_reads : List ℕ → List ℕ → Option Nclx → Named → Part → ℕ
overlay_reads body tray colour Named.Fill p = canvas_fill_of (overlay_of body (length (records_in tray))) (first_format (records_in tray)).depth colour p
overlay_reads body tray colour (Named.Spot k) p = min (read_at (input_in tray k.input) p k.x k.y) (top_of (first_format (records_in tray)))

-- a spot of an input of the tray
pub record InTray (tray : List ℕ) (k : Spot) : Type 0 where
  pub input : k.input < length (records_in tray)
  pub across : k.x < (input_in tray k.input).form.width
  pub down : k.y < (input_in tray k.input).form.height
