-- The composed picture of a grid or an overlay that was taken has a sound form and samples that fit their bytes.
use Rattle.std.specs.Prelude.{Ok, Option}
use mathlib.Core.Bool.{Bool, false, true}
use mathlib.Core.List.{List}
use mathlib.Core.Path.{◌≡◌, refl}
use Prim.Native.Nat.{◌-◌, ◌<◌, ◌^◌, ◌≤◌, ℕ}
use native.Mathlib.Omega.{arith}
use lib.Dec.{leb}
use lib.ListN.{get_or-eq_default, get_or}
use lib.Pow.{pow_mono, pow_pos}
use borrow.Author.Tests.{le-leb, leb-true}
use Rattle.laws.proofs.Order.{by_order, by-test, pick-both, pick-false, pick-le, pick_true}
use Rattle.laws.proofs.Out.{then-done}
use Rattle.laws.specs.Pick.{pick}
use Rattle.laws.specs.Puts.{Bytes}
use Rattle.numbers.specs.Number.{on_number, read_number}
use Rattle.image.proofs.FormLaws.{bytes-cases, bytes-few}
use Rattle.records.proofs.TrayLaws.{frames-length}
use Rattle.image.specs.Format.{as444, bytes_of, has_part, middle_of, top_of}
use Rattle.records.specs.Record.{data_of, plane_of}
use Rattle.image.specs.Sound.{FormSound}
use Rattle.records.specs.Tray.{no_form, no_frame}
use Rattle.image.specs.declared.format.Form.{Form}
use Rattle.image.specs.declared.format.Part.{Part}
use Rattle.image.specs.declared.format.Part.TheVariants.{Alpha, Cb, Cr, Luma}
use Rattle.image.specs.declared.format.PixelFormat.{PixelFormat}
use Rattle.records.specs.declared.record.Frame.{Frame}
use Rattle.planes.proofs.ByteLaws.{data-bytes, sample-small}
use Rattle.planes.specs.inner.InRange.{InRange}
use Rattle.planes.specs.Bytes.{decode, picture_in, sample_in}
use Rattle.planes.specs.Picture.{Pic, full, pixel, promote}
use Rattle.fill.specs.declared.Nclx.{Nclx}
use Rattle.derived.proofs.Taken.{overlay-fill}
use Rattle.grid.proofs.Composed.{canvas-depth}
use Rattle.grid.proofs.GridLaws.{tiles-taken}
use Rattle.cells.specs.Cell.{tile_pic}
use Rattle.grid.specs.Mosaic.{grid_pic, mosaic_at, opaque_at}
use Rattle.grid.specs.Run.{frames_in, grid_on}
use Rattle.tiles.specs.Tiles.{canvas_form, count_of, tiles_at, tiles_of}
use Rattle.tiles.specs.declared.judge.Tiles.{Tiles}
use Rattle.grid.specs.inner.Ready.{TilesTaken}
use Rattle.inputs.specs.Inputs.{Inputs, composed_form, first_format, inputs_at}
use Rattle.inputs.specs.Layers.{overlay_form}
use Rattle.inputs.specs.inner.Plan.{plan_at, plan_of}
use Rattle.overlay.proofs.RunLaws.{plan-taken, took}
use Rattle.overlay.proofs.Sentences.{fill-low}
use Rattle.blend.specs.Overlay.{final_sample, overlay_pic, place_at, unpremultiply}
use Rattle.overlay.specs.Run.{composed}

-- ---- what fits the bytes of a sample of a depth

record Fits (depth v : ℕ) : Type 0 where
  one : depth ≤ 8 → v < 256
  two : v < 65536

bytes_fit : (f : PixelFormat) (v : ℕ) → v < 256 ^ bytes_of f → Fits f.depth v
unfolding bytes_of
bytes_fit f v h =
    record {
      one = λ l. let k : v < 256 ^ 1 = rw (pick_true {A = ℕ} (leb f.depth 8) 1 2 (le-leb f.depth 8 l)) at h in omega arith;
      two = bytes-cases f (λ e. let k : v < 256 ^ 1 = rw e at h in omega arith) (λ e. let k : v < 256 ^ 2 = rw e at h in omega arith);
    }

fit-bytes : (f : PixelFormat) (v : ℕ) → Fits f.depth v → v < 256 ^ bytes_of f
unfolding bytes_of
fit-bytes f v k =
    by-test (leb f.depth 8)
    (λ e. let l = k.one (leb-true _ _ e) in rw (pick_true {A = ℕ} (leb f.depth 8) 1 2 e) (omega arith))
    (λ e. let l = k.two in rw (pick-false {A = ℕ} (leb f.depth 8) 1 2 e) (omega arith))

fit-more : (d e v : ℕ) → d ≤ e → Fits d v → Fits e v
fit-more d e v h k = record { one = λ l. k.one (omega arith); two = k.two }

fit-least : (d v w : ℕ) → v ≤ w → Fits d w → Fits d v
fit-least d v w h k = record { one = λ l. let a = k.one l in omega arith; two = let a = k.two in omega arith }

top-fits : (d : ℕ) → d ≤ 16 → Fits d (2 ^ d - 1)
top-fits d h =
    let p : 1 ≤ 2 ^ d = pow_pos d in
    record {
      one = λ l. let a : 2 ^ d ≤ 2 ^ 8 = pow_mono l in omega arith;
      two = let a : 2 ^ d ≤ 2 ^ 16 = pow_mono h in omega arith;
    }

middle-fits : (d : ℕ) → d ≤ 16 → Fits d (2 ^ (d - 1))
middle-fits d h =
    record {
      one = λ l. let a : 2 ^ (d - 1) ≤ 2 ^ 7 = pow_mono {j = 7} (omega arith) in omega arith;
      two = let a : 2 ^ (d - 1) ≤ 2 ^ 15 = pow_mono {j = 15} (omega arith) in omega arith;
    }

-- ---- a tile

-- every sample that a record of bytes shows, in range or not
decode-fits : (s : List ℕ) (fr : Frame) → Bytes s → (p : Part) (x y : ℕ) → Fits fr.form.format.depth ((decode s fr).at p x y)
unfolding decode sample_in
decode-fits s fr b p x y =
    let few = bytes-few fr.form.format in
    bytes_fit fr.form.format _ (sample-small (data_of s (plane_of fr p)) (bytes_of fr.form.format) _ (data-bytes s (plane_of fr p) b) few.0 few.1)

-- promoted or as it is, with alpha at top where it has none
tile-fits : (b : Bool) (P : Pic) (p : Part) (x y : ℕ) → P.form.format.depth ≤ 16 → ((u v : ℕ) → Fits P.form.format.depth (P.at p u v))
    → Fits P.form.format.depth (opaque_at (tile_pic b P) p x y)
unfolding opaque_at tile_pic pick promote as444 full pixel top_of middle_of
tile-fits true P p x y h k =
    pick-both (Fits P.form.format.depth) (has_part (promote P).form.format p) _ _
    (pick-both (Fits P.form.format.depth) (has_part P.form.format p) _ _ (k _ _) (middle-fits _ h)) (top-fits _ h)
tile-fits false P p x y h k = pick-both (Fits P.form.format.depth) (has_part P.form.format p) _ _ (k x y) (top-fits _ h)

-- ---- one record

pub record-in-range : (s : List ℕ) (fr : Frame) → Bytes s → FormSound fr.form → InRange (decode s fr)
unfolding decode
record-in-range s fr b ok = record { sound = ok; small = λ p h x y i j. fit-bytes fr.form.format _ (decode-fits s fr b p x y) }

-- ---- the grid

none-depth : no_frame.form.format.depth ≡ 0
unfolding no_frame no_form
none-depth = refl

module _ (tray : List ℕ) (t : Tiles) (ok : TilesTaken tray t) (small : Bytes tray) where
  abbrev canvas : Form
  canvas = canvas_form t.desc t.tile t.alpha

  -- every tile has the canvas's depth, and there is none past the last
  depth-of : (i : ℕ) → (get_or (frames_in tray t) i no_frame).form.format.depth ≤ canvas.format.depth
  depth-of i =
      let n = frames-length (count_of t.desc) tray t.first (frames_in tray t) ok.taken in
      let e = canvas-depth t.desc t.tile t.alpha in
      by_order i (count_of t.desc)
      (λ h. let d = (ok.alike i h).depth in omega arith)
      (λ h. let d = none-depth in rw (get_or-eq_default (frames_in tray t) no_frame {n = i} (omega arith)) (omega arith))

  tile-in-fits : (i : ℕ) (b : Bool) (p : Part) (x y : ℕ) → Fits canvas.format.depth (opaque_at (tile_pic b (picture_in tray (frames_in tray t) i)) p x y)
  unfolding picture_in decode
  tile-in-fits i b p x y =
      let fr = get_or (frames_in tray t) i no_frame in
      let d = depth-of i in
      let c = ok.canvas.high in
      fit-more _ _ _ d (tile-fits b (decode tray fr) p x y (omega arith) (λ u v. decode-fits tray fr small p u v))

  taken-in-range : InRange (grid_on tray t)
  unfolding grid_on grid_pic mosaic_at
  taken-in-range =
      record {
        sound = ok.canvas;
        small = λ p h x y i j. fit-bytes canvas.format _ (tile-in-fits _ _ p _ _);
      }

tiles-at : (body tray : List ℕ) (n at : ℕ) (t : Tiles) → read_number tray 0 ≡ Ok (n, at) → tiles_at body tray n at ≡ Ok t → tiles_of body tray ≡ Ok t
unfolding tiles_of on_number
tiles-at body tray n at t c e = rw c e

pub grid-in-range : (body tray : List ℕ) (n at : ℕ) (t : Tiles) → Bytes body → Bytes tray → read_number tray 0 ≡ Ok (n, at) → tiles_at body tray n at ≡ Ok t → InRange (grid_on tray t)
grid-in-range body tray n at t small bytes c e = taken-in-range tray t (tiles-taken body tray t small (tiles-at body tray n at t c e)) bytes

-- ---- the overlay

inputs-fill : (body tray list : List ℕ) (n at : ℕ) (q : Inputs) → Bytes body → inputs_at body tray list n at ≡ Ok q → q.descriptor.canvas_fill.alpha ≤ 65535
inputs-fill body tray list n at q small e = overlay-fill body n q.descriptor small (took body tray list n at q e).body-read

form-taken : (body tray list : List ℕ) (colour : Option Nclx) (n at : ℕ) (q : Inputs) → read_number tray 0 ≡ Ok (n, at) → inputs_at body tray list n at ≡ Ok q → FormSound (composed_form body tray list q)
unfolding plan_at plan_of
form-taken body tray list colour n at q c e = (plan-taken body tray list colour 0 n at c (plan_of body tray list at q) (then-done _ e)).sound.form

-- a sample is the fill's, or lying to top
settled-low : (top : ℕ) (p : Part) (fill v a : ℕ) → fill ≤ top → final_sample top p fill v a ≤ top
unfolding final_sample unpremultiply
settled-low top Luma fill v a h = pick-le _ fill _ top h (omega arith)
settled-low top Cb fill v a h = pick-le _ fill _ top h (omega arith)
settled-low top Cr fill v a h = pick-le _ fill _ top h (omega arith)
settled-low top Alpha fill v a h = omega arith

pub overlay-in-range : (body tray premultiplied : List ℕ) (colour : Option Nclx) (n at : ℕ) (q : Inputs) → Bytes body → read_number tray 0 ≡ Ok (n, at) → inputs_at body tray premultiplied n at ≡ Ok q
    → InRange (composed body tray premultiplied colour q)
unfolding composed overlay_pic place_at composed_form overlay_form top_of
overlay-in-range body tray premultiplied colour n at q small c e =
    let m = form-taken body tray premultiplied colour n at q c e in
    let d = (first_format q.frames).depth in
    let low = fill-low q.descriptor.canvas_fill d colour (inputs-fill body tray premultiplied n at q small e) m.low m.high in
    record {
      sound = m;
      small = λ p h x y i j. fit-bytes _ _ (fit-least d _ (2 ^ d - 1) (settled-low (2 ^ d - 1) p _ _ _ (low p)) (top-fits d m.high));
    }
