-- The composed grid reads, at each place of its canvas, what is read at the tile and the spot that the place names; no two places name
-- one spot; its halved sides are even.
use Rattle.std.specs.Prelude.{Ok}
use mathlib.Core.Bool.{Bool, false, true}
use mathlib.Core.List.{List, [], ◌∷◌}
use mathlib.Core.Path.{◌∙◌, ◌≡◌, ap, ap₂, refl, sym}
use Prim.Native.Nat.{◌%◌, ◌*◌, ◌+◌, ◌-◌, ◌/◌, ◌<◌, ◌^◌, ℕ}
use native.Mathlib.Nat.{div-add-mod, div-div-eq-div-mul, mod-lt}
use native.Mathlib.Omega.{arith}
use lib.Arith.{digits_div, digits_lt, digits_mod}
use lib.ListN.{get_or, length}
use borrow.Author.Tests.{eqb-true, not-false}
use Rattle.laws.proofs.Order.{by-test, or_left, or_right, pick-false, pick_true}
use Rattle.laws.proofs.Out.{and_then-done, done-same, not_done, refuse-done}
use Rattle.laws.specs.Pick.{pick}
use Rattle.numbers.specs.Number.{read_number}
use Rattle.image.proofs.FormLaws.{like-halved}
use Rattle.planes.proofs.PictureLaws.{even_x-of, even_y-of, evenly-part, full-pixel, promote-pixel}
use Rattle.records.proofs.TrayLaws.{frames-length, tray-number}
use Rattle.planes.specs.Bytes.{decode, picture_in, input_in}
use Rattle.image.specs.Format.{columns_of, cover, half_x, half_y, halved, halves_x, halves_y, has_alpha, has_part, is_mono, middle_of, rows_of, side_of, top_of, as444, needs444, odd, sized, with_alpha}
use Rattle.planes.specs.Picture.{Pic, full, pixel}
use Rattle.planes.specs.inner.Even.{Even, Evenly}
use Rattle.image.specs.Sound.{FormSound}
use Rattle.records.specs.Tray.{frames_at, no_frame, taken_of, records_in}
use Rattle.image.specs.declared.format.Form.{Form}
use Rattle.image.specs.declared.format.Part.{Part}
use Rattle.image.specs.declared.format.Part.TheVariants.{Alpha, Cb, Cr, Luma}
use Rattle.image.specs.declared.format.PixelFormat.{PixelFormat}
use Rattle.records.specs.declared.record.Frame.{Frame}
use Rattle.derived.specs.declared.grid.GridDescriptor.{GridDescriptor}
use Rattle.motions.specs.Place.{Place}
use Rattle.sight.proofs.Agreement.{covered}
use Rattle.grid.proofs.Composed.{below, canvas-chroma, mono-same, promotes-colour, tile-chroma, tile-depth, tile-width}
use Rattle.cells.proofs.Suited.{tile-parts, tile_pic-form}
use Rattle.cells.specs.Cell.{tile_form, tile_pic}
use Rattle.grid.specs.Mosaic.{grid_pic, mosaic_at, opaque_at, tile_index}
use Rattle.grid.specs.inner.Ready.{Alike, TilesTaken}
use Rattle.grid.specs.Run.{frames_in, grid_on}
use Rattle.tiles.specs.Tiles.{canvas_form, count_of, judge_of, promotes_of, tiles_at}
use Rattle.tiles.specs.declared.judge.Tiles.{Tiles}
use Rattle.point.specs.Read.{InTray, grid_reads, read_at}
use Rattle.point.specs.Point.{grid_names}
use Rattle.point.specs.declared.Named.{Named}
use Rattle.point.specs.declared.Spot.{Spot}

-- ---- along one axis: the tile of the covering sample, and its place in the tile

halves : (n k a b x : ℕ) → k * n + a ≡ x / 2 → 2 * k * n + b ≡ x → a ≡ b / 2
halves n k a b x e f = omega arith

half-mod : (k x : ℕ) → x / 2 % k ≡ x % (2 * k) / 2
half-mod k x = halves (x / (2 * k)) k (x / 2 % k) (x % (2 * k)) x (rw (div-div-eq-div-mul x 2 k) at (div-add-mod (x / 2) k)) (div-add-mod x (2 * k))

tile-axis : (h : Bool) (w x : ℕ) → Evenly h w → (cover h x / side_of h w ≡ x / w) × (cover h x % side_of h w ≡ cover h (x % w))
unfolding Evenly cover side_of
tile-axis false w x e = (refl, refl)
tile-axis true w x e = (div-div-eq-div-mul x 2 k ∙ ap (λ n. x / n) (sym wk), half-mod k x ∙ ap (λ n. x % n / 2) (sym wk))
  where
    k : ℕ
    k = (w + 1) / 2

    wk : w ≡ 2 * k
    wk = omega arith

-- a mosaic of tiles with even sides where they are halved
mosaic-pixel : (T : ℕ → Pic) (columns : ℕ) (m : Form) (p : Part) → Even m → (x y : ℕ)
    → mosaic_at T columns m p (cover (half_x m.format p) x) (cover (half_y m.format p) y)
    ≡ opaque_at (T (y / m.height * columns + x / m.width)) p (cover (half_x m.format p) (x % m.width)) (cover (half_y m.format p) (y % m.height))
unfolding mosaic_at tile_index columns_of rows_of
mosaic-pixel T columns m p e x y =
    let u = tile-axis (half_x m.format p) m.width x (evenly-part _ p _ e.even_x) in
    let v = tile-axis (half_y m.format p) m.height y (evenly-part _ p _ e.even_y) in
    rw (u.0, u.1, v.0, v.1) refl

-- ---- one tile

tile-pixel : (b : Bool) (P : Pic) (p : Part) (x y : ℕ) → has_part P.form.format p ≡ true → pixel (tile_pic b P) p x y ≡ full P p x y
unfolding tile_pic pick
tile-pixel true P p x y h = promote-pixel P p x y
tile-pixel false P p x y h = sym (full-pixel P p h x y)

luma-there : (f : PixelFormat) → has_part f Luma ≡ true
unfolding has_part
luma-there f = refl

cb-there : (f g : PixelFormat) → f.chroma ≡ g.chroma → has_part f Cb ≡ true → has_part g Cb ≡ true
unfolding has_part is_mono
cb-there f g e h = rw (← e) h

cr-there : (f g : PixelFormat) → f.chroma ≡ g.chroma → has_part f Cr ≡ true → has_part g Cr ≡ true
unfolding has_part is_mono
cr-there f g e h = rw (← e) h

has-alpha : (f : PixelFormat) → has_part f Alpha ≡ has_alpha f
unfolding has_part
has-alpha f = refl

module _ (b : Bool) (P : Pic) (f : PixelFormat) (chroma : f.chroma ≡ (tile_pic b P).form.format.chroma) (colour : b ≡ true → is_mono P.form.format ≡ false) (x y : ℕ) where
  has_part_lem : (p : Part) → has_part (tile_pic b P).form.format p ≡ has_part P.form.format p
  has_part_lem p = ap (λ (m : Form). has_part m.format p) (tile_pic-form b P) ∙ tile-parts b P.form colour p

  -- a plane that the tile has
  plane-reads : (p : Part) → has_part P.form.format p ≡ true → opaque_at (tile_pic b P) p (cover (half_x f p) x) (cover (half_y f p) y) ≡ full P p x y
  unfolding opaque_at
  plane-reads p h =
      let k = like-halved f (tile_pic b P).form.format p (sym chroma) in
      pick_true _ _ _ (has_part_lem p ∙ h)
      ∙ covered (tile_pic b P) p _ _ x y (record { across = ap (λ (z : Bool). cover z x) k.0; down = ap (λ (z : Bool). cover z y) k.1 })
      ∙ tile-pixel b P p x y h

  plane-lacks : (p : Part) → has_part P.form.format p ≡ false → opaque_at (tile_pic b P) p (cover (half_x f p) x) (cover (half_y f p) y) ≡ top_of P.form.format
  unfolding opaque_at top_of
  plane-lacks p h = pick-false _ _ _ (has_part_lem p ∙ h) ∙ ap (λ (n : ℕ). 2 ^ n - 1) (ap (λ (m : Form). m.format.depth) (tile_pic-form b P) ∙ tile-depth b P.form)

  alpha-full : full P Alpha x y ≡ pick (has_part P.form.format Alpha) (P.at Alpha x y) (middle_of P.form.format)
  unfolding full pixel halved cover
  alpha-full = refl

  -- every plane of the canvas: colour as it is, alpha the tile's, or top where it has none
  tile-reads : (p : Part) → has_part f p ≡ true → opaque_at (tile_pic b P) p (cover (half_x f p) x) (cover (half_y f p) y) ≡ read_at P p x y
  unfolding read_at
  tile-reads Luma h = plane-reads Luma (luma-there P.form.format)
  tile-reads Cb h = plane-reads Cb (sym (has_part_lem Cb) ∙ cb-there f _ chroma h)
  tile-reads Cr h = plane-reads Cr (sym (has_part_lem Cr) ∙ cr-there f _ chroma h)
  tile-reads Alpha h =
      by-test (has_part P.form.format Alpha)
      (λ e. plane-reads Alpha e ∙ alpha-full ∙ pick_true _ _ _ e ∙ sym (pick_true _ _ _ (sym (has-alpha P.form.format) ∙ e)))
      (λ e. plane-lacks Alpha e ∙ sym (pick-false _ _ _ (sym (has-alpha P.form.format) ∙ e)))

-- ---- the canvas

tile-even : (b : Bool) (m : Form) → (b ≡ false → Even m) → Even (tile_form b m)
unfolding tile_form pick as444 halves_x halves_y Evenly
tile-even true m f = record { even_x = tt; even_y = tt }
tile-even false m f = f refl

alpha-even : (m : Form) (a : ℕ) → Even m → Even (with_alpha m a)
unfolding with_alpha halves_x halves_y
alpha-even m a e = record { even_x = e.even_x; even_y = e.even_y }

-- where nothing is promoted, the sides of tile and canvas are even along a halved axis
sides-even : (f : PixelFormat) (w h : ℕ) → needs444 f (odd w) (odd h) ≡ false → Even (record { width = w; height = h; format = f })
sides-even f w h e = record { even_x = even_x-of f w (odd h) e; even_y = even_y-of f h (odd w) e }

first-even : (g : GridDescriptor) (t : Form) → Even (tile_form (promotes_of g t) t)
unfolding promotes_of
first-even g t = tile-even _ t (λ e. sides-even t.format t.width t.height (or_left _ _ e))

canvas-even : (g : GridDescriptor) (t : Form) (a : ℕ) → Even (canvas_form g t a)
unfolding canvas_form promotes_of sized
canvas-even g t a =
    alpha-even _ a (tile-even (promotes_of g t) (sized t g.output_width g.output_height) (λ e. sides-even t.format g.output_width g.output_height (or_right (needs444 t.format (odd t.width) (odd t.height)) _ e)))

pub canvas-sides : (g : GridDescriptor) (t : Form) (a : ℕ) → ((canvas_form g t a).width ≡ g.output_width) × ((canvas_form g t a).height ≡ g.output_height)
unfolding canvas_form with_alpha sized
canvas-sides g t a = tile-width (promotes_of g t) (sized t g.output_width g.output_height)

pub grid-even : (tray : List ℕ) (t : Tiles) → Even (grid_on tray t).form
unfolding grid_on grid_pic
grid-even tray t = canvas-even t.desc t.tile t.alpha

pub grid-sides : (tray : List ℕ) (t : Tiles) → ((grid_on tray t).form.width ≡ t.desc.output_width) × ((grid_on tray t).form.height ≡ t.desc.output_height)
unfolding grid_on grid_pic
grid-sides tray t = canvas-sides t.desc t.tile t.alpha

-- ---- the tiles are the records of the tray

judge-same : (g : GridDescriptor) (at : ℕ) (frs : List Frame) (t : Tiles) → judge_of g at frs ≡ Ok t → (t.desc ≡ g) × (t.first ≡ at)
unfolding judge_of
judge-same g at [] t e = not_done _ t e
judge-same g at (fr ∷ rest) t e =
    let u = refuse-done _ 12 _ t e in
    let v = and_then-done _ _ t u.1 in
    let w = done-same _ t v.2 in
    (ap (λ (k : Tiles). k.desc) (sym w), ap (λ (k : Tiles). k.first) (sym w))

pub tiles-records : (body tray : List ℕ) (n at : ℕ) (t : Tiles) → read_number tray 0 ≡ Ok (n, at) → tiles_at body tray n at ≡ Ok t → frames_in tray t ≡ records_in tray
unfolding tiles_at frames_in records_in
tiles-records body tray n at t c e =
    let u = and_then-done _ _ t e in
    let v = refuse-done _ 11 _ t u.2 in
    let w = and_then-done _ _ t v.1 in
    let k = judge-same u.0 at w.0 t w.2 in
    let m : n ≡ count_of u.0 = eqb-true _ _ (not-false _ v.0) in
    ap taken_of
    (ap₂ (λ (i j : ℕ). frames_at i tray j) (ap count_of k.0 ∙ sym m) k.1 ∙ sym (tray-number tray n at c))

-- ---- the whole

tile-in-chroma : (tray : List ℕ) (frs : List Frame) (i : ℕ) → (picture_in tray frs i).form.format.chroma ≡ (get_or frs i no_frame).form.format.chroma
unfolding picture_in decode
tile-in-chroma tray frs i = refl

-- a number by its quotient and its remainder
by_digits : (w a b : ℕ) → a / w ≡ b / w → a % w ≡ b % w → a ≡ b
by_digits w a b e f = sym (div-add-mod a w) ∙ ap₂ (λ (q r : ℕ). w * q + r) e f ∙ div-add-mod b w

pub spot-same : (j k : Spot) → Named.Spot j ≡ Named.Spot k → j ≡ k
spot-same j k e = cc

module _ (tray : List ℕ) (t : Tiles) (ok : TilesTaken tray t) where
  abbrev promoted : Bool
  promoted = promotes_of t.desc t.tile

  -- a tile, promoted or as it is
  abbrev shown_tile : ℕ → Pic
  shown_tile i = tile_pic promoted (picture_in tray (frames_in tray t) i)

  -- the canvas's form is sound
  pub grid-form : FormSound (grid_on tray t).form
  unfolding grid_on grid_pic
  grid-form = ok.canvas

  column-in : (x : ℕ) → x < t.desc.output_width → x / t.tile.width < t.desc.columns
  column-in x l = below x _ _ _ l ok.tile.wide ok.cover_x

  row_in : (y : ℕ) → y < t.desc.output_height → y / t.tile.height < t.desc.rows
  row_in y l = below y _ _ _ l ok.tile.tall ok.cover_y

  index_in : (x y : ℕ) → x < t.desc.output_width → y < t.desc.output_height → y / t.tile.height * t.desc.columns + x / t.tile.width < count_of t.desc
  unfolding count_of
  index_in x y l m = digits_lt (row_in y m) (column-in x l)

  -- a tile of the tray, by its number
  tile-of : (i : ℕ) → i < count_of t.desc → (p : Part) → has_part (canvas_form t.desc t.tile t.alpha).format p ≡ true → (x y : ℕ)
      → opaque_at (shown_tile i) p (cover (half_x (canvas_form t.desc t.tile t.alpha).format p) x) (cover (half_y (canvas_form t.desc t.tile t.alpha).format p) y)
      ≡ read_at (picture_in tray (frames_in tray t) i) p x y
  tile-of i l p h x y =
      let k = ok.alike i l in
      let P = picture_in tray (frames_in tray t) i in
      tile-reads promoted P (canvas_form t.desc t.tile t.alpha).format
      (canvas-chroma t.desc t.tile t.alpha ∙ sym (ap (λ (m : Form). m.format.chroma) (tile_pic-form promoted P) ∙ tile-chroma promoted P.form t.tile (chroma-of k)))
      (λ e. mono-same P.form.format t.tile.format (chroma-of k) ∙ promotes-colour t.desc t.tile e) x y p h
    where
      chroma-of : Alike t.tile (get_or (frames_in tray t) i no_frame).form → (picture_in tray (frames_in tray t) i).form.format.chroma ≡ t.tile.format.chroma
      chroma-of k = tile-in-chroma tray (frames_in tray t) i ∙ k.chroma

  -- each place of the canvas reads what is read at the tile and the spot that it names
  pub grid-reads : frames_in tray t ≡ records_in tray → (p : Part) → has_part (grid_on tray t).form.format p ≡ true → (l : Place) → l.x < t.desc.output_width → l.y < t.desc.output_height
      → pixel (grid_on tray t) p l.x l.y ≡ grid_reads tray (grid_names t l) p
  unfolding pixel grid_on grid_pic grid_reads grid_names input_in picture_in
  grid-reads e p h l lx ly =
      let c = canvas_form t.desc t.tile t.alpha in
      let m = tile_form promoted t.tile in
      let k = like-halved m.format c.format p (canvas-chroma t.desc t.tile t.alpha) in
      let s = tile-width promoted t.tile in
      let i = l.y / t.tile.height * t.desc.columns + l.x / t.tile.width in
      ap₂ (λ (a b : Bool). mosaic_at shown_tile t.desc.columns m p (cover a l.x) (cover b l.y)) k.0 k.1
      ∙ mosaic-pixel shown_tile t.desc.columns m p (first-even t.desc t.tile) l.x l.y
      ∙ ap₂ (λ (w h : ℕ). opaque_at (shown_tile (l.y / h * t.desc.columns + l.x / w)) p (cover (half_x m.format p) (l.x % w)) (cover (half_y m.format p) (l.y % h))) s.0 s.1
      ∙ ap₂ (λ (a b : Bool). opaque_at (shown_tile i) p (cover a (l.x % t.tile.width)) (cover b (l.y % t.tile.height))) (sym k.0) (sym k.1)
      ∙ tile-of i (index_in l.x l.y lx ly) p h (l.x % t.tile.width) (l.y % t.tile.height)
      ∙ ap (λ (frs : List Frame). read_at (decode tray (get_or frs i no_frame)) p (l.x % t.tile.width) (l.y % t.tile.height)) e

  -- no two places name one spot
  pub grid-once : (l m : Place) (k : Spot) → l.x < t.desc.output_width → l.y < t.desc.output_height → m.x < t.desc.output_width → m.y < t.desc.output_height
      → grid_names t l ≡ Named.Spot k → grid_names t m ≡ Named.Spot k → l ≡ m
  unfolding grid_names
  grid-once l m k lx ly mx my e f =
      let q = spot-same _ _ (e ∙ sym f) in
      let i : l.y / t.tile.height * t.desc.columns + l.x / t.tile.width ≡ m.y / t.tile.height * t.desc.columns + m.x / t.tile.width = ap (λ (z : Spot). z.input) q in
      let a = column-in l.x lx in
      let b = column-in m.x mx in
      let rows = sym (digits_div (l.y / t.tile.height) a) ∙ ap (λ (n : ℕ). n / t.desc.columns) i ∙ digits_div (m.y / t.tile.height) b in
      let columns = sym (digits_mod (l.y / t.tile.height) a) ∙ ap (λ (n : ℕ). n % t.desc.columns) i ∙ digits_mod (m.y / t.tile.height) b in
      ap₂ (λ (x y : ℕ). record { x = x; y = y })
      (by_digits t.tile.width l.x m.x columns (ap (λ (z : Spot). z.x) q))
      (by_digits t.tile.height l.y m.y rows (ap (λ (z : Spot). z.y) q))

  -- a spot that is named lies in its tile
  tile-there : frames_in tray t ≡ records_in tray → (i x y : ℕ) → i < count_of t.desc → x < t.tile.width → y < t.tile.height → InTray tray (record { input = i; x = x; y = y })
  unfolding input_in picture_in decode
  tile-there e i x y l lx ly =
      let k = ok.alike i l in
      let n : length (frames_in tray t) ≡ count_of t.desc = frames-length _ tray t.first (frames_in tray t) ok.taken in
      record { input = rw (← e, n) l; across = rw (← e, k.width) lx; down = rw (← e, k.height) ly }

  in-as : (j k : Spot) → j ≡ k → InTray tray j → InTray tray k
  in-as j k e h = rw e at h

  pub grid-there : frames_in tray t ≡ records_in tray → (l : Place) → l.x < t.desc.output_width → l.y < t.desc.output_height → (k : Spot) → grid_names t l ≡ Named.Spot k → InTray tray k
  unfolding grid_names
  grid-there e l lx ly k f = in-as _ k (spot-same _ k f) (tile-there e _ _ _ (index_in l.x l.y lx ly) (mod-lt l.x ok.tile.wide) (mod-lt l.y ok.tile.tall))
