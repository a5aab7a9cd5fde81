-- A grid's tiles, stored in turn on a plain canvas, are the composed picture's record.
use Rattle.std.specs.Prelude.{Ok, Err}
use mathlib.Core.Bool.{Bool, ◌&&◌, ◌||◌, false, true}
use mathlib.Core.List.{List, [], ◌++◌, ◌∷◌}
use mathlib.Core.Path.{◌∙◌, ◌≡◌, ap, ap₂, refl, sym}
use Prim.Native.Nat.{◌%◌, ◌*◌, ◌+◌, ◌-◌, ◌/◌, ◌<◌, ◌^◌, ◌≤◌, suc, zero, ℕ}
use native.Mathlib.Nat.{div-lt_iff_lt-mul, mul_assoc, mul_comm, mul-le-mul_right}
use native.Mathlib.Omega.{arith}
use lib.Arith.{digits_lt}
use lib.Dec.{eqb}
use lib.ListN.{drop, drop_of_length-le, get_or, length}
use lib.Seq.{drop-cons}
use Rattle.laws.proofs.Order.{apart, by_order, by-test, pick-false, pick_true, true-and}
use Rattle.laws.proofs.Out.{fitted-room, fitted_short, then-done}
use Rattle.laws.proofs.Puts.{puts-start}
use Rattle.laws.specs.Out.{reason}
use Rattle.laws.specs.Pick.{pick}
use Rattle.laws.specs.Puts.{puts}
use Rattle.image.proofs.FormLaws.{columns-some, rows-some}
use Rattle.image.specs.Format.{as444, bytes_of, columns_of, halved, halves_x, halves_y, has_part, is_mono, needs444, odd, rows_of, side_of, sized, top_of, with_alpha}
use Rattle.records.specs.Tray.{no_frame}
use Rattle.image.specs.declared.format.Form.{Form}
use Rattle.image.specs.declared.format.Part.{Part}
use Rattle.image.specs.declared.format.Part.TheVariants.{Alpha, Cb, Cr, Luma}
use Rattle.image.specs.declared.format.PixelFormat.{PixelFormat}
use Rattle.records.specs.declared.record.Frame.{Frame}
use Rattle.planes.proofs.PictureLaws.{needs-colour}
use Rattle.planes.proofs.RoundTrip.{encode-agree, length-encode}
use Rattle.planes.specs.Bytes.{decode, encode, head_bytes, picture_in, size_of}
use Rattle.planes.specs.Picture.{Agree, Pic}
use Rattle.paste.specs.Stored.{headed}
use Rattle.derived.specs.declared.grid.GridDescriptor.{GridDescriptor}
use Rattle.cells.proofs.CellLaws.{length-store_part}
use Rattle.grid.proofs.MosaicLaws.{among-down, down-among, down_from, pastes, pastes-at, pastes-form, tiles-pasted}
use Rattle.cells.proofs.PasteLaws.{Meets}
use Rattle.cells.proofs.Suited.{suits-bytes, suits-canvas, tile-parts, tile-sound, tile_pic-form}
use Rattle.cells.specs.Cell.{store_tile, tile_form, tile_pic}
use Rattle.grid.specs.Mosaic.{grid_pic, mosaic_at, opaque_at, plain_at, plain_pic, tile_index}
use Rattle.grid.specs.Run.{frames_in, grid_on, grid_run}
use Rattle.tiles.specs.Tiles.{canvas_form, count_of, promotes_of, tiles_of}
use Rattle.tiles.specs.declared.judge.Tiles.{Tiles}
use Rattle.grid.specs.inner.Ready.{TilesTaken}
use Rattle.cells.specs.inner.Rows.{FitsCanvas}
use Rattle.grid.specs.inner.Stored.{store_tiles}

-- ---- a tile that was taken suits the canvas

-- its chroma and depth are the first's
sized-format : (t : Form) (w h : ℕ) → (sized t w h).format ≡ t.format
unfolding sized
sized-format t w h = refl

pub tile-chroma : (b : Bool) (m t : Form) → m.format.chroma ≡ t.format.chroma → (tile_form b m).format.chroma ≡ (tile_form b t).format.chroma
unfolding tile_form pick as444
tile-chroma true m t e = refl
tile-chroma false m t e = e

pub canvas-chroma : (g : GridDescriptor) (t : Form) (a : ℕ) → (canvas_form g t a).format.chroma ≡ (tile_form (promotes_of g t) t).format.chroma
unfolding canvas_form with_alpha
canvas-chroma g t a = tile-chroma (promotes_of g t) (sized t g.output_width g.output_height) t (ap (λ (f : PixelFormat). f.chroma) (sized-format t _ _))

pub tile-depth : (b : Bool) (m : Form) → (tile_form b m).format.depth ≡ m.format.depth
unfolding tile_form pick as444
tile-depth true m = refl
tile-depth false m = refl

pub canvas-depth : (g : GridDescriptor) (t : Form) (a : ℕ) → (canvas_form g t a).format.depth ≡ t.format.depth
unfolding canvas_form with_alpha
canvas-depth g t a = tile-depth (promotes_of g t) (sized t g.output_width g.output_height) ∙ ap (λ (f : PixelFormat). f.depth) (sized-format t _ _)

pub canvas-alpha-is : (g : GridDescriptor) (t : Form) (a : ℕ) → (canvas_form g t a).format.alpha ≡ a
unfolding canvas_form with_alpha
canvas-alpha-is g t a = refl

pub mono-same : (f g : PixelFormat) → f.chroma ≡ g.chroma → is_mono f ≡ is_mono g
unfolding is_mono
mono-same f g e = ap (λ (n : ℕ). eqb n 0) e

-- what is promoted has chroma
pub promotes-colour : (g : GridDescriptor) (t : Form) → promotes_of g t ≡ true → is_mono t.format ≡ false
unfolding promotes_of
promotes-colour g t e =
    by-test (needs444 t.format (odd t.width) (odd t.height))
    (λ h. needs-colour t.format _ _ h)
    (λ h. needs-colour t.format _ _ (sym (or-of h) ∙ e))
  where
    or-of : {a b : Bool} → a ≡ false → (a || b) ≡ b
    or-of q = rw q

-- ---- along one axis

-- tiles that cover a side cover its samples
side-cover : (h : Bool) (n w k : ℕ) → n ≤ w * k → side_of h n ≤ side_of h w * k
unfolding side_of
side-cover true n w k l = let a = mul-le-mul_right k (twice w) in let e = mul_assoc 2 ((w + 1) / 2) k in omega arith
  where
    twice : (w : ℕ) → w ≤ 2 * ((w + 1) / 2)
    twice w = omega arith
side-cover false n w k l = l

pub below : (x n w k : ℕ) → x < n → 0 < w → n ≤ w * k → x / w < k
below x n w k l p h = (div-lt_iff_lt-mul p).1 (omega (arith, mul_comm w k))

-- the axes that a tile and the canvas halve are the same
halves-tile : (b : Bool) (m t : Form) → m.format.chroma ≡ t.format.chroma → (halves_x (tile_form b m).format ≡ halves_x (tile_form b t).format) × (halves_y (tile_form b m).format ≡ halves_y (tile_form b t).format)
unfolding halves_x halves_y
halves-tile b m t e = let q = tile-chroma b m t e in (ap (λ (n : ℕ). eqb n 1 || eqb n 2) q, ap (λ (n : ℕ). eqb n 1) q)

pub tile-width : (b : Bool) (m : Form) → ((tile_form b m).width ≡ m.width) × ((tile_form b m).height ≡ m.height)
unfolding tile_form pick as444
tile-width true m = (refl, refl)
tile-width false m = (refl, refl)

pub columns-same : (b : Bool) (m t : Form) (p : Part) → m.width ≡ t.width → m.format.chroma ≡ t.format.chroma → columns_of (tile_form b m) p ≡ columns_of (tile_form b t) p
unfolding columns_of
columns-same b m t p w e = ap₂ (λ (h : Bool) (n : ℕ). side_of (halved h p) n) (halves-tile b m t e).0 ((tile-width b m).0 ∙ w ∙ sym (tile-width b t).0)

pub rows-same-form : (b : Bool) (m t : Form) (p : Part) → m.height ≡ t.height → m.format.chroma ≡ t.format.chroma → rows_of (tile_form b m) p ≡ rows_of (tile_form b t) p
unfolding rows_of
rows-same-form b m t p w e = ap₂ (λ (h : Bool) (n : ℕ). side_of (halved h p) n) (halves-tile b m t e).1 ((tile-width b m).1 ∙ w ∙ sym (tile-width b t).1)

side-as : (p : Part) (h k : Bool) (n m : ℕ) → h ≡ k → side_of (halved k p) n ≤ m → side_of (halved h p) n ≤ m
side-as p h k n m e q = rw e q

pub canvas-columns : (g : GridDescriptor) (t : Form) (a : ℕ) (p : Part) → g.output_width ≤ t.width * g.columns → columns_of (canvas_form g t a) p ≤ columns_of (tile_form (promotes_of g t) t) p * g.columns
unfolding columns_of canvas_form with_alpha halves_x sized
canvas-columns g t a p l =
    let h = halves-tile (promotes_of g t) (sized t g.output_width g.output_height) t (ap (λ (f : PixelFormat). f.chroma) (sized-format t g.output_width g.output_height)) in
    let w = tile-width (promotes_of g t) (sized t g.output_width g.output_height) in
    let v = tile-width (promotes_of g t) t in
    rw (w.0, v.0) (side-as p _ _ _ _ h.0 (side-cover (halved (halves_x (tile_form (promotes_of g t) t).format) p) g.output_width t.width g.columns l))

canvas-rows : (g : GridDescriptor) (t : Form) (a : ℕ) (p : Part) → g.output_height ≤ t.height * g.rows → rows_of (canvas_form g t a) p ≤ rows_of (tile_form (promotes_of g t) t) p * g.rows
unfolding rows_of canvas_form with_alpha halves_y sized
canvas-rows g t a p l =
    let h = halves-tile (promotes_of g t) (sized t g.output_width g.output_height) t (ap (λ (f : PixelFormat). f.chroma) (sized-format t g.output_width g.output_height)) in
    let w = tile-width (promotes_of g t) (sized t g.output_width g.output_height) in
    let v = tile-width (promotes_of g t) t in
    rw (w.1, v.1) (side-as p _ _ _ _ h.1 (side-cover (halved (halves_y (tile_form (promotes_of g t) t).format) p) g.output_height t.height g.rows l))

-- ---- alpha, where a tile has none

-- a part that a canvas has and a tile of its chroma has not is alpha
lacks-alpha : (X : Part → Type 0) (c f : PixelFormat) (p : Part) → c.chroma ≡ f.chroma → has_part c p ≡ true → has_part f p ≡ false → X Alpha → X p
unfolding has_part is_mono
lacks-alpha X c f Luma e h z a = not-here z
  where
    not-here : {X : Type 0} → ◌≡◌ {A = Bool} true false → X
    not-here q = apart (cc)
lacks-alpha X c f Cb e h z a = not-here (sym (rw e at h) ∙ z)
  where
    not-here : {X : Type 0} → ◌≡◌ {A = Bool} true false → X
    not-here q = apart (cc)
lacks-alpha X c f Cr e h z a = not-here (sym (rw e at h) ∙ z)
  where
    not-here : {X : Type 0} → ◌≡◌ {A = Bool} true false → X
    not-here q = apart (cc)
lacks-alpha X c f Alpha e h z a = a

top-same : (c f : PixelFormat) → c.depth ≡ f.depth → top_of c ≡ top_of f
unfolding top_of
top-same c f d = ap (λ (n : ℕ). 2 ^ n - 1) d

shown-opaque : (T : Pic) (p : Part) (x y : ℕ) (here : Bool) (v : ℕ) → here ≡ true → (has_part T.form.format p ≡ false → v ≡ top_of T.form.format) → pick (here && has_part T.form.format p) (T.at p x y) v ≡ opaque_at T p x y
unfolding opaque_at
shown-opaque T p x y here v e f =
    by-test (has_part T.form.format p)
    (λ h. pick_true _ _ _ (true-and _ _ e h) ∙ sym (pick_true _ _ _ h))
    (λ h. pick-false _ _ _ (rw e h) ∙ f h ∙ sym (pick-false _ _ _ h))

pub plain_form : (c : Form) → (plain_pic c).form ≡ c
unfolding plain_pic
plain_form c = refl

grid_on-form : (tray : List ℕ) (t : Tiles) → (grid_on tray t).form ≡ canvas_form t.desc t.tile t.alpha
unfolding grid_on grid_pic
grid_on-form tray t = refl

encode-laid : (P : Pic) → encode P ≡ headed (head_bytes P.form) P
unfolding encode headed
encode-laid P = refl

module _ (tray : List ℕ) (t : Tiles) (ok : TilesTaken tray t) where
  abbrev b : Bool
  b = promotes_of t.desc t.tile

  abbrev canvas : Form
  canvas = canvas_form t.desc t.tile t.alpha

  abbrev frame : ℕ → Frame
  frame i = get_or (frames_in tray t) i no_frame

  pub suits_of : (i n : ℕ) → i < count_of t.desc → size_of canvas ≤ n → FitsCanvas tray (frame i) canvas b n
  suits_of i n l r =
      let k = ok.alike i l in
      record {
        sound = ok.sound i l;
        canvas = ok.canvas;
        chroma = canvas-chroma t.desc t.tile t.alpha ∙ sym (tile-chroma b (frame i).form t.tile k.chroma);
        depth = canvas-depth t.desc t.tile t.alpha ∙ sym k.depth;
        alpha = rw (canvas-alpha-is t.desc t.tile t.alpha) (ok.alpha i l);
        colour = λ e. mono-same (frame i).form.format t.tile.format k.chroma ∙ promotes-colour t.desc t.tile e;
        room = r;
      }

  -- the tile as a picture
  abbrev T : ℕ → Pic
  T i = tile_pic b (picture_in tray (frames_in tray t) i)

  pub T-form : (i : ℕ) → (T i).form ≡ tile_form b (frame i).form
  unfolding picture_in decode
  T-form i = tile_pic-form b (decode tray (frame i))

  pub meets-of : (i : ℕ) → i < count_of t.desc → Meets (T i).form canvas
  meets-of i l =
      let s = suits_of i (size_of canvas) l (omega arith) in
      record {
        sound = ok.canvas;
        parts = λ p h. suits-canvas tray (frame i) canvas b (size_of canvas) s p (sym (tile-parts b (frame i).form s.colour p) ∙ ap (λ (m : Form). has_part m.format p) (sym (T-form i)) ∙ h);
        bytes = ap (λ (m : Form). bytes_of m.format) (T-form i) ∙ suits-bytes tray (frame i) canvas b (size_of canvas) s Luma;
      }

  -- every tile is as wide and as high as the first, part by part
  pub columns_of_lem : (i : ℕ) → i < count_of t.desc → (p : Part) → columns_of (T i).form p ≡ columns_of (tile_form b t.tile) p
  columns_of_lem i l p = let k = ok.alike i l in ap (λ (m : Form). columns_of m p) (T-form i) ∙ columns-same b (frame i).form t.tile p k.width k.chroma

  pub rows-of : (i : ℕ) → i < count_of t.desc → (p : Part) → rows_of (T i).form p ≡ rows_of (tile_form b t.tile) p
  rows-of i l p = let k = ok.alike i l in ap (λ (m : Form). rows_of m p) (T-form i) ∙ rows-same-form b (frame i).form t.tile p k.height k.chroma

  -- a place of a plane is in a cell of the grid
  pub column-in : (p : Part) (x : ℕ) → x < columns_of canvas p → x / columns_of (tile_form b t.tile) p < t.desc.columns
  column-in p x l = below x _ _ _ l (columns-some (tile_form b t.tile) (tile-sound b t.tile ok.tile) p) (canvas-columns t.desc t.tile t.alpha p ok.cover_x)

  pub row_in : (p : Part) (y : ℕ) → y < rows_of canvas p → y / rows_of (tile_form b t.tile) p < t.desc.rows
  row_in p y l = below y _ _ _ l (rows-some (tile_form b t.tile) (tile-sound b t.tile ok.tile) p) (canvas-rows t.desc t.tile t.alpha p ok.cover_y)

  pub index_in : (p : Part) (x y : ℕ) → x < columns_of canvas p → y < rows_of canvas p → tile_index t.desc.columns (columns_of (tile_form b t.tile) p) (rows_of (tile_form b t.tile) p) x y < count_of t.desc
  unfolding tile_index count_of
  index_in p x y lx ly = digits_lt (row_in p y ly) (column-in p x lx)

  chroma-of : (i : ℕ) → i < count_of t.desc → canvas.format.chroma ≡ (T i).form.format.chroma
  chroma-of i l = (suits_of i (size_of canvas) l (omega arith)).chroma ∙ ap (λ (m : Form). m.format.chroma) (sym (T-form i))

  depth-of : (i : ℕ) → i < count_of t.desc → canvas.format.depth ≡ (T i).form.format.depth
  depth-of i l = (suits_of i (size_of canvas) l (omega arith)).depth ∙ sym (tile-depth b (frame i).form) ∙ ap (λ (m : Form). m.format.depth) (sym (T-form i))

  -- over any canvas whose alpha is at top
  module _ (P : Pic) (same : P.form ≡ canvas) (top : (x y : ℕ) → P.at Alpha x y ≡ top_of canvas.format) where
    abbrev pasted : Pic
    pasted = pastes T t.desc.columns (down_from (count_of t.desc)) P

    pub pasted-form : pasted.form ≡ canvas
    pasted-form = pastes-form T t.desc.columns (down_from (count_of t.desc)) P ∙ same

    pub grid-covers : Agree pasted (grid_on tray t)
    unfolding grid_on grid_pic mosaic_at
    grid-covers =
        record {
          form = pasted-form;
          reads = λ p h x y lx ly. read p (ap (λ (m : Form). has_part m.format p) (sym pasted-form) ∙ h) x y (rw pasted-form at lx) (rw pasted-form at ly);
        }
      where
        read : (p : Part) → has_part canvas.format p ≡ true → (x y : ℕ) → x < columns_of canvas p → y < rows_of canvas p
            → pasted.at p x y
            ≡ opaque_at (T (tile_index t.desc.columns (columns_of (tile_form b t.tile) p) (rows_of (tile_form b t.tile) p) x y)) p (x % columns_of (tile_form b t.tile) p) (y % rows_of (tile_form b t.tile) p)
        read p h x y lx ly =
            let ts = tile-sound b t.tile ok.tile in
            let i = tile_index t.desc.columns (columns_of (tile_form b t.tile) p) (rows_of (tile_form b t.tile) p) x y in
            let li = index_in p x y lx ly in
            pastes-at canvas T t.desc.columns p (columns_of (tile_form b t.tile) p) (rows_of (tile_form b t.tile) p) x y lx ly (columns-some (tile_form b t.tile) ts p) (rows-some (tile_form b t.tile) ts p) (column-in p x lx)
            (down_from (count_of t.desc)) P same (λ j m. (columns_of_lem j (down-among j _ m) p, rows-of j (down-among j _ m) p))
            ∙ shown-opaque (T i) p (x % columns_of (tile_form b t.tile) p) (y % rows_of (tile_form b t.tile) p) _ (P.at p x y) (among-down i _ li)
            (λ z. lacks-alpha (λ q. P.at q x y ≡ top_of (T i).form.format) canvas.format (T i).form.format p (chroma-of i li) h z (top x y ∙ top-same canvas.format (T i).form.format (depth-of i li)))

    -- THE TILES STORED IN TURN ARE THE COMPOSED PICTURE'S RECORD
    pub composed : (d : List ℕ) → size_of canvas ≤ length d → store_tiles canvas T t.desc.columns (count_of t.desc) (puts d 0 (encode P)) ≡ puts d 0 (encode (grid_on tray t))
    composed d l =
        let n : length (encode P) ≡ size_of canvas = length-encode P ∙ ap size_of same in
        let m : length (encode (grid_on tray t)) ≡ size_of canvas = length-encode (grid_on tray t) ∙ ap size_of (grid_on-form tray t) in
        ap (store_tiles canvas T t.desc.columns (count_of t.desc)) (puts-start d (encode P) (omega (arith, n)) ∙ ap (λ (q : List ℕ). q ++ drop (length (encode P)) d) (encode-laid P))
        ∙ tiles-pasted T t.desc.columns canvas P (head_bytes P.form) (drop (length (encode P)) d) (count_of t.desc) same (λ i k. meets-of i k) (ap (λ (q : Form). length (head_bytes q)) same)
        ∙ ap₂ (λ (a b : List ℕ). a ++ b) (as-encoded ∙ encode-agree _ _ grid-covers) (ap (λ (k : ℕ). drop k d) (n ∙ sym m)) ∙ sym (puts-start d (encode (grid_on tray t)) (omega (arith, m)))
      where
        as-encoded : headed (head_bytes P.form) pasted ≡ encode pasted
        as-encoded = ap (λ (m : Form). headed (head_bytes m) pasted) (same ∙ sym pasted-form) ∙ sym (encode-laid pasted)

  pub grid-agree : Agree (pastes T t.desc.columns (down_from (count_of t.desc)) (plain_pic canvas)) (grid_on tray t)
  unfolding plain_pic plain_at
  grid-agree = grid-covers (plain_pic canvas) refl (λ x y. refl)

  -- in the words of the loop that stores them
  pub suits-at : (i n : ℕ) (f : Frame) (c : Form) (q : Bool) → i < count_of t.desc → frame i ≡ f → c ≡ canvas → q ≡ b → size_of canvas ≤ n → FitsCanvas tray f c q n
  suits-at i n f c q l e ec eq r = rw (ec, eq) (rw e at (suits_of i n l r))

-- the frame that a loop is at
pub drop_head : (frs : List Frame) (i : ℕ) (f : Frame) (rest : List Frame) → drop i frs ≡ f ∷ rest → (get_or frs i no_frame ≡ f) × (drop (i + 1) frs ≡ rest)
drop_head frs i f rest e =
    by_order i (length frs)
    (λ l.
    let q : get_or frs i no_frame ∷ drop (suc i) frs ≡ f ∷ rest = sym (drop-cons frs i no_frame l) ∙ e in
    let z : i + 1 ≡ suc i = omega arith in
    (head-same _ _ _ _ q, ap (λ (k : ℕ). drop k frs) z ∙ tail-same _ _ _ _ q))
    (λ l. absurd (none (ap length (sym (drop_of_length-le frs l) ∙ e))))
  where
    head-same : (a b : Frame) (u v : List Frame) → a ∷ u ≡ b ∷ v → a ≡ b
    head-same a b u v q = cc

    tail-same : (a b : Frame) (u v : List Frame) → a ∷ u ≡ b ∷ v → u ≡ v
    tail-same a b u v q = cc

    none : length {A = Frame} [] ≡ length (f ∷ rest) → ⊥
    none q = omega arith

pub tiles_more : (c : Form) (T : ℕ → Pic) (columns n : ℕ) (d : List ℕ) → store_tile c (T n) (n % columns) (n / columns) (store_tiles c T columns n d) ≡ store_tiles c T columns (n + 1) d
unfolding store_tiles
tiles_more c T columns n d = let e : n + 1 ≡ suc n = omega arith in ap (λ (k : ℕ). store_tiles c T columns k d) (sym e)

pub length-store_tile : (c : Form) (T : Pic) (column row : ℕ) (d : List ℕ) → length (store_tile c T column row d) ≡ length d
unfolding store_tile
length-store_tile c T column row d = length-store_part c T column row _ _ ∙ length-store_part c T column row Cr _ ∙ length-store_part c T column row Cb _ ∙ length-store_part c T column row Luma d

pub length-store_tiles : (c : Form) (T : ℕ → Pic) (columns n : ℕ) (d : List ℕ) → length (store_tiles c T columns n d) ≡ length d
unfolding store_tiles
length-store_tiles c T columns zero d = refl
length-store_tiles c T columns (suc n) d = length-store_tile c (T n) (n % columns) (n / columns) _ ∙ length-store_tiles c T columns n d

-- ---- the run

pub length-grid_on : (tray : List ℕ) (t : Tiles) → length (encode (grid_on tray t)) ≡ size_of (canvas_form t.desc t.tile t.alpha)
length-grid_on tray t = length-encode (grid_on tray t) ∙ ap size_of (grid_on-form tray t)

pub grid-fits : (body tray : List ℕ) (room : ℕ) (t : Tiles) → tiles_of body tray ≡ Ok t → size_of (canvas_form t.desc t.tile t.alpha) ≤ room → grid_run body tray room ≡ Ok (encode (grid_on tray t))
unfolding grid_run
grid-fits body tray room t e l = then-done _ e ∙ fitted-room room _ (rw (length-grid_on tray t) l)

pub grid-short : (body tray : List ℕ) (room : ℕ) (t : Tiles) → tiles_of body tray ≡ Ok t → room < size_of (canvas_form t.desc t.tile t.alpha) → grid_run body tray room ≡ Err (reason 17)
unfolding grid_run
grid-short body tray room t e l = then-done _ e ∙ fitted_short room _ (rw (length-grid_on tray t) l)
