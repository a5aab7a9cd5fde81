-- Placing all cells of a grid, in any order, and finishing gives the record that composite_grid gives over the same tiles.
use Rattle.std.specs.Prelude.{Ok}
use mathlib.Core.Bool.{Bool, ◌&&◌, false, not, true}
use mathlib.Core.List.{List, [], ◌++◌, ◌∷◌, append_assoc, append-nil}
use mathlib.Core.Logic.{◌⊎◌, inl, inr}
use mathlib.Core.Path.{◌∙◌, ◌≡◌, ap, ap₂, refl, sym}
use Prim.Native.Nat.{◌%◌, ◌*◌, ◌/◌, ◌<◌, ◌≤◌, ℕ}
use native.Mathlib.Nat.{mod-lt}
use native.Mathlib.Omega.{arith}
use lib.Dec.{eqb, ltb}
use lib.ListN.{drop, get_or, length, length-replicate, take}
use lib.Seq.{take_at}
use borrow.Author.Tests.{eq-eqb, le-leb, le-ltb, lt-ltb, ltb-true, ne_eqb}
use Rattle.laws.proofs.Order.{apart, by_equal, by-test, pick-both, pick-false, pick_true, positive, true-and}
use Rattle.laws.proofs.Out.{refuse-no, then-done}
use Rattle.laws.specs.Out.{Out, and_then}
use Rattle.laws.specs.Pick.{pick}
use Rattle.laws.specs.Puts.{Bytes}
use Rattle.image.proofs.FormLaws.{columns-some, rows-some}
use Rattle.records.proofs.RecordLaws.{whole-sound}
use Rattle.image.specs.Format.{as444, bytes_of, columns_of, cover, half_x, half_y, halves_x, halves_y, has_alpha, has_part, has_size, is_mono, needs444, row_size, rows_of, sized, top_of, with_alpha}
use Rattle.records.specs.Record.{record_of}
use Rattle.image.specs.Sound.{FormSound}
use Rattle.records.specs.Tray.{no_form, no_frame}
use Rattle.image.specs.declared.format.Form.{Form}
use Rattle.image.specs.declared.format.Part.{Part}
use Rattle.image.specs.declared.format.Part.TheVariants.{Alpha, Cb, Cr, Luma}
use Rattle.image.specs.declared.format.PixelFormat.{PixelFormat}
use Rattle.records.specs.declared.record.Frame.{Frame}
use Rattle.planes.proofs.RoundTrip.{encode-agree, length-encode}
use Rattle.planes.specs.Bytes.{decode, encode, head_bytes, picture_in, plane_bytes, plane_head, plane_size, row_bytes, rows_bytes, size_of}
use Rattle.planes.specs.Picture.{Agree, Pic}
use Rattle.derived.proofs.Taken.{grid-taken}
use Rattle.derived.specs.declared.grid.GridDescriptor.{GridDescriptor}
use Rattle.derived.specs.inner.Sound.{GridSound}
use Rattle.cells.proofs.CellLaws.{length-store_part}
use Rattle.grid.proofs.Composed.{canvas-alpha-is, column-in, columns_of_lem, grid-agree, grid-fits, index_in, plain_form, rows-of}
use Rattle.grid.proofs.GridLaws.{TilesFrom, tiles-from, tiles-taken}
use Rattle.grid.proofs.MosaicLaws.{among-down, down-among, down_from, pastes, pastes-at, pastes-form}
use Rattle.grid.proofs.PaintLaws.{head-alpha}
use Rattle.cells.proofs.PasteLaws.{Meets, paste_tile}
use Rattle.cells.proofs.Suited.{covered-column, covered-row, suits-bytes, suits-canvas, tile-parts, tile-sample, tile-sound, tile_pic-form}
use Rattle.tiles.proofs.TilesLaws.{count-some}
use Rattle.cells.specs.Cell.{store_tile, tile_form, tile_pic}
use Rattle.grid.specs.Mosaic.{among, plain_at, plain_pic, tile_index}
use Rattle.paste.specs.Stored.{headed}
use Rattle.grid.specs.Run.{frames_in, grid_on, grid_run}
use Rattle.tiles.specs.Tiles.{canvas_form, count_of, spans_canvas, promotes_of, same_layout, tiles_of}
use Rattle.tiles.specs.declared.judge.Tiles.{Tiles}
use Rattle.grid.specs.inner.Ready.{Alike, TilesTaken}
use Rattle.cells.specs.inner.Rows.{FitsCanvas}
use Rattle.session.proofs.DrawLaws.{begun-later, length-begun, length-told, place-done}
use Rattle.session.proofs.KeepLaws.{open-ok, place_ok, wide-tile}
use Rattle.session.proofs.MarkLaws.{all_of, mark-marks, none-marked}
use Rattle.sequence.proofs.SequenceLaws.{alpha-small, alpha_after, begun-laid, drawn-laid}
use Rattle.session.proofs.StateLaws.{count_small, place-suits}
use Rattle.session.specs.Marks.{all_marked, is_marked, mark_of, no_marks}
use Rattle.sequence.specs.Sequence.{place_all, session_run}
use Rattle.session.specs.Session.{CanvasAfter, alpha_told, begun, drawn_on, finish_of, marked_on, place_of, placed_as, reserved_form, session_of}
use Rattle.session.specs.State.{accept_of, has_tile, open_of, state_ok}
use Rattle.session.specs.declared.state.Canvas.{Canvas}

-- ---- forms of one size, chroma and depth fix the same canvas

alike-promotes : (g : GridDescriptor) (t m : Form) → Alike t m → promotes_of g m ≡ promotes_of g t
unfolding promotes_of needs444 halves_x halves_y
alike-promotes g t m k = rw (k.width, k.height, k.chroma) refl

alike-form : (b : Bool) (g : GridDescriptor) (t m : Form) (a : ℕ) → Alike t m
    → with_alpha (tile_form b (sized m g.output_width g.output_height)) a ≡ with_alpha (tile_form b (sized t g.output_width g.output_height)) a
unfolding with_alpha tile_form pick sized as444
alike-form true g t m a k = rw k.depth refl
alike-form false g t m a k = rw (k.chroma, k.depth) refl

alike-canvas : (g : GridDescriptor) (t m : Form) (a : ℕ) → Alike t m → canvas_form g m a ≡ canvas_form g t a
unfolding canvas_form
alike-canvas g t m a k =
    ap (λ (b : Bool). with_alpha (tile_form b (sized m g.output_width g.output_height)) a) (alike-promotes g t m k)
    ∙ alike-form (promotes_of g t) g t m a k

alike-drawn : (g : GridDescriptor) (t m : Form) (i : ℕ) (n : Form) (T : Pic) (d : List ℕ) → Alike t m → drawn_on g m i n T d ≡ drawn_on g t i n T d
unfolding drawn_on reserved_form
alike-drawn g t m i n T d k =
    ap₂ (λ (c : Form) (b : Bool). store_tile c (tile_pic b T) (i % g.columns) (i / g.columns) (alpha_told c n d)) (alike-canvas g t m 1 k) (alike-promotes g t m k)

alike-covers : (g : GridDescriptor) (t m : Form) → Alike t m → g.output_width ≤ t.width * g.columns → g.output_height ≤ t.height * g.rows → spans_canvas g m ≡ true
unfolding spans_canvas
alike-covers g t m k x y =
    let a : g.output_width ≤ m.width * g.columns = rw k.width x in
    let b : g.output_height ≤ m.height * g.rows = rw k.height y in
    true-and _ _ (le-leb _ _ a) (le-leb _ _ b)

pub length-drawn : (g : GridDescriptor) (t : Form) (i : ℕ) (m : Form) (T : Pic) (d : List ℕ) → length (drawn_on g t i m T d) ≡ length d
unfolding drawn_on store_tile
length-drawn g t i m T d = length-store_part _ _ _ _ Alpha _ ∙ length-store_part _ _ _ _ Cr _ ∙ length-store_part _ _ _ _ Cb _ ∙ length-store_part _ _ _ _ Luma _ ∙ length-told _ _ _

-- ---- a tile that is accepted

pub take-first : (s : Canvas) (m : Form) → has_tile s ≡ false → spans_canvas s.desc m ≡ true → accept_of s m ≡ Ok m
unfolding accept_of
take-first s m h c = pick-false (has_tile s) _ _ h ∙ refuse-no _ _ (ap not c)

pub take-later : (s : Canvas) (t m : Form) → has_tile s ≡ true → Alike t s.tile → Alike t m → accept_of s m ≡ Ok s.tile
unfolding accept_of has_size same_layout
take-later s t m h k l =
    pick_true (has_tile s) _ _ h
    ∙ refuse-no _ _ (ap not (true-and _ _ (eq-eqb _ _ (l.width ∙ sym k.width)) (eq-eqb _ _ (l.height ∙ sym k.height))))
    ∙ refuse-no _ _ (ap not (true-and _ _ (eq-eqb _ _ (l.chroma ∙ sym k.chroma)) (eq-eqb _ _ (l.depth ∙ sym k.depth))))

-- ---- the record in the buffer, without the reserved plane where the alpha number is 0

-- the picture with that alpha number
abbrev reform : Pic → ℕ → Pic
reform P a = record { form = with_alpha P.form a; at = P.at }

own-alpha : (m : Form) → with_alpha m m.format.alpha ≡ m
unfolding with_alpha
own-alpha m = refl

colour-planes : (P : Pic) (a : ℕ)
    → (plane_bytes (reform P a) Luma ≡ plane_bytes P Luma)
    × (plane_bytes (reform P a) Cb ≡ plane_bytes P Cb)
    × (plane_bytes (reform P a) Cr ≡ plane_bytes P Cr)
unfolding plane_bytes has_part is_mono with_alpha plane_head row_size columns_of rows_of halves_x halves_y bytes_of rows_bytes row_bytes
colour-planes P a = (refl, refl, refl)

none-alpha : (P : Pic) → plane_bytes (reform P 0) Alpha ≡ []
unfolding plane_bytes has_part has_alpha with_alpha
none-alpha P = pick-false _ _ _ refl

laid_none : (P : Pic) (rest : List ℕ) → headed (head_bytes (with_alpha P.form 0)) P ++ rest ≡ encode (reform P 0) ++ (plane_bytes P Alpha ++ rest)
unfolding headed encode
laid_none P rest =
    let k = colour-planes P 0 in
    let z = none-alpha P in
    simp (k.0, k.1, k.2, z, append_assoc, append-nil)

laid-some : (P : Pic) (rest : List ℕ) → P.form.format.alpha ≡ 1 → headed (head_bytes (with_alpha P.form 1)) P ++ rest ≡ encode (reform P 1) ++ rest
laid-some P rest e =
    let q : with_alpha P.form 1 ≡ P.form = ap (with_alpha P.form) (sym e) ∙ own-alpha P.form in
    ap (λ (m : Form). headed (head_bytes m) P ++ rest) q ∙ as_is ∙ ap (λ (m : Form). encode (record { form = m; at = P.at }) ++ rest) (sym q)
  where
    as_is : headed (head_bytes P.form) P ++ rest ≡ encode P ++ rest
    as_is = unfold headed encode in refl

-- the start of the buffer is the record
start-record : (P : Pic) (a : ℕ) (rest : List ℕ) → P.form.format.alpha ≡ 1 → a ≤ 1 → take (size_of (with_alpha P.form a)) (headed (head_bytes (with_alpha P.form a)) P ++ rest) ≡ encode (reform P a)
start-record P a rest e l =
    by_equal a 0
    (λ z. rw z (ap (take (size_of (with_alpha P.form 0))) (laid_none P rest) ∙ take_at _ _ _ (length-encode (reform P 0))))
    (λ d.
    let o : a ≡ 1 = omega arith in
    rw o (ap (take (size_of (with_alpha P.form 1))) (laid-some P rest e) ∙ take_at _ _ _ (length-encode (reform P 1))))

-- ---- the alpha number after cells placed in turn

alpha-none : (T : ℕ → Pic) (js : List ℕ) → ((i : ℕ) → among i js ≡ true → has_alpha (T i).form.format ≡ false) → alpha_after T js 0 ≡ 0
unfolding alpha_after among
alpha-none T [] f = refl
alpha-none T (j ∷ js) f = pick-false _ _ _ (f j (pick_true _ _ _ (eq-eqb j j refl))) ∙ alpha-none T js (λ i m. f i (by-test (eqb j i) (λ z. pick_true _ _ _ z) (λ z. pick-false _ _ _ z ∙ m)))

alpha-one : (T : ℕ → Pic) (js : List ℕ) (i : ℕ) → among i js ≡ true → has_alpha (T i).form.format ≡ true → alpha_after T js 0 ≡ 1
unfolding alpha_after among
alpha-one T [] i m h = absurd (no m)
  where
    no : ◌≡◌ {A = Bool} false true → ⊥
    no q = apart (cc)
alpha-one T (j ∷ js) i m h =
    by_equal j i
    (λ q. pick_true _ _ _ (ap (λ (k : ℕ). has_alpha (T k).form.format) q ∙ h))
    (λ d.
    let r = alpha-one T js i (sym (pick-false _ _ _ (ne_eqb j i d)) ∙ m) h in
    pick-both (λ (v : ℕ). v ≡ 1) _ _ _ refl r)

-- ---- pictures that agree, as they are drawn

tile-agree : (b : Bool) (P Q : Pic) → (b ≡ true → is_mono P.form.format ≡ false) → Agree P Q → Agree (tile_pic b P) (tile_pic b Q)
tile-agree b P Q colour k =
    record {
      form = tile_pic-form b P ∙ ap (tile_form b) k.form ∙ sym (tile_pic-form b Q);
      reads = λ p h x y lx ly. read p (has p h) x y (rw (tile_pic-form b P) at lx) (rw (tile_pic-form b P) at ly);
    }
  where
    has : (p : Part) → has_part (tile_pic b P).form.format p ≡ true → has_part P.form.format p ≡ true
    has p h = sym (tile-parts b P.form colour p) ∙ ap (λ (m : Form). has_part m.format p) (sym (tile_pic-form b P)) ∙ h

    read : (p : Part) → has_part P.form.format p ≡ true → (x y : ℕ) → x < columns_of (tile_form b P.form) p → y < rows_of (tile_form b P.form) p → (tile_pic b P).at p x y ≡ (tile_pic b Q).at p x y
    read p h x y lx ly =
        tile-sample b P p h x y
        ∙ k.reads p h _ _ (covered-column b P.form p x lx) (covered-row b P.form p y ly)
        ∙ ap (λ (m : Form). Q.at p (cover (b && half_x m.format p) x) (cover (b && half_y m.format p) y)) k.form
        ∙ sym (tile-sample b Q p (ap (λ (m : Form). has_part m.format p) (sym k.form) ∙ h) x y)

plain-same : (g : GridDescriptor) (t : Form) (a c : ℕ) (p : Part) → plain_at (canvas_form g t a).format p ≡ plain_at (canvas_form g t c).format p
unfolding plain_at canvas_form with_alpha top_of
plain-same g t a c Luma = refl
plain-same g t a c Cb = refl
plain-same g t a c Cr = refl
plain-same g t a c Alpha = refl

side-alpha : (m : Form) (a : ℕ) (p : Part) → (columns_of (with_alpha m a) p ≡ columns_of m p) × (rows_of (with_alpha m a) p ≡ rows_of m p)
unfolding columns_of rows_of with_alpha halves_x halves_y
side-alpha m a p = (refl, refl)

-- the record without the reserved plane is no longer than with it
colour-sizes : (m : Form) (a : ℕ) → (plane_size (with_alpha m a) Luma ≡ plane_size m Luma) × (plane_size (with_alpha m a) Cb ≡ plane_size m Cb) × (plane_size (with_alpha m a) Cr ≡ plane_size m Cr)
unfolding plane_size has_part is_mono with_alpha plane_head row_size columns_of rows_of halves_x halves_y bytes_of
colour-sizes m a = (refl, refl, refl)

none-size : (m : Form) → plane_size (with_alpha m 0) Alpha ≡ 0
unfolding plane_size has_part has_alpha with_alpha
none-size m = pick-false _ _ _ refl

size-alpha : (m : Form) (a : ℕ) → m.format.alpha ≡ 1 → a ≤ 1 → size_of (with_alpha m a) ≤ size_of m
size-alpha m a e l =
    by_equal a 0
    (λ z. rw z none)
    (λ d.
    let o : a ≡ 1 = omega arith in
    let q : with_alpha m a ≡ m = ap (with_alpha m) (o ∙ sym e) ∙ own-alpha m in
    rw q (omega arith))
  where
    none : size_of (with_alpha m 0) ≤ size_of m
    none =
        let k = colour-sizes m 0 in
        let h = head-alpha m 0 (omega arith) (rw e (omega arith)) in
        unfold size_of in omega (arith, k.0, k.1, k.2, none-size m, h)

tile-opaque : (f : PixelFormat) → f.alpha ≡ 0 → has_alpha f ≡ false
unfolding has_alpha
tile-opaque f e = ap not (eq-eqb _ _ e)

tile-seen : (f : PixelFormat) → has_alpha f ≡ true → f.alpha ≡ 0 → ⊥
unfolding has_alpha
tile-seen f h e = no (sym h ∙ tile-opaque f e)
  where
    no : ◌≡◌ {A = Bool} true false → ⊥
    no q = apart (cc)

-- ---- a grid's tiles, and records that show them

module _ (body tray : List ℕ) (t : Tiles) (ok : TilesTaken tray t) (grid : GridSound t.desc) (source : TilesFrom body tray t) (R : ℕ → List ℕ) (F : ℕ → Frame)
    (taken : (i : ℕ) → i < count_of t.desc → record_of (R i) ≡ Ok (F i)) (same : (i : ℕ) → i < count_of t.desc → Agree (decode (R i) (F i)) (picture_in tray (frames_in tray t) i)) where
  abbrev g : GridDescriptor
  g = t.desc

  abbrev b : Bool
  b = promotes_of g t.tile

  -- the canvas with the alpha plane reserved
  abbrev C : Form
  C = reserved_form g t.tile

  abbrev frame : ℕ → Frame
  frame i = get_or (frames_in tray t) i no_frame

  -- a tile as its record shows it, and as it is drawn
  abbrev S : ℕ → Pic
  S i = decode (R i) (F i)

  abbrev T : ℕ → Pic
  T i = tile_pic b (S i)

  form_of : (i : ℕ) → i < count_of g → (F i).form ≡ (frame i).form
  unfolding decode picture_in
  form_of i l = (same i l).form

  decode-form : (i : ℕ) → (F i).form ≡ (S i).form
  unfolding decode
  decode-form i = refl

  alike_of : (i : ℕ) → i < count_of g → Alike t.tile (F i).form
  alike_of i l = rw (form_of i l) (ok.alike i l)

  T-is : (i : ℕ) → (T i).form ≡ tile_form b (F i).form
  unfolding decode
  T-is i = tile_pic-form b (S i)

  one : C.format.alpha ≡ 1
  one = unfold reserved_form in canvas-alpha-is g t.tile 1

  suits : (i : ℕ) → i < count_of g → FitsCanvas (R i) (F i) C b (size_of C)
  unfolding reserved_form
  suits i l =
      let k = alike_of i l in
      place-suits g t.tile (R i) (F i) _ grid (whole-sound _ _ (taken i l)).0 (record { tile = ok.tile; chroma = sym k.chroma; depth = sym k.depth }) (omega arith)

  meets : (i : ℕ) → i < count_of g → Meets (T i).form C
  meets i l =
      let s = suits i l in
      record {
        sound = s.canvas;
        parts = λ p h. suits-canvas (R i) (F i) C b (size_of C) s p (sym (tile-parts b (F i).form s.colour p) ∙ ap (λ (m : Form). has_part m.format p) (sym (T-is i)) ∙ h);
        bytes = ap (λ (m : Form). bytes_of m.format) (T-is i) ∙ suits-bytes (R i) (F i) C b (size_of C) s Luma;
      }

  -- ---- cells placed in turn

  abbrev state : Form → ℕ → List ℕ → Canvas
  state u a ms = record { desc = g; tile = u; alpha = a; marks = ms }

  -- after cells js: the marks, the alpha number and the buffer
  record Going (js rest : List ℕ) (u : Form) (a : ℕ) (ms d : List ℕ) : Type 0 where
    sound : state_ok (state u a ms) ≡ true
    long : length ms ≡ 1024
    marked : (i : ℕ) → is_marked ms i ≡ among i js
    alike : Alike t.tile u
    tile : FormSound u
    alpha : a ≡ alpha_after S js 0
    buffer : d ≡ headed (head_bytes (with_alpha C a)) (pastes T g.columns js (plain_pic C)) ++ rest
    room : size_of C ≤ length d

  -- what a place comes to
  record Gone (js rest : List ℕ) (o : Out CanvasAfter) : Type 0 where
    u : Form
    a : ℕ
    ms : List ℕ
    d : List ℕ
    done-with : o ≡ Ok (record { canvas = state u a ms; buffer = d })
    going : Going js rest u a ms d

  on-plain : (js : List ℕ) → (pastes T g.columns js (plain_pic C)).form ≡ C
  on-plain js = pastes-form T g.columns js (plain_pic C) ∙ plain_form C

  -- one cell more, beside a state that takes it
  step : (js rest : List ℕ) (v : Form) (a : ℕ) (ms d : List ℕ) (j : ℕ) (u : Form) → j < count_of g → state_ok (state v a ms) ≡ true → length ms ≡ 1024 → ((i : ℕ) → is_marked ms i ≡ among i js) → accept_of (state v a ms) (F j).form ≡ Ok u
      → Alike t.tile u → FormSound u → a ≡ alpha_after S js 0 → begun (not (has_tile (state v a ms))) C d ≡ headed (head_bytes (with_alpha C a)) (pastes T g.columns js (plain_pic C)) ++ rest → size_of C ≤ length d
      → Gone (j ∷ js) rest (place_of (state v a ms) j (R j) d)
  step js rest v a ms d j u l sound long marked accepted alike tile alpha started room =
      record { u = u; a = a'; ms = mark_of ms j; d = x.buffer; done-with = here; going = record { sound = kept.0; long = kept.1; marked = marks; alike = alike; tile = tile; alpha = number; buffer = drawn; room = rw still room } }
    where
      x : CanvasAfter
      x = placed_as (state v a ms) j (R j) d (F j) u

      a' : ℕ
      a' = pick (has_alpha (F j).form.format) 1 a

      small : a ≤ 1
      small = rw alpha (alpha-small S js 0 (omega arith))

      size : size_of (canvas_form g u 1) ≤ length d
      size = rw (alike-canvas g t.tile u 1 alike) (unfold reserved_form in room)

      accepted-place : place_of (state v a ms) j (R j) d ≡ Ok x
      accepted-place = place-done (state v a ms) j (R j) d sound (unfold count_of in l) (F j) (taken j l) u accepted size

      here : place_of (state v a ms) j (R j) d ≡ Ok (record { canvas = state u a' (mark_of ms j); buffer = x.buffer })
      here = accepted-place ∙ (unfold placed_as marked_on in refl)

      kept : (state_ok (state u a' (mark_of ms j)) ≡ true) × (length (mark_of ms j) ≡ 1024)
      kept = place_ok (state v a ms) j (R j) d _ long here

      word : j / 64 < length ms
      word =
          let n : count_of g ≤ 65536 = unfold count_of in count_small g grid in
          rw long (omega (arith, l))

      marks : (i : ℕ) → is_marked (mark_of ms j) i ≡ among i (j ∷ js)
      marks i = mark-marks ms j i word ∙ ap (pick (eqb j i) true) (marked i) ∙ (unfold among in refl)

      number : a' ≡ alpha_after S (j ∷ js) 0
      number = ap (pick (has_alpha (F j).form.format) 1) alpha ∙ (unfold alpha_after decode in refl)

      P : Pic
      P = pastes T g.columns js (plain_pic C)

      shape : x.buffer ≡ drawn_on g u j (F j).form (S j) (begun (not (has_tile (state v a ms))) (reserved_form g u) d)
      shape = unfold placed_as in refl

      reserved : reserved_form g u ≡ C
      reserved = unfold reserved_form in alike-canvas g t.tile u 1 alike

      pasted : headed (head_bytes (with_alpha C a')) (paste_tile (T j) (j % g.columns) (j / g.columns) P) ++ rest ≡ headed (head_bytes (with_alpha C a')) (pastes T g.columns (j ∷ js) (plain_pic C)) ++ rest
      pasted = unfold pastes in refl

      drawn : x.buffer ≡ headed (head_bytes (with_alpha C a')) (pastes T g.columns (j ∷ js) (plain_pic C)) ++ rest
      drawn =
          shape
          ∙ ap (λ (c : Form). drawn_on g u j (F j).form (S j) (begun (not (has_tile (state v a ms))) c d)) reserved
          ∙ ap (drawn_on g u j (F j).form (S j)) started
          ∙ alike-drawn g t.tile u j (F j).form (S j) _ alike
          ∙ drawn-laid g t.tile (F j).form j a (S j) P rest (on-plain js) (meets j l) small
          ∙ pasted

      still : length x.buffer ≡ length d
      still = unfold placed_as in length-drawn g u j (F j).form (S j) _ ∙ length-begun _ _ d

  -- the first cell
  first : (d : List ℕ) (j : ℕ) → j < count_of g → size_of C ≤ length d → Gone (j ∷ []) (drop (size_of C) d) (place_of (state no_form 0 no_marks) j (R j) d)
  first d j l room =
      step [] (drop (size_of C) d) no_form 0 no_marks d j (F j).form l open-sound marks-long (λ i. none-marked i ∙ (unfold among in refl))
      (take-first _ _ bare (alike-covers g t.tile (F j).form (alike_of j l) ok.cover_x ok.cover_y))
      (alike_of j l) (whole-sound _ _ (taken j l)).0.form (unfold alpha_after in refl) begins room
    where
      open-sound : state_ok (state no_form 0 no_marks) ≡ true
      open-sound = ap state_ok open_is ∙ open-ok g grid
        where
          open_is : state no_form 0 no_marks ≡ open_of g
          open_is = unfold open_of in refl

      marks-long : length no_marks ≡ 1024
      marks-long = unfold no_marks in length-replicate {A = ℕ} 1024 0

      bare : has_tile (state no_form 0 no_marks) ≡ false
      bare = unfold has_tile no_form in refl

      begins : begun (not (has_tile (state no_form 0 no_marks))) C d ≡ headed (head_bytes (with_alpha C 0)) (pastes T g.columns [] (plain_pic C)) ++ drop (size_of C) d
      begins = ap (λ (q : Bool). begun q C d) (ap not bare) ∙ begun-laid C d one room ∙ (unfold pastes in refl)

  -- a later one
  later : (js rest : List ℕ) (u : Form) (a : ℕ) (ms d : List ℕ) (j : ℕ) → Going js rest u a ms d → j < count_of g → Gone (j ∷ js) rest (place_of (state u a ms) j (R j) d)
  later js rest u a ms d j k l =
      step js rest u a ms d j u l k.sound k.long k.marked (take-later (state u a ms) t.tile (F j).form tiled k.alike (alike_of j l)) k.alike k.tile k.alpha
      (begun-later _ C d (ap not tiled) ∙ k.buffer) k.room
    where
      tiled : has_tile (state u a ms) ≡ true
      tiled = unfold has_tile in wide-tile u k.tile

  gone-as : {js rest : List ℕ} {o p : Out CanvasAfter} → p ≡ o → Gone js rest o → Gone js rest p
  gone-as e k = rw e k

  -- all of them
  placed : (d : List ℕ) (j : ℕ) (js : List ℕ) → ((i : ℕ) → among i (j ∷ js) ≡ true → i < count_of g) → size_of C ≤ length d → Gone (j ∷ js) (drop (size_of C) d) (place_all R (j ∷ js) (state no_form 0 no_marks) d)
  unfolding place_all among
  placed d j [] f room = gone-as (then-done _ refl) (first d j (f j (pick_true _ _ _ (eq-eqb j j refl))) room)
  placed d j (k ∷ ks) f room =
      let r = placed d k ks (λ i m. f i (by-test (eqb j i) (λ z. pick_true _ _ _ z) (λ z. pick-false _ _ _ z ∙ m))) room in
      gone-as (then-done _ r.done-with) (later (k ∷ ks) (drop (size_of C) d) r.u r.a r.ms r.d j r.going (f j (pick_true _ _ _ (eq-eqb j j refl))))

  -- ---- all cells of the grid

  abbrev canvas : Form
  canvas = canvas_form g t.tile t.alpha

  abbrev T₀ : ℕ → Pic
  T₀ i = tile_pic b (picture_in tray (frames_in tray t) i)

  agrees : (i : ℕ) → i < count_of g → Agree (T i) (T₀ i)
  unfolding decode
  agrees i l = tile-agree b (S i) (picture_in tray (frames_in tray t) i) (suits i l).colour (same i l)

  canvas-as : with_alpha C t.alpha ≡ canvas
  unfolding reserved_form canvas_form with_alpha
  canvas-as = refl

  module _ (js : List ℕ) (cells : (i : ℕ) → among i js ≡ ltb i (count_of g)) where
    here : (i : ℕ) → i < count_of g → among i js ≡ true
    here i l = cells i ∙ lt-ltb _ _ l

    inside : (i : ℕ) → among i js ≡ true → i < count_of g
    inside i m = ltb-true _ _ (sym (cells i) ∙ m)

    abbrev P : Pic
    P = pastes T g.columns js (plain_pic C)

    abbrev P₀ : Pic
    P₀ = pastes T₀ g.columns (down_from (count_of g)) (plain_pic canvas)

    -- the canvas shows what composite_grid's does
    shown : (p : Part) (x y : ℕ) → x < columns_of canvas p → y < rows_of canvas p → P.at p x y ≡ P₀.at p x y
    shown p x y lx ly =
        pastes-at C T g.columns p w h x y (rw wide.0 at lx) (rw wide.1 at ly) some_x some_y column js (plain_pic C) (plain_form C) (λ j m. sizes j (inside j m))
        ∙ by-test (has_part (T i).form.format p)
        (λ z.
        pick_true _ _ _ (true-and _ _ (here i li) z)
        ∙ (agrees i li).reads p z (x % w) (y % h) (rw (sizes i li).0 (mod-lt x some_x)) (rw (sizes i li).1 (mod-lt y some_y))
        ∙ sym (pick_true _ _ _ (true-and _ _ (among-down i _ li) (part z))))
        (λ z.
        pick-false _ _ _ (ap₂ (λ (q r : Bool). q && r) (here i li) z)
        ∙ plain
        ∙ sym (pick-false _ _ _ (ap₂ (λ (q r : Bool). q && r) (among-down i _ li) (part z))))
        ∙ sym (pastes-at canvas T₀ g.columns p w h x y lx ly some_x some_y column (down_from (count_of g)) (plain_pic canvas) (plain_form canvas) (λ j m. (columns_of_lem tray t ok j (down-among j _ m) p, rows-of tray t ok j (down-among j _ m) p)))
      where
        w : ℕ
        w = columns_of (tile_form b t.tile) p

        h : ℕ
        h = rows_of (tile_form b t.tile) p

        some_x : 0 < w
        some_x = columns-some (tile_form b t.tile) (tile-sound b t.tile ok.tile) p

        some_y : 0 < h
        some_y = rows-some (tile_form b t.tile) (tile-sound b t.tile ok.tile) p

        column : x / w < g.columns
        column = column-in tray t ok p x lx

        i : ℕ
        i = tile_index g.columns w h x y

        li : i < count_of g
        li = index_in tray t ok p x y lx ly

        wide : (columns_of canvas p ≡ columns_of C p) × (rows_of canvas p ≡ rows_of C p)
        wide = let k = side-alpha C t.alpha p in (ap (λ (m : Form). columns_of m p) (sym canvas-as) ∙ k.0, ap (λ (m : Form). rows_of m p) (sym canvas-as) ∙ k.1)

        sizes : (j : ℕ) → j < count_of g → (columns_of (T j).form p ≡ w) × (rows_of (T j).form p ≡ h)
        sizes j l = (ap (λ (m : Form). columns_of m p) (agrees j l).form ∙ columns_of_lem tray t ok j l p, ap (λ (m : Form). rows_of m p) (agrees j l).form ∙ rows-of tray t ok j l p)

        part : {q : Bool} → has_part (T i).form.format p ≡ q → has_part (T₀ i).form.format p ≡ q
        part z = ap (λ (m : Form). has_part m.format p) (sym (agrees i li).form) ∙ z

        plain : (plain_pic C).at p x y ≡ (plain_pic canvas).at p x y
        plain = unfold plain_pic reserved_form in plain-same g t.tile 1 t.alpha p

    seen : Agree (reform P t.alpha) P₀
    seen =
        record {
          form = ap (λ (m : Form). with_alpha m t.alpha) (on-plain js) ∙ canvas-as ∙ sym (pastes-form T₀ g.columns (down_from (count_of g)) (plain_pic canvas) ∙ plain_form canvas);
          reads = λ p h x y lx ly. shown p x y (rw form at lx) (rw form at ly);
        }
      where
        form : with_alpha P.form t.alpha ≡ canvas
        form = ap (λ (m : Form). with_alpha m t.alpha) (on-plain js) ∙ canvas-as

    -- the alpha number is composite_grid's
    alpha-is : alpha_after S js 0 ≡ t.alpha
    alpha-is = go source.alpha
      where
        part : (i : ℕ) → i < count_of g → {q : Bool} → has_alpha (frame i).form.format ≡ q → has_alpha (S i).form.format ≡ q
        part i l h = ap (λ (m : Form). has_alpha m.format) (sym (decode-form i) ∙ form_of i l) ∙ h

        none : t.alpha ≡ 0 → (i : ℕ) → i < count_of g → has_alpha (S i).form.format ≡ false
        none z i l =
            let a = ok.alpha i l in
            let e : (frame i).form.format.alpha ≡ 0 = omega arith in
            part i l (tile-opaque (frame i).form.format e)

        full : (i : ℕ) → i < count_of g → has_alpha (frame i).form.format ≡ true → t.alpha ≡ 1
        full i l h =
            let most : t.alpha ≤ 1 = rw (canvas-alpha-is g t.tile t.alpha) at ok.canvas.alpha in
            let some = positive _ (tile-seen _ h) in
            omega (arith, ok.alpha i l)

        go : (t.alpha ≡ 0) ⊎ ((i : ℕ) × (i < count_of g) × (has_alpha (frame i).form.format ≡ true)) → alpha_after S js 0 ≡ t.alpha
        go (inl z) = alpha-none S js (λ i m. none z i (inside i m)) ∙ sym z
        go (inr k) = alpha-one S js k.0 (here k.0 k.1) (part k.0 k.1 k.2) ∙ sym (full k.0 k.1 k.2)

    -- finish answers composite_grid's record
    finished : (rest : List ℕ) (u : Form) (a : ℕ) (ms d : List ℕ) → Going js rest u a ms d → and_then (finish_of (state u a ms) (length d)) (λ n. Ok (take n d)) ≡ Ok (encode (grid_on tray t))
    finished rest u a ms d k = then-done _ ends ∙ ap Ok record_is
      where
        tiled : has_tile (state u a ms) ≡ true
        tiled = unfold has_tile in wide-tile u k.tile

        all : all_marked ms 0 (count_of g) ≡ true
        all = all_of ms 0 (count_of g) (λ i l m. k.marked i ∙ here i (omega arith))

        size : size_of (reserved_form g u) ≤ length d
        size = rw (reserved-as) k.room
          where
            reserved-as : reserved_form g u ≡ C
            reserved-as = unfold reserved_form in alike-canvas g t.tile u 1 k.alike

        ends : finish_of (state u a ms) (length d) ≡ Ok (size_of (canvas_form g u a))
        ends = unfold finish_of in refuse-no 5 _ (ap not k.sound) ∙ refuse-no 15 _ (ap not tiled) ∙ refuse-no 15 _ (ap not all) ∙ refuse-no 17 _ (le-ltb _ _ size)

        small : a ≤ 1
        small = rw k.alpha (alpha-small S js 0 (omega arith))

        with-a : canvas_form g t.tile a ≡ with_alpha C a
        with-a = unfold canvas_form reserved_form with_alpha in refl

        form : canvas_form g u a ≡ with_alpha P.form a
        form = alike-canvas g t.tile u a k.alike ∙ with-a ∙ ap (λ (m : Form). with_alpha m a) (sym (on-plain js))

        buffer : d ≡ headed (head_bytes (with_alpha P.form a)) P ++ rest
        buffer = k.buffer ∙ ap (λ (m : Form). headed (head_bytes (with_alpha m a)) P ++ rest) (sym (on-plain js))

        record_is : take (size_of (canvas_form g u a)) d ≡ encode (grid_on tray t)
        record_is =
            ap₂ (λ (m : Form) (q : List ℕ). take (size_of m) q) form buffer
            ∙ start-record P a rest (ap (λ (m : Form). m.format.alpha) (on-plain js) ∙ one) small
            ∙ ap (λ (n : ℕ). encode (reform P n)) (k.alpha ∙ alpha-is)
            ∙ encode-agree _ _ seen
            ∙ encode-agree _ _ (grid-agree tray t ok)

-- Document 01: "Canvas session", and "Grid". A session over a grid's body that places all cells, in any order and as often as one
-- likes, each with a record that shows the tile of its index in the tray, and finishes, comes to what composite_grid comes to over
-- body and tray, in a buffer that holds the canvas's record and its reserved alpha plane.
pub any-order-composes : (body tray : List ℕ) (t : Tiles) → Bytes body → tiles_of body tray ≡ Ok t → (R : ℕ → List ℕ) (F : ℕ → Frame) → ((i : ℕ) → i < count_of t.desc → record_of (R i) ≡ Ok (F i))
    → ((i : ℕ) → i < count_of t.desc → Agree (decode (R i) (F i)) (picture_in tray (frames_in tray t) i)) → (js : List ℕ) → ((i : ℕ) → among i js ≡ ltb i (count_of t.desc)) → (d : List ℕ) → size_of (reserved_form t.desc t.tile) ≤ length d
    → session_run body R js d ≡ grid_run body tray (length d)
any-order-composes body tray t small e R F taken same js cells d room = go js cells ∙ sym (grid-fits body tray (length d) t e fits)
  where
    source : TilesFrom body tray t
    source = tiles-from body tray t e

    ok : TilesTaken tray t
    ok = tiles-taken body tray t small e

    grid : GridSound t.desc
    grid = grid-taken body t.desc (unfold Bytes in small) source.desc

    started : session_of body ≡ Ok (record { desc = t.desc; tile = no_form; alpha = 0; marks = no_marks })
    started = unfold session_of open_of in then-done _ source.desc

    some : 0 < count_of t.desc
    some = count-some t.desc ok.rows.0 ok.columns.0

    fits : size_of (canvas_form t.desc t.tile t.alpha) ≤ length d
    fits =
        let most : t.alpha ≤ 1 = rw (canvas-alpha-is t.desc t.tile t.alpha) at ok.canvas.alpha in
        let k : size_of (canvas_form t.desc t.tile t.alpha) ≤ size_of (reserved_form t.desc t.tile) = unfold reserved_form canvas_form with_alpha in size-alpha (canvas_form t.desc t.tile 1) t.alpha refl most in
        omega arith

    go : (js : List ℕ) → ((i : ℕ) → among i js ≡ ltb i (count_of t.desc)) → session_run body R js d ≡ Ok (encode (grid_on tray t))
    go [] cells = absurd (no (sym none ∙ cells 0 ∙ lt-ltb _ _ some))
      where
        none : among 0 [] ≡ false
        none = unfold among in refl

        no : ◌≡◌ {A = Bool} false true → ⊥
        no q = apart (cc)
    go (j ∷ ks) cells =
        let k = placed body tray t ok grid source R F taken same d j ks (λ i m. ltb-true _ _ (sym (cells i) ∙ m)) room in
        unfold session_run in then-done _ started ∙ then-done _ k.done-with ∙ finished body tray t ok grid source R F taken same (j ∷ ks) cells _ k.u k.a k.ms k.d k.going
