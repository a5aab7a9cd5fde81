-- What places and blanks in turn leave: each place of the canvas shows the last tile that was drawn in its cell and has the plane.
use Rattle.std.specs.Prelude.{Ok}
use mathlib.Core.Bool.{Bool, ◌&&◌, false, not, true}
use mathlib.Core.List.{List, [], ◌++◌, ◌∷◌}
use mathlib.Core.Path.{◌∙◌, ◌≡◌, ap, ap₂, refl, sym}
use Prim.Native.Nat.{◌%◌, ◌*◌, ◌-◌, ◌/◌, ◌<◌, ◌^◌, ◌≤◌, ℕ}
use native.Mathlib.Omega.{arith}
use lib.Dec.{eqb}
use lib.ListN.{drop, length}
use borrow.Author.Tests.{eq-eqb, eqb-true, leb-true, ne_eqb, not-false}
use Rattle.laws.proofs.Order.{and-true, apart, by_equal, by-test, pick-false, pick_true, true-and}
use Rattle.laws.proofs.Out.{and_then-done, done-same, refuse-done, then-done}
use Rattle.laws.specs.Pick.{pick}
use Rattle.image.proofs.FormLaws.{columns-some, rows-some}
use Rattle.records.proofs.RecordLaws.{whole-sound}
use Rattle.image.specs.Format.{columns_of, has_alpha, has_part, has_size, rows_of, top_of, with_alpha}
use Rattle.records.specs.Record.{record_of}
use Rattle.image.specs.Sound.{FormSound}
use Rattle.records.specs.Tray.{no_form}
use Rattle.image.specs.declared.format.Form.{Form}
use Rattle.image.specs.declared.format.Part.{Part}
use Rattle.image.specs.declared.format.Part.TheVariants.{Alpha, Cb, Cr, Luma}
use Rattle.image.specs.declared.format.PixelFormat.{PixelFormat}
use Rattle.records.specs.declared.record.Frame.{Frame}
use Rattle.records.specs.inner.Placed.{Sound}
use Rattle.planes.proofs.RoundTrip.{plane-agree}
use Rattle.planes.specs.Bytes.{decode, head_bytes, plane_bytes, size_of, tight_at}
use Rattle.planes.specs.Picture.{Agree, Pic}
use Rattle.derived.specs.Grid.{grid_of}
use Rattle.derived.specs.declared.grid.GridDescriptor.{GridDescriptor}
use Rattle.grid.proofs.Composed.{below, canvas-alpha-is, canvas-columns, canvas-depth, columns-same, promotes-colour, rows-same-form}
use Rattle.grid.proofs.MosaicLaws.{pastes, pastes-at, pastes-form}
use Rattle.cells.proofs.PasteLaws.{Meets, paste_tile}
use Rattle.cells.proofs.Suited.{suits-bytes, suits-canvas, tile-alpha, tile-parts, tile-sample, tile-sound, tile_pic-form}
use Rattle.cells.specs.Cell.{tile_form, tile_pic}
use Rattle.grid.specs.Mosaic.{among, plain_at, plain_pic, tile_index}
use Rattle.paste.specs.Stored.{headed}
use Rattle.tiles.specs.Tiles.{canvas_form, spans_canvas, promotes_of, same_layout}
use Rattle.grid.specs.inner.Ready.{Alike}
use Rattle.cells.specs.inner.Rows.{FitsCanvas}
use Rattle.session.proofs.BlankLaws.{blank-suits}
use Rattle.session.proofs.DrawLaws.{begun-later}
use Rattle.session.proofs.KeepLaws.{Blanking, Placing, accept-first, accept-later, bare-state, blank-taken, place-taken, state-covers, wide-tile}
use Rattle.sequence.proofs.SequenceLaws.{begun-laid, drawn-laid}
use Rattle.session.proofs.StateLaws.{Accepted, TileHeld, accept-done, place-suits, state-grid, state-tile}
use Rattle.sequence.specs.Sequence.{Call, alpha_number, blank, call_all, call_of, calls_run, cell_at, cell_in, drawn_at, drawn_pic, first_tile, left_at, left_bytes, left_pic, picture_of, place, shown_in}
use Rattle.session.specs.Session.{CanvasAfter, begun, blank_at, blank_of, blank_pic, blanked_as, drawn_on, marked_on, place_of, placed_as, reserved_form, session_of}
use Rattle.session.specs.State.{accept_of, has_tile, open_of, state_ok}
use Rattle.session.specs.declared.state.Canvas.{Canvas}

-- ---- what an accepted call draws

accept-alike : (s : Canvas) (m t : Form) → accept_of s m ≡ Ok t → Alike t m
unfolding accept_of has_size same_layout
accept-alike s m t e =
    by-test (has_tile s)
    (λ h.
    let u = refuse-done _ 13 _ t (sym (pick_true (has_tile s) _ _ h) ∙ e) in
    let v = refuse-done _ 14 _ t u.1 in
    let a = and-true _ _ (not-false _ u.0) in
    let k = and-true _ _ (not-false _ v.0) in
    let q : s.tile ≡ t = done-same _ t v.1 in
    rw (← q) (record { width = eqb-true _ _ a.0; height = eqb-true _ _ a.1; chroma = eqb-true _ _ k.0; depth = eqb-true _ _ k.1 }))
    (λ h.
    let u = refuse-done _ 12 _ t (sym (pick-false (has_tile s) _ _ h) ∙ e) in
    let q : m ≡ t = done-same _ t u.1 in
    rw (← q) (record { width = refl; height = refl; chroma = refl; depth = refl }))

suits-meets : (s : List ℕ) (fr : Frame) (c : Form) (b : Bool) (n : ℕ) → FitsCanvas s fr c b n → Meets (tile_form b fr.form) c
suits-meets s fr c b n k = record {
  sound = k.canvas;
  parts = λ p h. suits-canvas s fr c b n k p (sym (tile-parts b fr.form k.colour p) ∙ h);
  bytes = suits-bytes s fr c b n k Luma;
}

-- a tile T in a cell: what it asks holds, and what it changes
record Draws (s : Canvas) (c : Call) (d : List ℕ) (x : CanvasAfter) : Type 0 where
  t : Form
  T : Pic
  is : T ≡ picture_of t c
  desc : x.canvas.desc ≡ s.desc
  tile : x.canvas.tile ≡ t
  sound : FormSound t
  covers : spans_canvas s.desc t ≡ true
  alike : Alike t T.form
  meets : Meets (tile_form (promotes_of s.desc t) T.form) (reserved_form s.desc t)
  first : has_tile s ≡ false → t ≡ first_tile c []
  held : has_tile s ≡ true → s.tile ≡ t
  bounded : s.alpha ≤ 1
  alpha : x.canvas.alpha ≡ pick (has_alpha T.form.format) 1 s.alpha
  number : (cs : List Call) → s.alpha ≡ alpha_number cs → x.canvas.alpha ≡ alpha_number (c ∷ cs)
  room : size_of (reserved_form s.desc t) ≤ length d
  buffer : x.buffer ≡ drawn_on s.desc t (cell_in c) T.form T (begun (not (has_tile s)) (reserved_form s.desc t) d)

draws-as : {s : Canvas} {c : Call} {d : List ℕ} {x y : CanvasAfter} → x ≡ y → Draws s c d x → Draws s c d y
draws-as e k = rw e at k

few-of : (s : Canvas) → state_ok s ≡ true → s.alpha ≤ 1
few-of s e = by-test (has_tile s) (λ h. (state-tile s e h).alpha) (λ h. let z = (bare-state s e h).0 in omega arith)

place-draws : (s : Canvas) (i : ℕ) (bytes d : List ℕ) (x : CanvasAfter) → place_of s i bytes d ≡ Ok x → Draws s (place i bytes) d x
place-draws s i bytes d x e = draws-as k.same drawn
  where
    k : Placing s i bytes d x
    k = place-taken s i bytes d x e

    fr : Frame
    fr = k.frame

    sound : Sound bytes fr
    sound = (whole-sound _ _ k.here).0

    form-is : (decode bytes fr).form ≡ fr.form
    form-is = unfold decode in refl

    accepted : Accepted fr.form k.tile
    accepted = accept-done s fr.form k.tile k.sound sound.form k.accepted

    covered : spans_canvas s.desc k.tile ≡ true
    covered =
        by-test (has_tile s)
        (λ h. ap (spans_canvas s.desc) (sym (accept-later s _ _ h k.accepted)) ∙ state-covers s k.sound h)
        (λ h. let u = accept-first s _ _ h k.accepted in ap (spans_canvas s.desc) (sym u.1) ∙ u.0)

    shown : decode bytes fr ≡ picture_of k.tile (place i bytes)
    shown = unfold picture_of shown_in in ap (shown_in bytes) (sym k.here)

    form-first : fr.form ≡ first_tile (place i bytes) []
    form-first = unfold first_tile picture_of decode in ap (λ (P : Pic). P.form) shown

    number : (cs : List Call) → s.alpha ≡ alpha_number cs → pick (has_alpha fr.form.format) 1 s.alpha ≡ alpha_number (place i bytes ∷ cs)
    number cs q =
        unfold alpha_number picture_of decode in
        ap (pick (has_alpha fr.form.format) 1) q ∙ ap (λ (P : Pic). pick (has_alpha P.form.format) 1 (alpha_number cs)) shown

    drawn : Draws s (place i bytes) d (placed_as s i bytes d fr k.tile)
    drawn =
        unfold placed_as marked_on cell_in in
        record {
          t = k.tile;
          T = decode bytes fr;
          is = shown;
          desc = refl;
          tile = refl;
          sound = accepted.tile;
          covers = covered;
          alike = rw form-is (accept-alike s fr.form k.tile k.accepted);
          meets = rw form-is (unfold reserved_form in suits-meets bytes fr _ _ _ (place-suits s.desc k.tile bytes fr _ (state-grid s k.sound) sound accepted (unfold reserved_form in k.room)));
          first = λ h. sym (accept-first s _ _ h k.accepted).1 ∙ form-first;
          held = λ h. accept-later s _ _ h k.accepted;
          bounded = few-of s k.sound;
          alpha = rw form-is refl;
          number = number;
          room = k.room;
          buffer = rw form-is refl;
        }

-- the first tile's alpha is in the alpha number
blank-number : (f : PixelFormat) (a : ℕ) → f.alpha ≤ a → a ≤ 1 → a ≡ pick (has_alpha f) 1 a
unfolding has_alpha
blank-number f a l m = by_equal f.alpha 0 (λ z. sym (pick-false _ _ _ (ap not (eq-eqb _ _ z)))) (λ d. let o : a ≡ 1 = omega arith in o ∙ sym (pick_true _ _ _ (ap not (ne_eqb _ _ d))))

blank-draws : (s : Canvas) (i : ℕ) (d : List ℕ) (x : CanvasAfter) → blank_of s i d ≡ Ok x → Draws s (blank i) d x
blank-draws s i d x e = draws-as k.same drawn
  where
    k : Blanking s i d x
    k = blank-taken s i d x e

    held : TileHeld s
    held = state-tile s k.sound k.tiled

    no : ◌≡◌ {A = Bool} false true → ⊥
    no q = apart (cc)

    drawn : Draws s (blank i) d (blanked_as s i d)
    drawn =
        unfold blanked_as marked_on cell_in picture_of blank_pic in
        record {
          t = s.tile;
          T = blank_pic s.tile;
          is = refl;
          desc = refl;
          tile = refl;
          sound = held.tile;
          covers = state-covers s k.sound k.tiled;
          alike = record { width = refl; height = refl; chroma = refl; depth = refl };
          meets = unfold reserved_form tight_at in suits-meets _ (tight_at s.tile 0) _ _ _ (blank-suits s.desc s.tile _ (state-grid s k.sound) held.tile (unfold reserved_form in k.room));
          first = λ h. absurd (no (sym h ∙ k.tiled));
          held = λ h. refl;
          bounded = held.alpha;
          alpha = blank-number s.tile.format s.alpha held.least held.alpha;
          number = λ cs q. unfold alpha_number in q;
          room = k.room;
          buffer = ap (drawn_on s.desc s.tile i s.tile (blank_pic s.tile)) (sym (begun-later _ _ d (ap not k.tiled)));
        }

call-draws : (c : Call) (e x : CanvasAfter) → call_of c e ≡ Ok x → Draws e.canvas c e.buffer x
unfolding call_of
call-draws (place i bytes) e x q = place-draws e.canvas i bytes e.buffer x q
call-draws (blank i) e x q = blank-draws e.canvas i e.buffer x q

-- ---- one cell more

laid-agree : (h : List ℕ) (P Q : Pic) → Agree P Q → headed h P ≡ headed h Q
unfolding headed
laid-agree h P Q a = go ∙ ap (λ (m : Form). headed h (record { form = m; at = Q.at })) a.form
  where
    each : (p : Part) → plane_bytes P p ≡ plane_bytes (record { form = P.form; at = Q.at }) p
    each p = plane-agree P.form P.at Q.at p (λ x y t c d. a.reads p t x y c d)

    go : headed h P ≡ headed h (record { form = P.form; at = Q.at })
    go = rw (each Luma, each Cb, each Cr, each Alpha)

only : (b : Bool) → pick b true false ≡ b
unfolding pick
only true = refl
only false = refl

module _ (g : GridDescriptor) (t : Form) (sound : FormSound t) (covers : spans_canvas g t ≡ true) (c : Call) (cs : List Call) (alike : Alike t (picture_of t c).form) where
  abbrev b : Bool
  b = promotes_of g t

  abbrev T : Pic
  T = tile_pic b (picture_of t c)

  abbrev P : Pic
  P = left_pic g t cs

  abbrev i : ℕ
  i = cell_in c

  pasted-form : (paste_tile T (i % g.columns) (i / g.columns) P).form ≡ reserved_form g t
  pasted-form = unfold pastes left_pic in pastes-form (λ j. T) g.columns (i ∷ []) P

  module _ (p : Part) (x y : ℕ) (in_x : x < columns_of (reserved_form g t) p) (in_y : y < rows_of (reserved_form g t) p) where
    abbrev w : ℕ
    w = columns_of (tile_form b t) p

    abbrev h : ℕ
    h = rows_of (tile_form b t) p

    some-x : 0 < w
    some-x = columns-some (tile_form b t) (tile-sound b t sound) p

    some-y : 0 < h
    some-y = rows-some (tile_form b t) (tile-sound b t sound) p

    wide : g.output_width ≤ t.width * g.columns
    wide = unfold spans_canvas in leb-true _ _ (and-true _ _ (unfold spans_canvas in covers)).0

    column : x / w < g.columns
    column =
        let l : x < columns_of (canvas_form g t 1) p = unfold reserved_form in in_x in
        below x _ _ _ l some-x (canvas-columns g t 1 p wide)

    sizes : (columns_of T.form p ≡ w) × (rows_of T.form p ≡ h)
    sizes = (
      ap (λ (m : Form). columns_of m p) (tile_pic-form b (picture_of t c)) ∙ columns-same b (picture_of t c).form t p alike.width alike.chroma,
      ap (λ (m : Form). rows_of m p) (tile_pic-form b (picture_of t c)) ∙ rows-same-form b (picture_of t c).form t p alike.height alike.chroma,
    )

    abbrev own : ℕ
    own = tile_index g.columns w h x y

    pasted-one : (paste_tile T (i % g.columns) (i / g.columns) P).at p x y ≡ pick (pick (eqb i own) true false && has_part T.form.format p) (T.at p (x % w) (y % h)) (P.at p x y)
    unfolding pastes among left_pic
    pasted-one = pastes-at (reserved_form g t) (λ j. T) g.columns p w h x y in_x in_y some-x some-y column (i ∷ []) P refl (λ j m. sizes)

    pasted-left : (paste_tile T (i % g.columns) (i / g.columns) P).at p x y ≡ (left_pic g t (c ∷ cs)).at p x y
    unfolding left_pic left_at cell_at drawn_pic drawn_at
    pasted-left = pasted-one ∙ ap (λ (q : Bool). pick (q && has_part T.form.format p) (T.at p (x % w) (y % h)) (P.at p x y)) (only (eqb i own))

  pasted-agree : Agree (paste_tile T (i % g.columns) (i / g.columns) P) (left_pic g t (c ∷ cs))
  pasted-agree =
      record {
        form = pasted-form ∙ (unfold left_pic in refl);
        reads = λ p has x y lx ly. pasted-left p x y (rw pasted-form at lx) (rw pasted-form at ly);
      }

-- the buffer: the record with its alpha number a, the reserved plane, and what lay past it
abbrev held-as : GridDescriptor → Form → ℕ → List Call → List ℕ → List ℕ
held-as g t a cs d = headed (head_bytes (with_alpha (reserved_form g t) a)) (left_pic g t cs) ++ drop (size_of (reserved_form g t)) d

more : (s : Canvas) (c : Call) (cs : List Call) (d d₀ : List ℕ) (x : CanvasAfter) (k : Draws s c d x) → begun (not (has_tile s)) (reserved_form s.desc k.t) d ≡ held-as s.desc k.t s.alpha cs d₀
    → x.buffer ≡ held-as x.canvas.desc x.canvas.tile x.canvas.alpha (c ∷ cs) d₀
more s c cs d d₀ x k begins =
    k.buffer
    ∙ ap (drawn_on s.desc k.t (cell_in c) k.T.form k.T) begins
    ∙ drawn-laid s.desc k.t k.T.form (cell_in c) s.alpha k.T (left_pic s.desc k.t cs) _ (unfold left_pic in refl)
    (rw (tile_pic-form (promotes_of s.desc k.t) k.T) k.meets) k.bounded
    ∙ ap (λ (T : Pic).
    headed (head_bytes (with_alpha (reserved_form s.desc k.t) (pick (has_alpha k.T.form.format) 1 s.alpha)))
    (paste_tile (tile_pic (promotes_of s.desc k.t) T) (cell_in c % s.desc.columns) (cell_in c / s.desc.columns) (left_pic s.desc k.t cs))
    ++ drop (size_of (reserved_form s.desc k.t)) d₀)
    k.is
    ∙ ap (λ (q : List ℕ). q ++ drop (size_of (reserved_form s.desc k.t)) d₀)
    (laid-agree _ _ _ (pasted-agree s.desc k.t k.sound k.covers c cs (rw (← k.is) k.alike)))
    ∙ ap (λ (a : ℕ). held-as s.desc k.t a (c ∷ cs) d₀) (sym k.alpha)
    ∙ ap₂ (λ (g : GridDescriptor) (t : Form). held-as g t x.canvas.alpha (c ∷ cs) d₀) (sym k.desc) (sym k.tile)

-- ---- calls in turn

record After (g : GridDescriptor) (c : Call) (cs : List Call) (d : List ℕ) (e : CanvasAfter) : Type 0 where
  desc : e.canvas.desc ≡ g
  tile : e.canvas.tile ≡ first_tile c cs
  tiled : has_tile e.canvas ≡ true
  alpha : e.canvas.alpha ≡ alpha_number (c ∷ cs)
  buffer : e.buffer ≡ held-as e.canvas.desc e.canvas.tile e.canvas.alpha (c ∷ cs) d

has-form : (s : Canvas) (t : Form) → s.tile ≡ t → FormSound t → has_tile s ≡ true
unfolding has_tile
has-form s t e k = ap (λ (m : Form). not (eqb m.width 0)) e ∙ wide-tile t k

after_first : (c : Call) (s : Canvas) (d : List ℕ) (x : CanvasAfter) → has_tile s ≡ false → s.alpha ≡ 0 → Draws s c d x → After s.desc c [] d x
after_first c s d x bare none k = record {
  desc = k.desc;
  tile = k.tile ∙ k.first bare;
  tiled = has-form x.canvas k.t k.tile k.sound;
  alpha = k.number [] (none ∙ (unfold alpha_number in refl));
  buffer = more s c [] d d x k begins;
}
  where
    C : Form
    C = reserved_form s.desc k.t

    one : C.format.alpha ≡ 1
    one = unfold reserved_form in canvas-alpha-is s.desc k.t 1

    plain : plain_pic C ≡ left_pic s.desc k.t []
    plain = unfold plain_pic left_pic left_at in refl

    begins : begun (not (has_tile s)) C d ≡ held-as s.desc k.t s.alpha [] d
    begins =
        ap (λ (q : Bool). begun q C d) (ap not bare)
        ∙ begun-laid C d one k.room
        ∙ ap₂ (λ (n : ℕ) (P : Pic). headed (head_bytes (with_alpha C n)) P ++ drop (size_of C) d) (sym none) plain

after_more : (g : GridDescriptor) (c c₁ : Call) (cs : List Call) (d : List ℕ) (e x : CanvasAfter) → After g c₁ cs d e → Draws e.canvas c e.buffer x → After g c (c₁ ∷ cs) d x
after_more g c c₁ cs d e x before k = record {
  desc = k.desc ∙ before.desc;
  tile = unfold first_tile in k.tile ∙ sym (k.held before.tiled) ∙ before.tile;
  tiled = has-form x.canvas k.t k.tile k.sound;
  alpha = k.number (c₁ ∷ cs) before.alpha;
  buffer = more e.canvas c (c₁ ∷ cs) e.buffer d x k begins;
}
  where
    begins : begun (not (has_tile e.canvas)) (reserved_form e.canvas.desc k.t) e.buffer ≡ held-as e.canvas.desc k.t e.canvas.alpha (c₁ ∷ cs) d
    begins =
        begun-later _ _ _ (ap not before.tiled)
        ∙ before.buffer
        ∙ ap (λ (t : Form). held-as e.canvas.desc t e.canvas.alpha (c₁ ∷ cs) d) (k.held before.tiled)

after-all : (c : Call) (cs : List Call) (s : Canvas) (d : List ℕ) (x : CanvasAfter) → has_tile s ≡ false → s.alpha ≡ 0 → call_all (c ∷ cs) (record { canvas = s; buffer = d }) ≡ Ok x → After s.desc c cs d x
unfolding call_all
after-all c [] s d x bare none e =
    let a = and_then-done _ _ x e in
    let q = done-same _ _ a.1 in
    after_first c s d x bare none (call-draws c (record { canvas = s; buffer = d }) x (rw q a.2))
after-all c (c₁ ∷ cs) s d x bare none e =
    let a = and_then-done _ _ x e in
    after_more s.desc c c₁ cs d a.0 x (after-all c₁ cs s d a.0 bare none a.1) (call-draws c a.0 x a.2)

open-bare : (body : List ℕ) (g : GridDescriptor) (s : Canvas) → grid_of body ≡ Ok g → session_of body ≡ Ok s → (s.desc ≡ g) × (has_tile s ≡ false) × (s.alpha ≡ 0)
unfolding session_of
open-bare body g s e q =
    let k : open_of g ≡ s = done-same _ s (sym (then-done _ e) ∙ q) in
    rw (← k) (unfold open_of has_tile no_form in (refl, refl, refl))

-- Document 01, "Canvas session". After start and calls that were accepted, of which one at least, the buffer holds the canvas's tight
-- record and the reserved alpha plane, and past them what lay there. Each place shows the last tile that was drawn in its cell and has
-- the plane: a cell that is placed or blanked again is overwritten, and a tile without alpha, or a blank where the first tile has none,
-- leaves the alpha there.
pub calls-leave : (body d : List ℕ) (g : GridDescriptor) (c : Call) (cs : List Call) (x : CanvasAfter) → grid_of body ≡ Ok g → calls_run body (c ∷ cs) d ≡ Ok x
    → (x.buffer ≡ left_bytes g (first_tile c cs) (c ∷ cs) ++ drop (size_of (reserved_form g (first_tile c cs))) d) × (x.canvas.desc ≡ g) × (x.canvas.tile ≡ first_tile c cs) × (x.canvas.alpha ≡ alpha_number (c ∷ cs))
unfolding calls_run
calls-leave body d g c cs x e q =
    let a = and_then-done (session_of body) _ x q in
    let o = open-bare body g a.0 e a.1 in
    let k = after-all c cs a.0 d x o.1 o.2 a.2 in
    let f : x.canvas.desc ≡ g = k.desc ∙ o.0 in (
      k.buffer
          ∙ as-left x.canvas.desc x.canvas.tile x.canvas.alpha (c ∷ cs) d k.alpha
          ∙ ap₂ (λ (h : GridDescriptor) (t : Form). left_bytes h t (c ∷ cs) ++ drop (size_of (reserved_form h t)) d) f k.tile,
      f,
      k.tile,
      k.alpha,
    )
  where
    with-a : (g : GridDescriptor) (t : Form) (a : ℕ) → with_alpha (reserved_form g t) a ≡ canvas_form g t a
    with-a g t a = unfold canvas_form reserved_form with_alpha in refl

    as-left : (g : GridDescriptor) (t : Form) (a : ℕ) (cs : List Call) (d : List ℕ) → a ≡ alpha_number cs → held-as g t a cs d ≡ left_bytes g t cs ++ drop (size_of (reserved_form g t)) d
    as-left g t a cs d q = unfold left_bytes in ap (λ (m : Form). headed (head_bytes m) (left_pic g t cs) ++ drop (size_of (reserved_form g t)) d) (with-a g t a ∙ ap (canvas_form g t) q)

-- ---- what one call leaves over those before it, in document 01's words

module _ (g : GridDescriptor) (t : Form) (cs : List Call) (x y : ℕ) where
  -- a call for another cell
  pub other-cell : (c : Call) (p : Part) → (cell_in c ≡ cell_at g t p x y → ⊥) → left_at g t (c ∷ cs) p x y ≡ left_at g t cs p x y
  unfolding left_at
  other-cell c p d = pick-false _ _ _ (rw (ne_eqb _ _ d) refl)

  lacks : (c : Call) (p : Part) → has_part (drawn_pic g t c).form.format p ≡ false → left_at g t (c ∷ cs) p x y ≡ left_at g t cs p x y
  unfolding left_at
  lacks c p h = pick-false _ _ _ (no_part (eqb (cell_in c) (cell_at g t p x y)) h)
    where
      no_part : (a : Bool) {b : Bool} → b ≡ false → (a && b) ≡ false
      no_part true e = e
      no_part false e = refl

  has : (c : Call) (p : Part) → cell_in c ≡ cell_at g t p x y → has_part (drawn_pic g t c).form.format p ≡ true → left_at g t (c ∷ cs) p x y ≡ drawn_at g t c p x y
  unfolding left_at
  has c p e h = pick_true _ _ _ (true-and _ _ (eq-eqb _ _ e) h)

  drawn-form : (c : Call) → (drawn_pic g t c).form ≡ tile_form (promotes_of g t) (picture_of t c).form
  unfolding drawn_pic
  drawn-form c = tile_pic-form (promotes_of g t) (picture_of t c)

  drawn-alpha : (c : Call) → has_part (drawn_pic g t c).form.format Alpha ≡ has_alpha (picture_of t c).form.format
  unfolding has_part has_alpha
  drawn-alpha c = ap (λ (n : ℕ). not (eqb n 0)) (ap (λ (m : Form). m.format.alpha) (drawn-form c) ∙ tile-alpha (promotes_of g t) (picture_of t c).form)

  -- "Placing a cell again overwrites it", whatever was placed or blanked there before
  pub place-over : (i : ℕ) (bytes : List ℕ) (p : Part) → i ≡ cell_at g t p x y → has_part (drawn_pic g t (place i bytes)).form.format p ≡ true
      → left_at g t (place i bytes ∷ cs) p x y ≡ drawn_at g t (place i bytes) p x y
  place-over i bytes p e h = has (place i bytes) p (unfold cell_in in e) h

  -- "but a tile without alpha leaves the alpha there"
  pub place-leaves : (i : ℕ) (bytes : List ℕ) → has_alpha (picture_of t (place i bytes)).form.format ≡ false → left_at g t (place i bytes ∷ cs) Alpha x y ≡ left_at g t cs Alpha x y
  place-leaves i bytes h = lacks (place i bytes) Alpha (drawn-alpha (place i bytes) ∙ h)

  -- "A blank cell has the first tile's form: 2^(depth−1) in each colour plane, alpha top if that tile had alpha"
  pub blank-over : (i : ℕ) (p : Part) → i ≡ cell_at g t p x y → has_part t.format p ≡ true → left_at g t (blank i ∷ cs) p x y ≡ blank_at t.format p
  blank-over i p e h = has (blank i) p (unfold cell_in in e) part ∙ sample
    where
      is-blank : picture_of t (blank i) ≡ blank_pic t
      is-blank = unfold picture_of in refl

      form : (picture_of t (blank i)).form ≡ t
      form = unfold picture_of blank_pic in refl

      part : has_part (drawn_pic g t (blank i)).form.format p ≡ true
      part = ap (λ (m : Form). has_part m.format p) (drawn-form (blank i) ∙ ap (tile_form (promotes_of g t)) form) ∙ tile-parts (promotes_of g t) t (promotes-colour g t) p ∙ h

      sample : drawn_at g t (blank i) p x y ≡ blank_at t.format p
      sample = unfold drawn_at drawn_pic picture_of blank_pic in tile-sample (promotes_of g t) (blank_pic t) p h _ _

  -- "else the alpha there is left"
  pub blank-leaves : (i : ℕ) → has_alpha t.format ≡ false → left_at g t (blank i ∷ cs) Alpha x y ≡ left_at g t cs Alpha x y
  blank-leaves i h = lacks (blank i) Alpha (drawn-alpha (blank i) ∙ (unfold picture_of blank_pic in h))

-- the alpha that is there before a tile with alpha came: top
no-alpha-yet : (g : GridDescriptor) (t : Form) (cs : List Call) (x y : ℕ) → has_alpha t.format ≡ false → alpha_number cs ≡ 0 → left_at g t cs Alpha x y ≡ top_of t.format
unfolding alpha_number left_at
no-alpha-yet g t [] x y h e = unfold plain_at reserved_form top_of in ap (λ (n : ℕ). 2 ^ n - 1) (canvas-depth g t 1)
no-alpha-yet g t (place i bytes ∷ cs) x y h e =
    by-test (has_alpha (shown_in bytes (record_of bytes)).form.format)
    (λ a. absurd (one (sym (pick_true _ _ _ a) ∙ e)))
    (λ a. place-leaves g t cs x y i bytes (unfold picture_of in a) ∙ no-alpha-yet g t cs x y h (sym (pick-false _ _ _ a) ∙ e))
  where
    one : ◌≡◌ {A = ℕ} 1 0 → ⊥
    one q = omega arith
no-alpha-yet g t (blank i ∷ cs) x y h e = blank-leaves g t cs x y i h ∙ no-alpha-yet g t cs x y h e

before-none : (c : Call) (cs : List Call) → alpha_number (c ∷ cs) ≡ 0 → alpha_number cs ≡ 0
unfolding alpha_number
before-none (place i bytes) cs e =
    by-test (has_alpha (shown_in bytes (record_of bytes)).form.format) (λ a. absurd (one (sym (pick_true _ _ _ a) ∙ e))) (λ a. sym (pick-false _ _ _ a) ∙ e)
  where
    one : ◌≡◌ {A = ℕ} 1 0 → ⊥
    one q = omega arith
before-none (blank i) cs e = e

-- the first tile's alpha is in the alpha number
first-opaque : (c : Call) (cs : List Call) → alpha_number (c ∷ cs) ≡ 0 → has_alpha (first_tile c cs).format ≡ false
unfolding first_tile alpha_number picture_of
first-opaque (place i bytes) [] e =
    by-test (has_alpha (shown_in bytes (record_of bytes)).form.format) (λ a. absurd (one (sym (pick_true _ _ _ a) ∙ e))) (λ a. a)
  where
    one : ◌≡◌ {A = ℕ} 1 0 → ⊥
    one q = omega arith
first-opaque (blank i) [] e = unfold blank_pic no_form has_alpha in refl
first-opaque c (c₁ ∷ cs) e = first-opaque c₁ cs (before-none c (c₁ ∷ cs) e)

-- a blank before a tile with alpha came has alpha top; a later call for another cell leaves it (other-cell)
pub blank-before-alpha : (g : GridDescriptor) (c : Call) (cs : List Call) (i x y : ℕ) → alpha_number (c ∷ cs) ≡ 0 → left_at g (first_tile c cs) (blank i ∷ (c ∷ cs)) Alpha x y ≡ top_of (first_tile c cs).format
blank-before-alpha g c cs i x y e =
    let h = first-opaque c cs e in
    blank-leaves g (first_tile c cs) (c ∷ cs) x y i h ∙ no-alpha-yet g (first_tile c cs) (c ∷ cs) x y h e
