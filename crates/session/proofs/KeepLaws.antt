-- Each call keeps a state that calls can have made: start makes one, place and blank keep it (MadeLaws has the other way too).
use Rattle.std.specs.Prelude.{Ok}
use mathlib.Core.Bool.{false, not, true}
use mathlib.Core.List.{List}
use mathlib.Core.Path.{◌∙◌, ◌≡◌, ap, refl, sym}
use Prim.Native.Nat.{◌*◌, ◌-◌, ◌/◌, ◌<◌, ◌^◌, ◌≤◌, ℕ}
use native.Mathlib.Nat.{div-eq_of_lt}
use native.Mathlib.Omega.{arith}
use lib.Dec.{eqb, leb}
use lib.ListN.{get_or, length, length-replicate, replicate}
use lib.Pow.{pow_pos}
use borrow.Author.Tests.{eqb-true, le-leb, leb-false, ltb-false, ne_eqb, not-false, not-true}
use Rattle.laws.proofs.Order.{and-true, by_equal, by-test, mul-below, pick-both, pick-false, pick-le, pick_true, true-and}
use Rattle.laws.proofs.Out.{and_then-done, done-same, done-yes, refuse-done}
use Rattle.laws.specs.Pick.{pick}
use Rattle.laws.specs.Puts.{Bytes}
use Rattle.image.proofs.JudgedLaws.{form-taken, size-taken}
use Rattle.records.proofs.RecordLaws.{whole-sound}
use Rattle.image.specs.Format.{has_alpha}
use Rattle.records.specs.Record.{record_of}
use Rattle.image.specs.Sound.{FormSound}
use Rattle.records.specs.Tray.{no_form}
use Rattle.image.specs.declared.format.Form.{Form}
use Rattle.image.specs.declared.format.PixelFormat.{PixelFormat}
use Rattle.records.specs.declared.record.Frame.{Frame}
use Rattle.planes.specs.Bytes.{size_of}
use Rattle.derived.proofs.Taken.{grid-taken}
use Rattle.derived.specs.Grid.{grid_of}
use Rattle.derived.specs.declared.grid.GridDescriptor.{GridDescriptor}
use Rattle.derived.specs.inner.Sound.{GridSound}
use Rattle.tiles.specs.Tiles.{count_of, spans_canvas}
use Rattle.session.proofs.MarkLaws.{any-get, any_none, any_some, clear-all, clear-get, length-mark, mark-clear, mark-some, zero-words}
use Rattle.session.proofs.StateLaws.{count_small, state-grid, state-parts, state-tile}
use Rattle.session.specs.Marks.{any_word, clear_from, mark_of, no_marks}
use Rattle.session.specs.Session.{CanvasAfter, blank_of, blanked_as, marked_on, place_of, placed_as, reserved_form, session_of}
use Rattle.session.specs.State.{accept_of, bare_ok, form_ok, grid_ok, has_tile, open_of, state_ok, tiled_ok}
use Rattle.session.specs.declared.state.Canvas.{Canvas}

-- ---- what is sound passes its test

pub grid-ok : (g : GridDescriptor) → GridSound g → grid_ok g ≡ true
unfolding grid_ok
grid-ok g k =
    true-and _ _ (le-leb _ _ k.positive_rows)
    (true-and _ _ (le-leb _ _ k.bounded_rows) (true-and _ _ (le-leb _ _ k.positive_columns) (true-and _ _ (le-leb _ _ k.bounded_columns) (done-yes _ _ (size-taken _ k.canvas)))))

pub form-ok : (m : Form) → FormSound m → form_ok m ≡ true
unfolding form_ok
form-ok m k = done-yes _ m (form-taken m k)

-- ---- start

pub open-ok : (g : GridDescriptor) → GridSound g → state_ok (open_of g) ≡ true
unfolding state_ok open_of has_tile no_form bare_ok no_marks
open-ok g k = true-and _ _ (grid-ok g k) (pick-false _ _ _ refl ∙ ap not (any_none (replicate 1024 0) 0 1024 (zero-words 1024)))

pub start-ok : (body : List ℕ) (s : Canvas) → Bytes body → session_of body ≡ Ok s → (state_ok s ≡ true) × (length s.marks ≡ 1024)
unfolding session_of Bytes
start-ok body s small e =
    let k = and_then-done (grid_of body) _ s e in
    let q = done-same _ s k.2 in
    (ap state_ok (sym q) ∙ open-ok k.0 (grid-taken body k.0 small k.1), ap (λ (u : Canvas). length u.marks) (sym q) ∙ marks-long k.0)
  where
    marks-long : (g : GridDescriptor) → length (open_of g).marks ≡ 1024
    marks-long g = unfold open_of no_marks in length-replicate {A = ℕ} 1024 0

-- ---- a cell drawn

-- what a state says to a cell that is drawn in it: the first tile's form, and the words clear beyond the grid
pub record Ready (s : Canvas) (t : Form) : Type 0 where
  pub grid : GridSound s.desc
  pub tile : FormSound t
  pub covers : spans_canvas s.desc t ≡ true
  pub clear : (i : ℕ) → count_of s.desc / 64 ≤ i → i < 1024 → get_or s.marks i 0 / 2 ^ (count_of s.desc - i * 64) ≡ 0

pub wide-tile : (t : Form) → FormSound t → not (eqb t.width 0) ≡ true
wide-tile t k = ap not (ne_eqb _ _ some)
  where
    some : t.width ≡ 0 → ⊥
    some e = omega (arith, k.wide)

pub has-tile : (s : Canvas) (i : ℕ) (t : Form) (a : ℕ) → FormSound t → has_tile (marked_on s i t a) ≡ true
unfolding has_tile marked_on
has-tile s i t a k = wide-tile t k

state-whole : (s : Canvas) → grid_ok s.desc ≡ true → pick (has_tile s) (tiled_ok s) (bare_ok s) ≡ true → state_ok s ≡ true
unfolding state_ok
state-whole s g h = true-and _ _ g h

drawn-ok : (s : Canvas) (i : ℕ) (t : Form) (a : ℕ) → length s.marks ≡ 1024 → Ready s t → i < count_of s.desc → a ≤ 1 → t.format.alpha ≤ a → (state_ok (marked_on s i t a) ≡ true) × (length (marked_on s i t a).marks ≡ 1024)
drawn-ok s i t a n k l small least = (sound, long)
  where
    few : count_of s.desc ≤ 65536
    few = unfold count_of in count_small s.desc k.grid

    word : i / 64 < length s.marks
    word = rw n (omega (arith, few))

    long : length (marked_on s i t a).marks ≡ 1024
    long = unfold marked_on in length-mark s.marks i ∙ n

    tiled : tiled_ok (marked_on s i t a) ≡ true
    tiled =
        unfold tiled_ok marked_on in
        true-and _ _ (form-ok t k.tile)
        (true-and _ _ k.covers
        (true-and _ _ (le-leb _ _ small)
        (true-and _ _ (le-leb _ _ least)
        (true-and _ _
        (clear-all (mark_of s.marks i) (count_of s.desc) _ _ (λ j p q. mark-clear s.marks i (count_of s.desc) j word l (k.clear j p (omega (arith, few)))))
        (any_some (mark_of s.marks i) 0 1024 (i / 64) (omega arith) (omega (arith, few)) (mark-some s.marks i word))))))

    sound : state_ok (marked_on s i t a) ≡ true
    sound =
        let u = marked_on s i t a in
        let g : grid_ok u.desc ≡ true = unfold marked_on in grid-ok s.desc k.grid in
        let h : pick (has_tile u) (tiled_ok u) (bare_ok u) ≡ true = pick_true (has_tile u) (tiled_ok u) (bare_ok u) (has-tile s i t a k.tile) ∙ tiled in
        state-whole u g h

tiled-parts : (s : Canvas) → tiled_ok s ≡ true → (spans_canvas s.desc s.tile ≡ true) × (clear_from s.marks (count_of s.desc) (count_of s.desc / 64) (1024 - count_of s.desc / 64) ≡ true) × (any_word s.marks 0 1024 ≡ true)
unfolding tiled_ok
tiled-parts s k =
    let a = and-true (form_ok s.tile) _ k in
    let b = and-true (spans_canvas s.desc s.tile) _ a.1 in
    let c = and-true (leb s.alpha 1) _ b.1 in
    let d = and-true (leb s.tile.format.alpha s.alpha) _ c.1 in
    let e = and-true (clear_from s.marks (count_of s.desc) (count_of s.desc / 64) (1024 - count_of s.desc / 64)) _ d.1 in
    (b.0, e.0, e.1)

bare_parts : (s : Canvas) → bare_ok s ≡ true → (s.alpha ≡ 0) × (any_word s.marks 0 1024 ≡ false)
unfolding bare_ok
bare_parts s k =
    let a = and-true (eqb s.tile.height 0) _ k in
    let b = and-true (eqb s.tile.format.chroma 0) _ a.1 in
    let c = and-true (eqb s.tile.format.depth 0) _ b.1 in
    let d = and-true (eqb s.tile.format.alpha 0) _ c.1 in
    let e = and-true (eqb s.alpha 0) _ d.1 in
    (eqb-true _ _ e.0, not-true _ e.1)

-- with a tile
pub ready-tiled : (s : Canvas) → state_ok s ≡ true → has_tile s ≡ true → Ready s s.tile
ready-tiled s e h =
    record {
      grid = state-grid s e;
      tile = (state-tile s e h).tile;
      covers = parts.0;
      clear = λ i p q. clear-get s.marks (count_of s.desc) _ _ parts.1 i p (omega arith);
    }
  where
    tiled : tiled_ok s ≡ true
    tiled = sym (pick_true (has_tile s) (tiled_ok s) (bare_ok s) h) ∙ (state-parts s e).1

    parts : (spans_canvas s.desc s.tile ≡ true) × (clear_from s.marks (count_of s.desc) (count_of s.desc / 64) (1024 - count_of s.desc / 64) ≡ true) × (any_word s.marks 0 1024 ≡ true)
    parts = tiled-parts s tiled

pub state-covers : (s : Canvas) → state_ok s ≡ true → has_tile s ≡ true → spans_canvas s.desc s.tile ≡ true
state-covers s e h = (ready-tiled s e h).covers

pub state-marked : (s : Canvas) → state_ok s ≡ true → has_tile s ≡ true → any_word s.marks 0 1024 ≡ true
state-marked s e h = (tiled-parts s (sym (pick_true (has_tile s) (tiled_ok s) (bare_ok s) h) ∙ (state-parts s e).1)).2

-- before one
pub bare-state : (s : Canvas) → state_ok s ≡ true → has_tile s ≡ false → (s.alpha ≡ 0) × ((i : ℕ) → i < 1024 → get_or s.marks i 0 ≡ 0)
bare-state s e h = ((bare_parts s bare).0, λ i l. any-get s.marks 0 1024 (bare_parts s bare).1 i (omega arith) (omega arith))
  where
    bare : bare_ok s ≡ true
    bare = sym (pick-false (has_tile s) (tiled_ok s) (bare_ok s) h) ∙ (state-parts s e).1

ready-bare : (s : Canvas) (m : Form) → state_ok s ≡ true → has_tile s ≡ false → FormSound m → spans_canvas s.desc m ≡ true → Ready s m
ready-bare s m e h k c =
    record {
      grid = state-grid s e;
      tile = k;
      covers = c;
      clear = λ i p q. ap (λ (v : ℕ). v / 2 ^ (count_of s.desc - i * 64)) ((bare-state s e h).1 i q) ∙ div-eq_of_lt (pow_pos (count_of s.desc - i * 64));
    }

-- ---- place

-- what an accepted place says
pub record Placing (s : Canvas) (i : ℕ) (bytes d : List ℕ) (x : CanvasAfter) : Type 0 where
  pub sound : state_ok s ≡ true
  pub inside : i < count_of s.desc
  pub frame : Frame
  pub here : record_of bytes ≡ Ok frame
  pub tile : Form
  pub accepted : accept_of s frame.form ≡ Ok tile
  pub room : size_of (reserved_form s.desc tile) ≤ length d
  pub same : placed_as s i bytes d frame tile ≡ x

pub place-taken : (s : Canvas) (i : ℕ) (bytes d : List ℕ) (x : CanvasAfter) → place_of s i bytes d ≡ Ok x → Placing s i bytes d x
unfolding place_of
place-taken s i bytes d x e =
    let a = refuse-done _ 5 _ x e in
    let b = refuse-done _ 11 _ x a.1 in
    let c = and_then-done _ _ x b.1 in
    let f = and_then-done _ _ x c.2 in
    let h = refuse-done _ 17 _ x f.2 in
    record { sound = not-false _ a.0; inside = leb-false _ _ b.0; frame = c.0; here = c.1; tile = f.0; accepted = f.1; room = ltb-false _ _ h.0; same = done-same _ x h.1 }

pub accept-later : (s : Canvas) (m t : Form) → has_tile s ≡ true → accept_of s m ≡ Ok t → s.tile ≡ t
unfolding accept_of
accept-later s m t h e = done-same _ t (refuse-done _ 14 _ t (refuse-done _ 13 _ t (sym (pick_true (has_tile s) _ _ h) ∙ e)).1).1

pub accept-first : (s : Canvas) (m t : Form) → has_tile s ≡ false → accept_of s m ≡ Ok t → (spans_canvas s.desc m ≡ true) × (m ≡ t)
unfolding accept_of
accept-first s m t h e = let u = refuse-done _ 12 _ t (sym (pick-false (has_tile s) _ _ h) ∙ e) in (not-false _ u.0, done-same m t u.1)

alpha-first : (f : PixelFormat) (a : ℕ) → f.alpha ≤ 1 → f.alpha ≤ pick (has_alpha f) 1 a
unfolding has_alpha
alpha-first f a l = by_equal f.alpha 0 (λ z. omega arith) (λ d. rw (pick_true (not (eqb f.alpha 0)) 1 a (ap not (ne_eqb f.alpha 0 d))) l)

alpha-keeps : (f : PixelFormat) (a n : ℕ) → n ≤ a → a ≤ 1 → n ≤ pick (has_alpha f) 1 a
alpha-keeps f a n l m = pick-both (λ (v : ℕ). n ≤ v) (has_alpha f) 1 a (omega arith) l

pub place_ok : (s : Canvas) (i : ℕ) (bytes d : List ℕ) (x : CanvasAfter) → length s.marks ≡ 1024 → place_of s i bytes d ≡ Ok x → (state_ok x.canvas ≡ true) × (length x.canvas.marks ≡ 1024)
place_ok s i bytes d x n e = rw (← k.same) (unfold placed_as in by-test (has_tile s) later first)
  where
    k : Placing s i bytes d x
    k = place-taken s i bytes d x e

    sound : FormSound k.frame.form
    sound = (whole-sound _ _ k.here).0.form

    a : ℕ
    a = pick (has_alpha k.frame.form.format) 1 s.alpha

    later : has_tile s ≡ true → (state_ok (marked_on s i k.tile a) ≡ true) × (length (marked_on s i k.tile a).marks ≡ 1024)
    later h =
        let q = accept-later s _ _ h k.accepted in
        let t = state-tile s k.sound h in
        rw (← q) (drawn-ok s i s.tile a n (ready-tiled s k.sound h) k.inside (pick-le _ 1 s.alpha 1 (omega arith) t.alpha) (alpha-keeps _ s.alpha _ t.least t.alpha))

    first : has_tile s ≡ false → (state_ok (marked_on s i k.tile a) ≡ true) × (length (marked_on s i k.tile a).marks ≡ 1024)
    first h =
        let u = accept-first s _ _ h k.accepted in
        let z = (bare-state s k.sound h).0 in
        rw (← u.1) (drawn-ok s i k.frame.form a n (ready-bare s k.frame.form k.sound h sound u.0) k.inside (pick-le _ 1 s.alpha 1 (omega arith) (omega arith)) (alpha-first _ s.alpha sound.alpha))

-- ---- blank

-- what an accepted blank says
pub record Blanking (s : Canvas) (i : ℕ) (d : List ℕ) (x : CanvasAfter) : Type 0 where
  pub sound : state_ok s ≡ true
  pub tiled : has_tile s ≡ true
  pub inside : i < count_of s.desc
  pub room : size_of (reserved_form s.desc s.tile) ≤ length d
  pub same : blanked_as s i d ≡ x

pub blank-taken : (s : Canvas) (i : ℕ) (d : List ℕ) (x : CanvasAfter) → blank_of s i d ≡ Ok x → Blanking s i d x
unfolding blank_of
blank-taken s i d x e =
    let a = refuse-done _ 5 _ x e in
    let b = refuse-done _ 15 _ x a.1 in
    let c = refuse-done _ 11 _ x b.1 in
    let f = refuse-done _ 17 _ x c.1 in
    record { sound = not-false _ a.0; tiled = not-false _ b.0; inside = leb-false _ _ c.0; room = ltb-false _ _ f.0; same = done-same _ x f.1 }

pub blank_ok : (s : Canvas) (i : ℕ) (d : List ℕ) (x : CanvasAfter) → length s.marks ≡ 1024 → blank_of s i d ≡ Ok x → (state_ok x.canvas ≡ true) × (length x.canvas.marks ≡ 1024)
blank_ok s i d x n e =
    let k = blank-taken s i d x e in
    let t = state-tile s k.sound k.tiled in
    rw (← k.same) (unfold blanked_as in drawn-ok s i s.tile s.alpha n (ready-tiled s k.sound k.tiled) k.inside t.alpha t.least)

-- ---- every number of such a state is small

pub record NumbersSmall (s : Canvas) : Type 0 where
  pub rows : s.desc.rows ≤ 2 ^ 30
  pub columns : s.desc.columns ≤ 2 ^ 30
  pub wide : s.desc.output_width ≤ 2 ^ 30
  pub tall : s.desc.output_height ≤ 2 ^ 30
  pub tile_wide : s.tile.width ≤ 2 ^ 30
  pub tile_tall : s.tile.height ≤ 2 ^ 30
  pub chroma : s.tile.format.chroma ≤ 2 ^ 30
  pub depth : s.tile.format.depth ≤ 2 ^ 30
  pub tile_alpha : s.tile.format.alpha ≤ 2 ^ 30
  pub alpha : s.alpha ≤ 2 ^ 30

pub side-small : (w h : ℕ) → 1 ≤ w → 1 ≤ h → w * h ≤ 2 ^ 30 → (w ≤ 2 ^ 30) × (h ≤ 2 ^ 30)
side-small w h a b l = (omega (arith, mul-below w h w 1 (omega arith) b), omega (arith, mul-below w h 1 h a (omega arith)))

pub bare-zero : (s : Canvas) → has_tile s ≡ false → bare_ok s ≡ true → (s.tile.width ≡ 0) × (s.tile.height ≡ 0) × (s.tile.format.chroma ≡ 0) × (s.tile.format.depth ≡ 0) × (s.tile.format.alpha ≡ 0)
unfolding bare_ok has_tile
bare-zero s h k =
    let a = and-true (eqb s.tile.height 0) _ k in
    let b = and-true (eqb s.tile.format.chroma 0) _ a.1 in
    let c = and-true (eqb s.tile.format.depth 0) _ b.1 in
    let d = and-true (eqb s.tile.format.alpha 0) _ c.1 in
    (eqb-true _ _ (not-false _ h), eqb-true _ _ a.0, eqb-true _ _ b.0, eqb-true _ _ c.0, eqb-true _ _ d.0)

pub numbers-small : (s : Canvas) → state_ok s ≡ true → NumbersSmall s
numbers-small s e = by-test (has_tile s) tiled bare
  where
    g : GridSound s.desc
    g = state-grid s e

    sides : (s.desc.output_width ≤ 2 ^ 30) × (s.desc.output_height ≤ 2 ^ 30)
    sides = side-small _ _ g.canvas.wide g.canvas.tall g.canvas.area

    tiled : has_tile s ≡ true → NumbersSmall s
    tiled h =
        let t = state-tile s e h in
        let m = t.tile in
        let k = side-small _ _ m.wide m.tall m.area in
        record {
          rows = omega (arith, g.bounded_rows);
          columns = omega (arith, g.bounded_columns);
          wide = sides.0;
          tall = sides.1;
          tile_wide = k.0;
          tile_tall = k.1;
          chroma = omega (arith, m.chroma);
          depth = omega (arith, m.high);
          tile_alpha = omega (arith, m.alpha);
          alpha = omega (arith, t.alpha);
        }

    bare : has_tile s ≡ false → NumbersSmall s
    bare h =
        let z = bare-zero s h (sym (pick-false (has_tile s) (tiled_ok s) (bare_ok s) h) ∙ (state-parts s e).1) in
        let a = (bare-state s e h).0 in
        record {
          rows = omega (arith, g.bounded_rows);
          columns = omega (arith, g.bounded_columns);
          wide = sides.0;
          tall = sides.1;
          tile_wide = omega (arith, z.0);
          tile_tall = omega (arith, z.1);
          chroma = omega (arith, z.2);
          depth = omega (arith, z.3);
          tile_alpha = omega (arith, z.4);
          alpha = omega arith;
        }
