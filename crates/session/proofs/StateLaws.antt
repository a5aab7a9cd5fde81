-- Laws of a state that calls can have made: its grid, its tile and its canvas are sound.
use Rattle.std.specs.Prelude.{Ok, Err, is_ok}
use mathlib.Core.Bool.{true}
use mathlib.Core.List.{List}
use mathlib.Core.Path.{◌∙◌, ◌≡◌, refl, subst, sym}
use Prim.Native.Nat.{◌*◌, ◌≤◌, ℕ}
use native.Mathlib.Omega.{arith}
use lib.Dec.{leb}
use borrow.Author.Tests.{eqb-true, leb-true, not-false}
use Rattle.laws.proofs.Order.{and-true, by-test, mul-below, pick-false, pick_true}
use Rattle.laws.proofs.Out.{done-same, refuse-done, yes-done}
use Rattle.laws.specs.Out.{Out, is_done}
use Rattle.laws.specs.Pick.{pick}
use Rattle.image.proofs.JudgedLaws.{form-same, form-sound, judged-same, judged-sound}
use Rattle.image.specs.Format.{judged_size, sides}
use Rattle.image.specs.Sound.{FormSound, SizeSound}
use Rattle.image.specs.declared.format.Form.{Form}
use Rattle.records.specs.declared.record.Frame.{Frame}
use Rattle.records.specs.inner.Placed.{Sound}
use Rattle.planes.specs.Bytes.{size_of}
use Rattle.derived.specs.declared.grid.GridDescriptor.{GridDescriptor}
use Rattle.derived.specs.inner.Sound.{GridSound}
use Rattle.grid.proofs.Composed.{canvas-alpha-is, canvas-chroma, canvas-depth, mono-same, promotes-colour, tile-chroma}
use Rattle.grid.proofs.GridLaws.{canvas-sound}
use Rattle.tiles.specs.Tiles.{canvas_form, spans_canvas, promotes_of, same_layout}
use Rattle.cells.specs.inner.Rows.{FitsCanvas}
use Rattle.session.specs.State.{accept_of, bare_ok, form_ok, grid_ok, has_tile, state_ok, tiled_ok}
use Rattle.session.specs.declared.state.Canvas.{Canvas}

-- whether there is an answer, as the language asks it
pub ok-done : {A : Type 0} (o : Out A) → is_ok o ≡ is_done o
unfolding is_done
ok-done (Err r) = refl
ok-done (Ok a) = refl

sides-sound : (w h : ℕ) → is_done (judged_size w h) ≡ true → SizeSound (sides w h)
sides-sound w h e =
    let z = yes-done _ e in
    subst SizeSound (judged-same w h z.0 z.1) (judged-sound w h z.0 z.1)

pub grid-sound : (g : GridDescriptor) → grid_ok g ≡ true → GridSound g
unfolding grid_ok
grid-sound g e =
    let a = and-true _ _ e in
    let b = and-true _ _ a.1 in
    let c = and-true _ _ b.1 in
    let d = and-true _ _ c.1 in
    record {
      positive_rows = leb-true _ _ a.0;
      bounded_rows = leb-true _ _ b.0;
      positive_columns = leb-true _ _ c.0;
      bounded_columns = leb-true _ _ d.0;
      canvas = sides-sound _ _ d.1;
    }

pub count_small : (g : GridDescriptor) → GridSound g → g.rows * g.columns ≤ 65536
count_small g ok = omega (arith, mul-below 256 256 g.rows g.columns ok.bounded_rows ok.bounded_columns)

pub form-ok-sound : (m : Form) → form_ok m ≡ true → FormSound m
unfolding form_ok
form-ok-sound m e = let k = yes-done _ e in subst FormSound (form-same m k.0 k.1) (form-sound _ _ _ _ _ k.0 k.1)

pub state-parts : (s : Canvas) → state_ok s ≡ true → (grid_ok s.desc ≡ true) × (pick (has_tile s) (tiled_ok s) (bare_ok s) ≡ true)
unfolding state_ok
state-parts s e = and-true (grid_ok s.desc) (pick (has_tile s) (tiled_ok s) (bare_ok s)) e

pub state-grid : (s : Canvas) → state_ok s ≡ true → GridSound s.desc
state-grid s e = grid-sound s.desc (state-parts s e).0

-- a tile that the state holds
pub record TileHeld (s : Canvas) : Type 0 where
  pub tile : FormSound s.tile
  pub alpha : s.alpha ≤ 1
  pub least : s.tile.format.alpha ≤ s.alpha

tiled-held : (s : Canvas) → tiled_ok s ≡ true → TileHeld s
unfolding tiled_ok
tiled-held s k =
    let a = and-true (form_ok s.tile) _ k in
    let b = and-true (spans_canvas s.desc s.tile) _ a.1 in
    let c = and-true (leb s.alpha 1) _ b.1 in
    let d = and-true (leb s.tile.format.alpha s.alpha) _ c.1 in
    record { tile = form-ok-sound s.tile a.0; alpha = leb-true _ _ c.0; least = leb-true _ _ d.0 }

pub state-tile : (s : Canvas) → state_ok s ≡ true → has_tile s ≡ true → TileHeld s
state-tile s e h = tiled-held s (sym (pick_true (has_tile s) (tiled_ok s) (bare_ok s) h) ∙ (state-parts s e).1)

-- the canvas of a sound grid and tile, with the alpha plane reserved or not
pub held-canvas : (s : Canvas) (a : ℕ) → state_ok s ≡ true → has_tile s ≡ true → a ≤ 1 → FormSound (canvas_form s.desc s.tile a)
held-canvas s a e h l = canvas-sound s.desc s.tile a (state-grid s e) (state-tile s e h).tile l

-- ---- a tile that is accepted

pub record Accepted (m t : Form) : Type 0 where
  pub tile : FormSound t
  pub chroma : t.format.chroma ≡ m.format.chroma
  pub depth : t.format.depth ≡ m.format.depth

pub accept-done : (s : Canvas) (m t : Form) → state_ok s ≡ true → FormSound m → accept_of s m ≡ Ok t → Accepted m t
unfolding accept_of same_layout
accept-done s m t ok sound e =
    by-test (has_tile s)
    (λ h.
    let u = refuse-done _ 13 _ t (sym (pick_true (has_tile s) _ _ h) ∙ e) in
    let v = refuse-done _ 14 _ t u.1 in
    let k = and-true _ _ (not-false _ v.0) in
    let q : s.tile ≡ t = done-same _ t v.1 in
    rw (← q) (record { tile = (state-tile s ok h).tile; chroma = sym (eqb-true _ _ k.0); depth = sym (eqb-true _ _ k.1) }))
    (λ h.
    let u = refuse-done _ 12 _ t (sym (pick-false (has_tile s) _ _ h) ∙ e) in
    let q : m ≡ t = done-same _ t u.1 in
    rw (← q) (record { tile = sound; chroma = refl; depth = refl }))

-- it suits the canvas with the alpha plane reserved
pub place-suits : (g : GridDescriptor) (t : Form) (s : List ℕ) (fr : Frame) (n : ℕ) → GridSound g → Sound s fr → Accepted fr.form t → size_of (canvas_form g t 1) ≤ n → FitsCanvas s fr (canvas_form g t 1) (promotes_of g t) n
place-suits g t s fr n ok sound a room =
    record {
      sound = sound;
      canvas = canvas-sound g t 1 ok a.tile (omega arith);
      chroma = canvas-chroma g t 1 ∙ tile-chroma (promotes_of g t) t fr.form a.chroma;
      depth = canvas-depth g t 1 ∙ a.depth;
      alpha = rw (canvas-alpha-is g t 1) sound.form.alpha;
      colour = λ e. sym (mono-same t.format fr.form.format a.chroma) ∙ promotes-colour g t e;
      room = room;
    }
