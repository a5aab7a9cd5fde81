-- Laws of a grid that was taken: what holds of its tiles, and that its tiles, stored in turn, are the composed picture.
use Rattle.std.specs.Prelude.{Ok}
use mathlib.Core.Bool.{false, not, true}
use mathlib.Core.List.{List, [], ◌∷◌}
use mathlib.Core.Logic.{◌⊎◌, inl, inr}
use mathlib.Core.Path.{◌∙◌, ◌≡◌, ap, refl, sym}
use Prim.Native.Nat.{◌<◌, ◌≤◌, suc, zero, ℕ}
use native.Mathlib.Nat.{not-suc-le-zero}
use native.Mathlib.Omega.{arith}
use lib.Dec.{ltb}
use lib.ListN.{get_or, length}
use borrow.Author.Tests.{eqb-true, leb-true, ne_eqb, not-false}
use Rattle.laws.proofs.Order.{and-true, by_equal, by-test, pick-false, pick-le, pick_true}
use Rattle.laws.proofs.Out.{about-done, after-done, and_then-done, done-same, not_done, refuse-done}
use Rattle.laws.specs.Pick.{pick}
use Rattle.laws.specs.Puts.{Bytes}
use Rattle.numbers.specs.Number.{read_number}
use Rattle.records.proofs.RecordLaws.{on-number, record-sound}
use Rattle.records.proofs.TrayLaws.{frames-length}
use Rattle.image.specs.Format.{has_alpha, has_size, sized, with_alpha}
use Rattle.image.specs.Sound.{FormSound}
use Rattle.records.specs.Tray.{frames_at, no_frame, taken_of}
use Rattle.image.specs.declared.format.Form.{Form}
use Rattle.image.specs.declared.format.PixelFormat.{PixelFormat}
use Rattle.records.specs.declared.record.Frame.{Frame}
use Rattle.records.specs.inner.Placed.{Sound}
use Rattle.derived.proofs.Taken.{grid-taken}
use Rattle.derived.specs.Grid.{grid_of}
use Rattle.derived.specs.declared.grid.GridDescriptor.{GridDescriptor}
use Rattle.derived.specs.inner.Sound.{GridSound}
use Rattle.cells.proofs.Suited.{tile-sound}
use Rattle.grid.specs.Run.{frames_in}
use Rattle.tiles.specs.Tiles.{alike_from, canvas_form, count_of, spans_canvas, judge_of, promotes_of, same_layout, tiles_at, tiles_of}
use Rattle.tiles.specs.declared.judge.Tiles.{Tiles}
use Rattle.tiles.proofs.TilesLaws.{alike-first}
use Rattle.grid.specs.inner.Ready.{Alike, TilesTaken}

-- ---- what was judged

-- every tile beside the first, and whether one has alpha
pub record AllAlike (t : Form) (a b : ℕ) (frs : List Frame) : Type 0 where
  pub least : a ≤ b
  pub most : a ≤ 1 → b ≤ 1
  pub alike : (i : ℕ) → i < length frs → Alike t (get_or frs i no_frame).form
  pub alpha : (i : ℕ) → i < length frs → (get_or frs i no_frame).form.format.alpha ≤ 1 → (get_or frs i no_frame).form.format.alpha ≤ b

same_alike : (t m : Form) → not (has_size m t.width t.height) ≡ false → not (same_layout t m) ≡ false → Alike t m
unfolding has_size same_layout
same_alike t m p q =
    let a = and-true _ _ (not-false _ p) in
    let b = and-true _ _ (not-false _ q) in
    record { width = eqb-true _ _ a.0; height = eqb-true _ _ a.1; chroma = eqb-true _ _ b.0; depth = eqb-true _ _ b.1 }

first-alpha : (f : PixelFormat) (a b : ℕ) → pick (has_alpha f) 1 a ≤ b → f.alpha ≤ 1 → f.alpha ≤ b
unfolding has_alpha
first-alpha f a b l h =
    by_equal f.alpha 0 (λ z. omega arith)
    (λ d. let e : pick (has_alpha f) 1 a ≡ 1 = pick_true _ _ _ (ap not (ne_eqb f.alpha 0 d)) in omega arith)

alpha-least : (f : PixelFormat) (a b : ℕ) → pick (has_alpha f) 1 a ≤ b → a ≤ 1 → a ≤ b
alpha-least f a b l h =
    by-test (has_alpha f) (λ z. let e : pick (has_alpha f) 1 a ≡ 1 = pick_true _ _ _ z in omega arith) (λ z. let e : pick (has_alpha f) 1 a ≡ a = pick-false _ _ _ z in omega arith)

-- what holds of a first and of the rest
pub first-or {ℓ} : (fr : Frame) (frs : List Frame) (X : Frame → Type ℓ) → X fr → ((i : ℕ) → i < length frs → X (get_or frs i no_frame)) → (i : ℕ) → i < length (fr ∷ frs) → X (get_or (fr ∷ frs) i no_frame)
first-or fr frs X a f zero l = a
first-or fr frs X a f (suc i) l = f i (omega arith)

pub all_alike : (t : Form) (a b : ℕ) (frs : List Frame) → a ≤ 1 → alike_from t a frs ≡ Ok b → AllAlike t a b frs
unfolding alike_from
all_alike t a b [] l e =
    let q = done-same a b e in
    record { least = omega arith; most = λ h. omega arith; alike = λ i h. absurd (not-suc-le-zero h); alpha = λ i h m. absurd (not-suc-le-zero h) }
all_alike t a b (fr ∷ frs) l e =
    let u = alike-first t a b fr frs e in
    let m : pick (has_alpha fr.form.format) 1 a ≤ 1 = pick-le _ 1 a 1 (omega arith) l in
    let k = all_alike t (pick (has_alpha fr.form.format) 1 a) b frs m u.2 in
    record {
      least = alpha-least fr.form.format a b k.least l;
      most = λ h. k.most m;
      alike = λ i h. first-or fr frs (λ (f : Frame). Alike t f.form) (same_alike t fr.form u.0 u.1) k.alike i h;
      alpha = λ i h. first-or fr frs (λ (f : Frame). f.form.format.alpha ≤ 1 → f.form.format.alpha ≤ b) (first-alpha fr.form.format a b k.least) k.alpha i h;
    }

-- records that were taken are sound
pub frames-sound : (n : ℕ) (s : List ℕ) (at : ℕ) (frs : List Frame) → frames_at n s at ≡ Ok frs → (i : ℕ) → i < length frs → Sound s (get_or frs i no_frame)
unfolding frames_at
frames-sound zero s at frs e i l = let k = refuse-done (ltb at (length s)) 5 _ frs e in absurd (none (ap length (done-same _ frs k.1)))
  where
    none : length {A = Frame} [] ≡ length frs → ⊥
    none q = omega arith
frames-sound (suc n) s at frs e i l =
    let a = and_then-done _ _ frs e in
    let b = and_then-done _ _ frs a.2 in
    let q = done-same _ frs b.2 in
    rw (← q) (first-or a.0 b.0 (Sound s) (record-sound s at a.0 (about-done _ _ _ _ a.1)) (λ j m. frames-sound n s a.0.end b.0 (after-done 1 _ _ b.1) j m) i (rw (← q) at l))

-- ---- the whole

pub canvas-sound : (g : GridDescriptor) (t : Form) (a : ℕ) → GridSound g → FormSound t → a ≤ 1 → FormSound (canvas_form g t a)
unfolding canvas_form with_alpha sized
canvas-sound g t a ok m l =
    let k = tile-sound (promotes_of g t) (sized t g.output_width g.output_height) (record { chroma = m.chroma; low = m.low; high = m.high; alpha = m.alpha; wide = ok.canvas.wide; tall = ok.canvas.tall; area = ok.canvas.area }) in
    record { chroma = k.chroma; low = k.low; high = k.high; alpha = l; wide = k.wide; tall = k.tall; area = k.area }

tiles-shape : (g : GridDescriptor) (at : ℕ) (frs : List Frame) (t : Tiles) → judge_of g at frs ≡ Ok t
    → (fr : Frame) × (rest : List Frame) × (a : ℕ) × (frs ≡ fr ∷ rest) × (not (spans_canvas g fr.form) ≡ false) × (alike_from fr.form 0 frs ≡ Ok a) × (record { desc = g; tile = fr.form; alpha = a; first = at } ≡ t)
unfolding judge_of
tiles-shape g at [] t e = not_done _ t e
tiles-shape g at (fr ∷ rest) t e =
    let u = refuse-done _ 12 _ t e in
    let v = and_then-done _ _ t u.1 in
    (fr, rest, v.0, refl, u.0, v.1, done-same _ t v.2)

built : (tray : List ℕ) (g : GridDescriptor) (at : ℕ) (frs : List Frame) (fr : Frame) (a : ℕ) → GridSound g → frames_at (count_of g) tray at ≡ Ok frs → not (spans_canvas g fr.form) ≡ false → alike_from fr.form 0 frs ≡ Ok a
    → (0 < length frs) × (get_or frs 0 no_frame ≡ fr) → TilesTaken tray (record { desc = g; tile = fr.form; alpha = a; first = at })
unfolding frames_in taken_of spans_canvas
built tray g at frs fr a ok taken covers alike first =
    let n : length frs ≡ count_of g = frames-length (count_of g) tray at frs taken in
    let q : frames_in tray (record { desc = g; tile = fr.form; alpha = a; first = at }) ≡ frs = ap taken_of taken in
    let c = and-true _ _ (not-false _ covers) in
    let k = all_alike fr.form 0 a frs (omega arith) alike in
    let s = frames-sound (count_of g) tray at frs taken in
    let m : FormSound fr.form = ap-sound first.1 (s 0 first.0).form in
    record {
      taken = taken ∙ ap Ok (sym q);
      rows = (ok.positive_rows, ok.bounded_rows);
      columns = (ok.positive_columns, ok.bounded_columns);
      canvas = canvas-sound g fr.form a ok m (k.most (omega arith));
      tile = m;
      cover_x = leb-true _ _ c.0;
      cover_y = leb-true _ _ c.1;
      sound = λ i l. rw q (s i (rw n l));
      alike = λ i l. rw q (k.alike i (rw n l));
      alpha = λ i l. rw q (k.alpha i (rw n l) (s i (rw n l)).form.alpha);
    }
  where
    ap-sound : get_or frs 0 no_frame ≡ fr → FormSound (get_or frs 0 no_frame).form → FormSound fr.form
    ap-sound e h = rw e at h

pub tiles-taken : (body tray : List ℕ) (t : Tiles) → Bytes body → tiles_of body tray ≡ Ok t → TilesTaken tray t
unfolding tiles_of tiles_at Bytes
tiles-taken body tray t small e =
    let o = on-number (read_number tray 0) (tiles_at body tray) t e in
    let u = and_then-done _ _ t o.3 in
    let v = refuse-done _ 11 _ t u.2 in
    let w = and_then-done _ _ t v.1 in
    let n : o.0 ≡ count_of u.0 = eqb-true _ _ (not-false _ v.0) in
    let k = tiles-shape u.0 o.1 w.0 t w.2 in
    rw (← k.6) (built tray u.0 o.1 w.0 k.0 k.2 (grid-taken body u.0 small u.1) (ap (λ (j : ℕ). frames_at j tray o.1) (sym n) ∙ w.1) k.4 k.5 (first-in k.3))
  where
    first-in : {fr : Frame} {frs rest : List Frame} → frs ≡ fr ∷ rest → (0 < length frs) × (get_or frs 0 no_frame ≡ fr)
    first-in q = rw q (omega arith, refl)

-- ---- whether a tile has alpha

-- the alpha number is the one begun with, or a tile has alpha
alpha-some : (t : Form) (a b : ℕ) (frs : List Frame) → alike_from t a frs ≡ Ok b → (b ≡ a) ⊎ ((i : ℕ) × (i < length frs) × (has_alpha (get_or frs i no_frame).form.format ≡ true))
unfolding alike_from
alpha-some t a b [] e = inl (sym (done-same a b e))
alpha-some t a b (fr ∷ frs) e =
    by-test (has_alpha fr.form.format)
    (λ h. inr (0, omega arith, h))
    (λ h. elim (alpha-some t (pick (has_alpha fr.form.format) 1 a) b frs (alike-first t a b fr frs e).2) [ inl q ↦ inl (q ∙ pick-false _ _ _ h) | inr k ↦ inr (suc k.0, later k.0 k.1, k.2) ])
  where
    later : (i : ℕ) → i < length frs → suc i < length (fr ∷ frs)
    later i l = omega arith

-- what a grid's tiles take from its body, and where its alpha number comes from
pub record TilesFrom (body tray : List ℕ) (t : Tiles) : Type 0 where
  pub desc : grid_of body ≡ Ok t.desc
  pub alpha : (t.alpha ≡ 0) ⊎ ((i : ℕ) × (i < count_of t.desc) × (has_alpha (get_or (frames_in tray t) i no_frame).form.format ≡ true))

from : (body tray : List ℕ) (g : GridDescriptor) (at : ℕ) (frs : List Frame) (m : Form) (a : ℕ) → grid_of body ≡ Ok g → frames_at (count_of g) tray at ≡ Ok frs → alike_from m 0 frs ≡ Ok a → TilesFrom body tray (record { desc = g; tile = m; alpha = a; first = at })
unfolding frames_in taken_of
from body tray g at frs m a here taken alike =
    let n : length frs ≡ count_of g = frames-length (count_of g) tray at frs taken in
    let q : frames_in tray (record { desc = g; tile = m; alpha = a; first = at }) ≡ frs = ap taken_of taken in
    record { desc = here; alpha = elim (alpha-some m 0 a frs alike) [ inl z ↦ inl z | inr k ↦ inr (k.0, rw (← n) k.1, rw q k.2) ] }

pub tiles-from : (body tray : List ℕ) (t : Tiles) → tiles_of body tray ≡ Ok t → TilesFrom body tray t
unfolding tiles_of tiles_at
tiles-from body tray t e =
    let o = on-number (read_number tray 0) (tiles_at body tray) t e in
    let u = and_then-done _ _ t o.3 in
    let v = refuse-done _ 11 _ t u.2 in
    let w = and_then-done _ _ t v.1 in
    let n : o.0 ≡ count_of u.0 = eqb-true _ _ (not-false _ v.0) in
    let k = tiles-shape u.0 o.1 w.0 t w.2 in
    rw (← k.6) (from body tray u.0 o.1 w.0 k.0.form k.2 u.1 (ap (λ (j : ℕ). frames_at j tray o.1) (sym n) ∙ w.1) k.5)
