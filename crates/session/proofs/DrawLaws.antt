-- Laws of what a call comes to, and of what place and blank write.
use Rattle.std.specs.Prelude.{Ok, Err}
use mathlib.Core.Bool.{Bool, false, not, true}
use mathlib.Core.List.{List, [], ◌∷◌}
use mathlib.Core.Path.{◌∙◌, ◌≡◌, ap, refl, sym}
use Prim.Native.Nat.{◌%◌, ◌*◌, ◌-◌, ◌/◌, ◌<◌, ◌≤◌, ℕ}
use native.Mathlib.Omega.{arith}
use lib.Dec.{ltb}
use lib.ListN.{length, length-append, set}
use borrow.Author.Tests.{eq-eqb, le-leb, le-ltb, lt-leb, lt-ltb, ne_eqb}
use Rattle.laws.proofs.Order.{pick-both, pick-false, pick_true}
use Rattle.laws.proofs.Out.{refuse-no, refuse-yes, then-done, then-refused}
use Rattle.laws.proofs.Puts.{length-puts}
use Rattle.laws.specs.Out.{Out, and_then, reason, refuse}
use Rattle.laws.specs.Pick.{pick}
use Rattle.laws.specs.Puts.{puts}
use Rattle.laws.specs.declared.Refusal.{Refusal}
use Rattle.numbers.proofs.Number.{bytes-last}
use Rattle.numbers.specs.Number.{number_bytes}
use Rattle.planes.specs.Bytes.{decode, head_bytes, size_of}
use Rattle.image.specs.Format.{has_alpha}
use Rattle.records.specs.Record.{record_of}
use Rattle.image.specs.declared.format.Form.{Form}
use Rattle.records.specs.declared.record.Frame.{Frame}
use Rattle.session.specs.declared.state.Canvas.{Canvas}
use Rattle.cells.specs.Cell.{store_tile, tile_pic}
use Rattle.grid.specs.Mosaic.{canvas_bytes}
use Rattle.tiles.specs.Tiles.{canvas_form, count_of, promotes_of}
use Rattle.session.specs.Marks.{mark_of}
use Rattle.session.specs.Session.{CanvasAfter, alpha_place, alpha_told, begun, drawn_buffer, drawn_canvas, drawn_on, marked_on, place_of, placed_as, reserved_form}
use Rattle.session.specs.State.{accept_of, has_tile, state_ok}

-- ---- what a call comes to

pub drawn-refused : (o : Out CanvasAfter) (r : Refusal) (d : List ℕ) → o ≡ Err r → (◌≡◌ {A = Out Canvas} (Err r) (drawn_canvas o)) × (d ≡ drawn_buffer d o)
unfolding drawn_canvas drawn_buffer and_then
drawn-refused o r d e = rw e (refl, refl)

pub drawn-done : (o : Out CanvasAfter) (x : CanvasAfter) (d d' : List ℕ) (s : Canvas) → o ≡ Ok x → s ≡ x.canvas → d' ≡ x.buffer → (Ok s ≡ drawn_canvas o) × (d' ≡ drawn_buffer d o)
unfolding drawn_canvas drawn_buffer and_then
drawn-done o x d d' s e q b = rw e (ap Ok q, b)

-- ---- the canvas at the first place

pub begun_first : (first : Bool) (c : Form) (d : List ℕ) → first ≡ true → begun first c d ≡ puts d 0 (canvas_bytes c 0)
unfolding begun
begun_first first c d e = pick_true _ _ _ e

pub begun-later : (first : Bool) (c : Form) (d : List ℕ) → first ≡ false → begun first c d ≡ d
unfolding begun
begun-later first c d e = pick-false _ _ _ e

-- ---- the alpha number

pub head-some : (c : Form) → c.format.alpha ≡ 1 → 1 ≤ length (head_bytes c)
unfolding head_bytes
head-some c e =
    let k : length (number_bytes c.format.alpha) ≡ 1 = ap length (bytes-last c.format.alpha (omega arith)) in
    simp (length-append) (omega arith)

pub head-within : (c : Form) → length (head_bytes c) ≤ size_of c
unfolding size_of
head-within c = omega arith

pub told-some : (c m : Form) (d : List ℕ) (n : ℕ) → (m.format.alpha ≡ 0 → ⊥) → n ≡ length (head_bytes c) → set d (n - 1) 1 ≡ alpha_told c m d
unfolding alpha_told alpha_place puts has_alpha
told-some c m d n h e = ap (λ (k : ℕ). set d (k - 1) 1) e ∙ sym (pick_true _ _ _ (ap not (ne_eqb m.format.alpha 0 h)))

pub told_none : (c m : Form) (d : List ℕ) → m.format.alpha ≡ 0 → d ≡ alpha_told c m d
unfolding alpha_told has_alpha
told_none c m d e = sym (pick-false _ _ _ (ap not (eq-eqb m.format.alpha 0 e)))

pub length-begun : (first : Bool) (c : Form) (d : List ℕ) → length (begun first c d) ≡ length d
unfolding begun
length-begun first c d = pick-both (λ (q : List ℕ). length q ≡ length d) _ _ _ (length-puts d 0 (canvas_bytes c 0)) refl

pub length-told : (c m : Form) (d : List ℕ) → length (alpha_told c m d) ≡ length d
unfolding alpha_told
length-told c m d = pick-both (λ (q : List ℕ). length q ≡ length d) _ _ _ (length-puts d (alpha_place c) (1 ∷ [])) refl

pub fits-as : {a b n : ℕ} → a ≡ b → n ≤ b → n ≤ a
fits-as e h = rw e h

-- ---- place, refusal by refusal

module _ (s : Canvas) (i : ℕ) (bytes d : List ℕ) where
  pub place-unsound : state_ok s ≡ false → place_of s i bytes d ≡ Err (reason 5)
  unfolding place_of
  place-unsound e = refuse-yes _ _ (ap not e)

  pub place-outside : state_ok s ≡ true → s.desc.rows * s.desc.columns ≤ i → place_of s i bytes d ≡ Err (reason 11)
  unfolding place_of count_of
  place-outside e l = refuse-no _ _ (ap not e) ∙ refuse-yes _ _ (le-leb _ _ l)

  module _ (ok : state_ok s ≡ true) (inside : i < s.desc.rows * s.desc.columns) where
    place_inside : place_of s i bytes d
        ≡ and_then (record_of bytes) (λ fr. and_then (accept_of s fr.form) (λ t. refuse (ltb (length d) (size_of (reserved_form s.desc t))) 17 (Ok (placed_as s i bytes d fr t))))
    unfolding place_of count_of
    place_inside = refuse-no _ _ (ap not ok) ∙ refuse-no _ _ (lt-leb _ _ inside)

    pub place-record : (r : Refusal) → record_of bytes ≡ Err r → place_of s i bytes d ≡ Err r
    place-record r e = place_inside ∙ then-refused _ e

    module _ (fr : Frame) (here : record_of bytes ≡ Ok fr) where
      pub place-form : (r : Refusal) → accept_of s fr.form ≡ Err r → place_of s i bytes d ≡ Err r
      place-form r e = place_inside ∙ then-done _ here ∙ then-refused _ e

      pub place_short : (t : Form) → accept_of s fr.form ≡ Ok t → length d < size_of (canvas_form s.desc t 1) → place_of s i bytes d ≡ Err (reason 17)
      unfolding reserved_form
      place_short t e l = place_inside ∙ then-done _ here ∙ then-done _ e ∙ refuse-yes _ _ (lt-ltb _ _ l)

      pub place-done : (t : Form) → accept_of s fr.form ≡ Ok t → size_of (canvas_form s.desc t 1) ≤ length d → place_of s i bytes d ≡ Ok (placed_as s i bytes d fr t)
      unfolding reserved_form
      place-done t e l = place_inside ∙ then-done _ here ∙ then-done _ e ∙ refuse-no _ _ (le-ltb _ _ l)

-- what the steps of a place come to
module _ (s : Canvas) (i : ℕ) (bytes d : List ℕ) (fr : Frame) (t : Form) where
  pub placed-canvas : (r : Canvas) (a : ℕ) → r ≡ record { desc = s.desc; tile = t; alpha = a; marks = mark_of s.marks i } → a ≡ pick (has_alpha fr.form.format) 1 s.alpha
      → r ≡ (placed_as s i bytes d fr t).canvas
  unfolding placed_as marked_on
  placed-canvas r a e q = e ∙ ap (λ (b : ℕ). record { desc = s.desc; tile = t; alpha = b; marks = mark_of s.marks i }) q

  pub placed-buffer : (c : Form) (b first : Bool) (d1 d2 d3 : List ℕ) → c ≡ canvas_form s.desc t 1 → b ≡ promotes_of s.desc t → first ≡ not (has_tile s) → d1 ≡ begun first c d → d2 ≡ alpha_told c fr.form d1
      → d3 ≡ store_tile c (tile_pic b (decode bytes fr)) (i % s.desc.columns) (i / s.desc.columns) d2 → d3 ≡ (placed_as s i bytes d fr t).buffer
  unfolding placed_as drawn_on reserved_form
  placed-buffer c b first d1 d2 d3 ec eb ef e1 e2 e3 =
      e3
      ∙ ap (store_tile c (tile_pic b (decode bytes fr)) (i % s.desc.columns) (i / s.desc.columns)) (e2 ∙ ap (alpha_told c fr.form) e1)
      ∙ rw (ec, eb, ef)
