-- Laws of a blank cell: what it asks, what it stores, and blank refusal by refusal.
use Rattle.std.specs.Prelude.{Ok, Err}
use mathlib.Core.Bool.{Bool, false, not, true}
use mathlib.Core.List.{List}
use mathlib.Core.Path.{◌∙◌, ◌≡◌, ap, ap₂, refl, sym}
use Prim.Native.Nat.{◌%◌, ◌*◌, ◌+◌, ◌/◌, ◌<◌, ◌≤◌, ℕ}
use native.Mathlib.Omega.{arith}
use lib.ListN.{length}
use borrow.Author.Tests.{le-leb, le-ltb, lt-leb, lt-ltb}
use Rattle.laws.proofs.Order.{pick-false, pick_true}
use Rattle.laws.proofs.Out.{refuse-no, refuse-yes}
use Rattle.laws.proofs.Span.{span-cong}
use Rattle.laws.specs.Out.{reason}
use Rattle.records.proofs.RecordLaws.{whole-sound}
use Rattle.planes.proofs.RoundTrip.{encode-back}
use Rattle.planes.specs.Bytes.{encode, sample_bytes, samples_of, size_of, tight_at}
use Rattle.image.specs.Format.{bytes_of, has_part, is_mono}
use Rattle.image.specs.Sound.{FormSound}
use Rattle.image.specs.declared.format.Form.{Form}
use Rattle.image.specs.declared.format.Part.{Part}
use Rattle.derived.specs.inner.Sound.{GridSound}
use Rattle.session.specs.declared.state.Canvas.{Canvas}
use Rattle.derived.specs.declared.grid.GridDescriptor.{GridDescriptor}
use Rattle.paste.proofs.RowLaws.{rows-cong}
use Rattle.cells.proofs.Suited.{suits-bytes, suits-canvas, suits-rows, tile-bytes, tile-parts, tile-sample, tile_pic-form}
use Rattle.cells.specs.Cell.{cell_of, store_cell, store_part, store_tile, tile_form, tile_pic}
use Rattle.paste.specs.Stored.{store_rows}
use Rattle.cells.specs.inner.Rows.{FitsCanvas}
use Rattle.tiles.specs.Tiles.{canvas_form, count_of, promotes_of}
use Rattle.cells.specs.declared.cell.Cell.{Cell}
use Rattle.session.proofs.StateLaws.{place-suits}
use Rattle.session.specs.Marks.{mark_of}
use Rattle.session.specs.Session.{alpha_told, blank_at, blank_of, blank_pic, blanked_as, drawn_on, marked_on, reserved_form}
use Rattle.session.specs.State.{has_tile, state_ok}

-- ---- what it asks: what a record of the blank tile asks

pub blank-suits : (g : GridDescriptor) (t : Form) (n : ℕ) → GridSound g → FormSound t → size_of (canvas_form g t 1) ≤ n → FitsCanvas (encode (blank_pic t)) (tight_at t 0) (canvas_form g t 1) (promotes_of g t) n
unfolding blank_pic
blank-suits g t n ok m room =
    place-suits g t _ (tight_at t 0) n ok (whole-sound _ (tight_at t 0) (encode-back (blank_pic t) m)).0 (unfold tight_at in record { tile = m; chroma = refl; depth = refl }) room

module _ (c t : Form) (b : Bool) (n : ℕ) (ok : FitsCanvas (encode (blank_pic t)) (tight_at t 0) c b n) (p : Part) where
  pub blank-tile : FormSound t
  unfolding tight_at
  blank-tile = ok.sound.form

  pub blank-has : has_part t.format p ≡ true → has_part c.format p ≡ true
  unfolding tight_at
  blank-has h = suits-canvas _ _ _ _ _ ok p h

  pub blank-bytes : bytes_of (tile_form b t).format ≡ bytes_of c.format
  unfolding tight_at
  blank-bytes = suits-bytes _ _ _ _ _ ok p

  pub blank-colour : b ≡ true → is_mono t.format ≡ false
  unfolding tight_at
  blank-colour e = ok.colour e

  pub blank-writes : has_part t.format p ≡ true → (column row : ℕ) (k : Cell) → k ≡ cell_of c (tile_form b t) column row p → (y : ℕ) → y < k.down → k.at + y * k.stride + k.across * bytes_of t.format ≤ n
  unfolding tight_at
  blank-writes h column row k e y l = (suits-rows _ _ _ _ _ ok p h column row k e (λ z. some z)).writes y l
    where
      some : k.down ≡ 0 → ⊥
      some z = omega arith

-- ---- what it stores

blank-at : (t : Form) (p : Part) (x y : ℕ) → (blank_pic t).at p x y ≡ blank_at t.format p
unfolding blank_pic
blank-at t p x y = refl

blank-form : (b : Bool) (t : Form) → (tile_pic b (blank_pic t)).form ≡ tile_form b t
unfolding blank_pic
blank-form b t = tile_pic-form b (blank_pic t)

pub blank-stored : (c t : Form) (b : Bool) (p : Part) (d : List ℕ) (column row v : ℕ) (k : Cell) → (b ≡ true → is_mono t.format ≡ false) → has_part t.format p ≡ true → k ≡ cell_of c (tile_form b t) column row p → v ≡ blank_at t.format p
    → store_rows d k.at k.stride (λ y. samples_of (bytes_of t.format) (λ x. v) k.across) k.down ≡ store_part c (tile_pic b (blank_pic t)) column row p d
unfolding store_part store_cell
blank-stored c t b p d column row v k colour h e q =
    rows-cong d k.at k.stride _ _ k.down (λ y l. row_is y)
    ∙ ap₂ (λ (q : Cell) (n : ℕ). store_rows d q.at q.stride (λ y. samples_of n (λ x. (tile_pic b (blank_pic t)).at p x y) q.across) q.down) (e ∙ ap (λ (m : Form). cell_of c m column row p) (sym (blank-form b t))) bytes
    ∙ sym (pick_true _ _ _ (ap (λ (m : Form). has_part m.format p) (blank-form b t) ∙ tile-parts b t colour p ∙ h))
  where
    sample-is : (x y : ℕ) → v ≡ (tile_pic b (blank_pic t)).at p x y
    sample-is x y = q ∙ sym (tile-sample b (blank_pic t) p (unfold blank_pic in h) x y ∙ blank-at t p _ _)

    row_is : (y : ℕ) → samples_of (bytes_of t.format) (λ x. v) k.across ≡ samples_of (bytes_of t.format) (λ x. (tile_pic b (blank_pic t)).at p x y) k.across
    row_is y = unfold samples_of in span-cong _ _ 0 k.across (λ x l m. ap (sample_bytes (bytes_of t.format)) (sample-is x y))

    bytes : bytes_of t.format ≡ bytes_of (tile_pic b (blank_pic t)).form.format
    bytes = sym (ap (λ (m : Form). bytes_of m.format) (blank-form b t) ∙ tile-bytes b t)

pub blank-lacks : (c t : Form) (b : Bool) (p : Part) (d : List ℕ) (column row : ℕ) → (b ≡ true → is_mono t.format ≡ false) → has_part t.format p ≡ false → d ≡ store_part c (tile_pic b (blank_pic t)) column row p d
unfolding store_part
blank-lacks c t b p d column row colour h =
    sym (pick-false _ _ _ (ap (λ (m : Form). has_part m.format p) (blank-form b t) ∙ tile-parts b t colour p ∙ h))

-- ---- blank, refusal by refusal

module _ (s : Canvas) (i : ℕ) (d : List ℕ) where
  pub blank-unsound : state_ok s ≡ false → blank_of s i d ≡ Err (reason 5)
  unfolding blank_of
  blank-unsound e = refuse-yes _ _ (ap not e)

  module _ (ok : state_ok s ≡ true) where
    pub blank-bare : has_tile s ≡ false → blank_of s i d ≡ Err (reason 15)
    unfolding blank_of
    blank-bare e = refuse-no _ _ (ap not ok) ∙ refuse-yes _ _ (ap not e)

    module _ (tile : has_tile s ≡ true) where
      pub blank-outside : s.desc.rows * s.desc.columns ≤ i → blank_of s i d ≡ Err (reason 11)
      unfolding blank_of count_of
      blank-outside l = refuse-no _ _ (ap not ok) ∙ refuse-no _ _ (ap not tile) ∙ refuse-yes _ _ (le-leb _ _ l)

      module _ (inside : i < s.desc.rows * s.desc.columns) where
        pub blank-short : length d < size_of (canvas_form s.desc s.tile 1) → blank_of s i d ≡ Err (reason 17)
        unfolding blank_of count_of reserved_form
        blank-short l = refuse-no _ _ (ap not ok) ∙ refuse-no _ _ (ap not tile) ∙ refuse-no _ _ (lt-leb _ _ inside) ∙ refuse-yes _ _ (lt-ltb _ _ l)

        pub blank-done : size_of (canvas_form s.desc s.tile 1) ≤ length d → blank_of s i d ≡ Ok (blanked_as s i d)
        unfolding blank_of count_of reserved_form
        blank-done l = refuse-no _ _ (ap not ok) ∙ refuse-no _ _ (ap not tile) ∙ refuse-no _ _ (lt-leb _ _ inside) ∙ refuse-no _ _ (le-ltb _ _ l)

  pub blanked-canvas : (r : Canvas) → r ≡ record { desc = s.desc; tile = s.tile; alpha = s.alpha; marks = mark_of s.marks i }
      → r ≡ (blanked_as s i d).canvas
  unfolding blanked_as marked_on
  blanked-canvas r e = e

  pub blanked-buffer : (c : Form) (b : Bool) (d2 d3 : List ℕ) → c ≡ canvas_form s.desc s.tile 1 → b ≡ promotes_of s.desc s.tile → d2 ≡ alpha_told c s.tile d
      → d3 ≡ store_tile c (tile_pic b (blank_pic s.tile)) (i % s.desc.columns) (i / s.desc.columns) d2 → d3 ≡ (blanked_as s i d).buffer
  unfolding blanked_as drawn_on reserved_form
  blanked-buffer c b d2 d3 ec eb e2 e3 = e3 ∙ ap (store_tile c (tile_pic b (blank_pic s.tile)) (i % s.desc.columns) (i / s.desc.columns)) e2 ∙ rw (ec, eb)
