-- Laws of all tiles of a grid pasted in: the composed picture.
use mathlib.Core.Bool.{Bool, ◌&&◌, false, true}
use mathlib.Core.List.{List, [], ◌++◌, ◌∷◌}
use mathlib.Core.Path.{◌∙◌, ◌≡◌, ap, ap₂, refl, sym}
use Prim.Native.Nat.{◌%◌, ◌*◌, ◌+◌, ◌-◌, ◌/◌, ◌<◌, ◌≤◌, suc, zero, ℕ}
use native.Mathlib.Nat.{div-add-mod, mod-lt, mul_comm, not-suc-le-zero}
use native.Mathlib.Omega.{arith}
use lib.Arith.{digits_div, digits_mod}
use lib.Dec.{T, eqb}
use lib.ListN.{length}
use borrow.Author.Tests.{eq-eqb, ne_eqb}
use Rattle.laws.proofs.Order.{and_no, and-true, apart, by_equal, by-test, pick-both, pick-false, pick_true, true-and, within, within-true, within-yes}
use Rattle.laws.specs.Pick.{pick}
use Rattle.planes.specs.Bytes.{head_bytes}
use Rattle.image.specs.Format.{columns_of, has_part, rows_of}
use Rattle.planes.specs.Picture.{Pic}
use Rattle.image.specs.declared.format.Form.{Form}
use Rattle.image.specs.declared.format.Part.{Part}
use Rattle.image.specs.declared.format.Part.TheVariants.{Alpha, Cb, Cr, Luma}
use Rattle.cells.proofs.CellLaws.{visible-shows, visible-tile}
use Rattle.paste.proofs.HeadedLaws.{on_part-here, on_part-other, part_number, same_part}
use Rattle.cells.proofs.PasteLaws.{Meets, paste-form, paste_at, paste_part, paste_tile, shows, tile-pasted}
use Rattle.cells.specs.Cell.{store_tile, visible_of}
use Rattle.grid.specs.Mosaic.{among, tile_index}
use Rattle.paste.specs.Stored.{headed}
use Rattle.grid.specs.inner.Stored.{store_tiles}

-- ---- a tile's samples, part by part

paste-here : (T : Pic) (column row : ℕ) (p : Part) (P : Pic) (x y : ℕ) → (paste_part T column row p P).at p x y ≡ pick (has_part T.form.format p) (paste_at T column row p P x y) (P.at p x y)
unfolding paste_part
paste-here T column row p P x y =
    by-test (has_part T.form.format p)
    (λ h. ap (λ (Q : Pic). Q.at p x y) (pick_true _ _ _ h) ∙ on_part-here P p _ x y ∙ sym (pick_true _ _ _ h))
    (λ h. ap (λ (Q : Pic). Q.at p x y) (pick-false _ _ _ h) ∙ sym (pick-false _ _ _ h))

paste-other : (T : Pic) (column row : ℕ) (p q : Part) (P : Pic) (x y : ℕ) → same_part p q ≡ false → (paste_part T column row p P).at q x y ≡ P.at q x y
unfolding paste_part
paste-other T column row p q P x y e =
    by-test (has_part T.form.format p)
    (λ h. ap (λ (Q : Pic). Q.at q x y) (pick_true _ _ _ h) ∙ on_part-other P p q _ x y e)
    (λ h. ap (λ (Q : Pic). Q.at q x y) (pick-false _ _ _ h))

-- pasting into another picture of the same form and the same samples of the part
paste-same : (T : Pic) (column row : ℕ) (p : Part) (P Q : Pic) (x y : ℕ) → P.form ≡ Q.form → P.at p x y ≡ Q.at p x y → paste_at T column row p P x y ≡ paste_at T column row p Q x y
unfolding paste_at
paste-same T column row p P Q x y e f = rw (e, f)

-- one tile
pub tile-at : (T : Pic) (column row : ℕ) (P : Pic) (p : Part) (x y : ℕ) → (paste_tile T column row P).at p x y ≡ pick (has_part T.form.format p) (paste_at T column row p P x y) (P.at p x y)
unfolding paste_tile same_part part_number
tile-at T column row P Luma x y =
    paste-other T column row Alpha Luma _ x y refl ∙ paste-other T column row Cr Luma _ x y refl ∙ paste-other T column row Cb Luma _ x y refl ∙ paste-here T column row Luma P x y
tile-at T column row P Cb x y =
    let Q = paste_part T column row Luma P in
    let f = paste-other T column row Luma Cb P x y refl in
    paste-other T column row Alpha Cb _ x y refl ∙ paste-other T column row Cr Cb _ x y refl ∙ paste-here T column row Cb Q x y
    ∙ ap₂ (pick (has_part T.form.format Cb)) (paste-same T column row Cb Q P x y (paste-form T column row Luma P) f) f
tile-at T column row P Cr x y =
    let Q = paste_part T column row Cb (paste_part T column row Luma P) in
    let f = paste-other T column row Cb Cr _ x y refl ∙ paste-other T column row Luma Cr P x y refl in
    paste-other T column row Alpha Cr _ x y refl ∙ paste-here T column row Cr Q x y
    ∙ ap₂ (pick (has_part T.form.format Cr)) (paste-same T column row Cr Q P x y (paste-form T column row Cb _ ∙ paste-form T column row Luma P) f) f
tile-at T column row P Alpha x y =
    let Q = paste_part T column row Cr (paste_part T column row Cb (paste_part T column row Luma P)) in
    let f = paste-other T column row Cr Alpha _ x y refl ∙ paste-other T column row Cb Alpha _ x y refl ∙ paste-other T column row Luma Alpha P x y refl in
    paste-here T column row Alpha Q x y
    ∙ ap₂ (pick (has_part T.form.format Alpha)) (paste-same T column row Alpha Q P x y (paste-form T column row Cr _ ∙ paste-form T column row Cb _ ∙ paste-form T column row Luma P) f) f

-- ---- tiles pasted one after the other, each at its index: the last is the head

unfoldable pub pastes : (ℕ → Pic) → ℕ → List ℕ → Pic → Pic
pastes T columns [] P = P
pastes T columns (j ∷ js) P = paste_tile (T j) (j % columns) (j / columns) (pastes T columns js P)

pub pastes-form : (T : ℕ → Pic) (columns : ℕ) (js : List ℕ) (P : Pic) → (pastes T columns js P).form ≡ P.form
unfolding pastes paste_tile
pastes-form T columns [] P = refl
pastes-form T columns (j ∷ js) P =
    paste-form (T j) (j % columns) (j / columns) Alpha _ ∙ paste-form (T j) (j % columns) (j / columns) Cr _ ∙ paste-form (T j) (j % columns) (j / columns) Cb _
    ∙ paste-form (T j) (j % columns) (j / columns) Luma _ ∙ pastes-form T columns js P

paste-hidden : (T : Pic) (column row : ℕ) (p : Part) (P : Pic) (x y : ℕ) → shows P.form T.form column row p x y ≡ false → paste_at T column row p P x y ≡ P.at p x y
unfolding paste_at
paste-hidden T column row p P x y e = pick-false _ _ _ e

-- a cell that a place of a plane is in
in_cell : (w i x : ℕ) → i * w ≤ x → x < i * w + w → (x / w ≡ i) × (x % w ≡ x - i * w)
in_cell w i x l h =
    let e : i * w + (x - i * w) ≡ x = omega arith in
    let k : x - i * w < w = omega arith in
    (ap (λ (n : ℕ). n / w) (sym e) ∙ digits_div i k, ap (λ (n : ℕ). n % w) (sym e) ∙ digits_mod i k)

cell_in_lem : (w x : ℕ) → 0 < w → (x / w * w ≤ x) × (x < x / w * w + w)
cell_in_lem w x l = let e = div-add-mod x w in let m = mul_comm w (x / w) in let k = mod-lt x l in (omega arith, omega arith)

module _ (c : Form) (T : ℕ → Pic) (columns : ℕ) (p : Part) (w h x y : ℕ) (in_x : x < columns_of c p) (in_y : y < rows_of c p) (some_x : 0 < w) (some_y : 0 < h) (column : x / w < columns) where
  -- the tile of another cell leaves the place
  other-shows : (j : ℕ) → columns_of (T j).form p ≡ w → rows_of (T j).form p ≡ h → (j ≡ tile_index columns w h x y → ⊥) → shows c (T j).form (j % columns) (j / columns) p x y ≡ false
  unfolding shows tile_index
  other-shows j ew eh d = by-test _ (λ q. absurd (d (same q))) (λ q. q)
    where
      same : (within (j / columns * rows_of (T j).form p) (visible_of (rows_of c p) (rows_of (T j).form p) (j / columns)) y && within (j % columns * columns_of (T j).form p) (visible_of (columns_of c p) (columns_of (T j).form p) (j % columns)) x) ≡ true → j ≡ y / h * columns + x / w
      same q =
          let a = and-true _ _ q in
          let ay = within-true _ _ y a.0 in
          let ax = within-true _ _ x a.1 in
          let uy : y < j / columns * rows_of (T j).form p + rows_of (T j).form p = omega (arith, visible-tile (rows_of c p) (rows_of (T j).form p) (j / columns)) in
          let ux : x < j % columns * columns_of (T j).form p + columns_of (T j).form p = omega (arith, visible-tile (columns_of c p) (columns_of (T j).form p) (j % columns)) in
          let ky = in_cell h (j / columns) y (rw eh at ay.0) (rw eh at uy) in
          let kx = in_cell w (j % columns) x (rw ew at ax.0) (rw ew at ux) in
          sym (div-add-mod j columns) ∙ ap₂ (λ (m n : ℕ). m + n) (mul_comm columns (j / columns) ∙ ap (λ (n : ℕ). n * columns) (sym ky.0)) (sym kx.0)

  -- the tile of its own cell shows
  own-shows : (t : Form) → columns_of t p ≡ w → rows_of t p ≡ h → shows c t (tile_index columns w h x y % columns) (tile_index columns w h x y / columns) p x y ≡ true
  unfolding shows tile_index
  own-shows t ew eh =
      let cy = cell_in_lem h y some_y in
      let cx = cell_in_lem w x some_x in
      rw (digits_div (y / h) column, digits_mod (y / h) column, ew, eh)
      (true-and _ _
      (within-yes _ _ y cy.0 (visible-shows (rows_of c p) h (y / h) y in_y cy.0 cy.1))
      (within-yes _ _ x cx.0 (visible-shows (columns_of c p) w (x / w) x in_x cx.0 cx.1)))

  index-column : tile_index columns w h x y % columns ≡ x / w
  unfolding tile_index
  index-column = digits_mod (y / h) column

  index-row : tile_index columns w h x y / columns ≡ y / h
  unfolding tile_index
  index-row = digits_div (y / h) column

  own_at : (P : Pic) → P.form ≡ c → columns_of (T (tile_index columns w h x y)).form p ≡ w → rows_of (T (tile_index columns w h x y)).form p ≡ h
      → paste_at (T (tile_index columns w h x y)) (tile_index columns w h x y % columns) (tile_index columns w h x y / columns) p P x y ≡ (T (tile_index columns w h x y)).at p (x % w) (y % h)
  unfolding paste_at
  own_at P e ew eh =
      pick_true _ _ _ (ap (λ (m : Form). shows m (T (tile_index columns w h x y)).form (tile_index columns w h x y % columns) (tile_index columns w h x y / columns) p x y) e ∙ own-shows (T (tile_index columns w h x y)).form ew eh)
      ∙ ap₂ ((T (tile_index columns w h x y)).at p) (place-x ew) (place-y eh)
    where
      place-x : columns_of (T (tile_index columns w h x y)).form p ≡ w → x - tile_index columns w h x y % columns * columns_of (T (tile_index columns w h x y)).form p ≡ x % w
      place-x q = ap₂ (λ (a b : ℕ). x - a * b) index-column q ∙ sym (in_cell w (x / w) x (cell_in_lem w x some_x).0 (cell_in_lem w x some_x).1).1

      place-y : rows_of (T (tile_index columns w h x y)).form p ≡ h → y - tile_index columns w h x y / columns * rows_of (T (tile_index columns w h x y)).form p ≡ y % h
      place-y q = ap₂ (λ (a b : ℕ). y - a * b) index-row q ∙ sym (in_cell h (y / h) y (cell_in_lem h y some_y).0 (cell_in_lem h y some_y).1).1

  own-at-of : (j : ℕ) → j ≡ tile_index columns w h x y → (P : Pic) → P.form ≡ c → columns_of (T j).form p ≡ w → rows_of (T j).form p ≡ h
      → paste_at (T j) (j % columns) (j / columns) p P x y ≡ (T (tile_index columns w h x y)).at p (x % w) (y % h)
  own-at-of j q P e ew eh =
      ap (λ (i : ℕ). paste_at (T i) (i % columns) (i / columns) p P x y) q ∙ own_at P e (ap (λ (i : ℕ). columns_of (T i).form p) (sym q) ∙ ew) (ap (λ (i : ℕ). rows_of (T i).form p) (sym q) ∙ eh)

  -- A PLACE SHOWS THE TILE OF ITS CELL, if it was pasted and has the part; else what was there
  pub pastes-at : (js : List ℕ) (P : Pic) → P.form ≡ c → ((i : ℕ) → among i js ≡ true → (columns_of (T i).form p ≡ w) × (rows_of (T i).form p ≡ h))
      → (pastes T columns js P).at p x y ≡ pick (among (tile_index columns w h x y) js && has_part (T (tile_index columns w h x y)).form.format p) ((T (tile_index columns w h x y)).at p (x % w) (y % h)) (P.at p x y)
  unfolding pastes among
  pastes-at [] P e ok = sym (pick-false _ _ _ refl)
  pastes-at (j ∷ js) P e ok =
      tile-at (T j) (j % columns) (j / columns) (pastes T columns js P) p x y
      ∙ by_equal j (tile_index columns w h x y)
      (λ q.
      own-step (pastes-at js P e rest) q ∙ ap (λ (b : Bool). pick (b && has_part (T (tile_index columns w h x y)).form.format p) ((T (tile_index columns w h x y)).at p (x % w) (y % h)) (P.at p x y)) (sym (pick_true _ _ _ (eq-eqb j _ q))))
      (λ d.
      other_step d ∙ pastes-at js P e rest ∙ ap (λ (b : Bool). pick (b && has_part (T (tile_index columns w h x y)).form.format p) ((T (tile_index columns w h x y)).at p (x % w) (y % h)) (P.at p x y)) (sym (pick-false _ _ _ (ne_eqb j _ d))))
    where
      rest : (i : ℕ) → among i js ≡ true → (columns_of (T i).form p ≡ w) × (rows_of (T i).form p ≡ h)
      rest i a = ok i (by-test (eqb j i) (λ z. pick_true _ _ _ z) (λ z. pick-false _ _ _ z ∙ a))

      mine : (columns_of (T j).form p ≡ w) × (rows_of (T j).form p ≡ h)
      mine = ok j (pick_true _ _ _ (eq-eqb j j refl))

      form : (pastes T columns js P).form ≡ c
      form = pastes-form T columns js P ∙ e

      other_step : (j ≡ tile_index columns w h x y → ⊥) → pick (has_part (T j).form.format p) (paste_at (T j) (j % columns) (j / columns) p (pastes T columns js P) x y) ((pastes T columns js P).at p x y) ≡ (pastes T columns js P).at p x y
      other_step d = pick-both (λ (v : ℕ). v ≡ (pastes T columns js P).at p x y) _ _ _ (paste-hidden (T j) (j % columns) (j / columns) p (pastes T columns js P) x y (ap (λ (m : Form). shows m (T j).form (j % columns) (j / columns) p x y) form ∙ other-shows j mine.0 mine.1 d)) refl

      own-step :
          (pastes T columns js P).at p x y
          ≡ pick (among (tile_index columns w h x y) js && has_part (T (tile_index columns w h x y)).form.format p)
          ((T (tile_index columns w h x y)).at p (x % w) (y % h)) (P.at p x y)
          → (q : j ≡ tile_index columns w h x y)
          → pick (has_part (T j).form.format p) (paste_at (T j) (j % columns) (j / columns) p (pastes T columns js P) x y)
          ((pastes T columns js P).at p x y)
          ≡ pick (true && has_part (T (tile_index columns w h x y)).form.format p) ((T (tile_index columns w h x y)).at p (x % w) (y % h)) (P.at p x y)
      own-step before q =
          by-test (has_part (T j).form.format p)
          (λ z.
          pick_true _ _ _ z
          ∙ own-at-of j q (pastes T columns js P) form mine.0 mine.1
          ∙ sym (pick_true _ _ _ (ap (λ (i : ℕ). has_part (T i).form.format p) (sym q) ∙ z)))
          (λ z.
          pick-false _ _ _ z ∙ before
          ∙ pick-false _ _ _ (and_no (among (tile_index columns w h x y) js) (ap (λ (i : ℕ). has_part (T i).form.format p) (sym q) ∙ z))
          ∙ sym (pick-false _ _ _ (ap (λ (i : ℕ). has_part (T i).form.format p) (sym q) ∙ z)))

-- ---- all of a grid's tiles, in turn

unfoldable pub down_from : ℕ → List ℕ
down_from zero = []
down_from (suc n) = n ∷ down_from n

pub among-down : (i n : ℕ) → i < n → among i (down_from n) ≡ true
unfolding among down_from
among-down i zero l = absurd (not-suc-le-zero l)
among-down i (suc n) l = by_equal n i (λ e. pick_true _ _ _ (eq-eqb n i e)) (λ d. pick-false _ _ _ (ne_eqb n i d) ∙ among-down i n (less d))
  where
    less : (n ≡ i → ⊥) → i < n
    less d = omega arith

pub down-among : (i n : ℕ) → among i (down_from n) ≡ true → i < n
unfolding among down_from
down-among i zero e = absurd (no e)
  where
    no : ◌≡◌ {A = Bool} false true → ⊥
    no q = apart (cc)
down-among i (suc n) e = by_equal n i (λ q. omega arith) (λ d. le_step (down-among i n (sym (pick-false _ _ _ (ne_eqb n i d)) ∙ e)))
  where
    le_step : i < n → i < suc n
    le_step l = omega arith

-- stored in turn, they are pasted in turn
pub tiles-pasted : (T : ℕ → Pic) (columns : ℕ) (c : Form) (P : Pic) (h rest : List ℕ) (n : ℕ) → P.form ≡ c → ((i : ℕ) → i < n → Meets (T i).form c) → length h ≡ length (head_bytes c)
    → store_tiles c T columns n (headed h P ++ rest) ≡ headed h (pastes T columns (down_from n) P) ++ rest
unfolding store_tiles pastes down_from
tiles-pasted T columns c P h rest zero e m l = refl
tiles-pasted T columns c P h rest (suc n) e m l =
    ap (store_tile c (T n) (n % columns) (n / columns)) (tiles-pasted T columns c P h rest n e (λ i k. m i (omega arith)) l)
    ∙ (tile-pasted (T n) (pastes T columns (down_from n) P) c (n % columns) (n / columns) h rest (pastes-form T columns (down_from n) P ∙ e) (m n (omega arith)) l).0
