-- Laws over calls in turn: the buffer shows a picture behind its header, and each cell that is drawn is pasted on it.
use mathlib.Core.Bool.{true}
use mathlib.Core.List.{List, [], ◌++◌, ◌∷◌, append_assoc}
use mathlib.Core.Path.{◌∙◌, ◌≡◌, ap, refl, sym}
use Prim.Native.Nat.{◌%◌, ◌/◌, ◌≤◌, ℕ}
use native.Mathlib.Omega.{arith}
use lib.ListN.{drop, length, length-append}
use Rattle.laws.proofs.Order.{by-test, pick-false, pick-le, pick_true}
use Rattle.laws.proofs.Puts.{puts-middle, puts-start}
use Rattle.laws.specs.Pick.{pick}
use Rattle.laws.specs.Puts.{puts}
use Rattle.numbers.proofs.Number.{bytes-last}
use Rattle.numbers.specs.Number.{number_bytes}
use Rattle.planes.specs.Bytes.{head_bytes, plane_bytes, size_of}
use Rattle.image.specs.Format.{has_alpha, with_alpha}
use Rattle.planes.specs.Picture.{Pic}
use Rattle.image.specs.declared.format.Form.{Form}
use Rattle.image.specs.declared.format.Part.TheVariants.{Alpha, Cb, Cr, Luma}
use Rattle.derived.specs.declared.grid.GridDescriptor.{GridDescriptor}
use Rattle.grid.proofs.Composed.{canvas-alpha-is}
use Rattle.grid.proofs.PaintLaws.{head-alpha, length-canvas}
use Rattle.cells.proofs.PasteLaws.{Meets, paste_tile, tile-pasted}
use Rattle.cells.specs.Cell.{store_tile, tile_pic}
use Rattle.grid.specs.Mosaic.{canvas_bytes, plain_pic}
use Rattle.paste.specs.Stored.{headed}
use Rattle.tiles.specs.Tiles.{promotes_of}
use Rattle.session.proofs.DrawLaws.{begun_first}
use Rattle.session.specs.Session.{alpha_place, alpha_told, begun, drawn_on, reserved_form}

-- ---- the header's last byte

abbrev head-front : Form → List ℕ
head-front c = number_bytes c.width ++ (number_bytes c.height ++ (number_bytes c.format.chroma ++ number_bytes c.format.depth))

head-split : (c : Form) (a : ℕ) → a ≤ 1 → head_bytes (with_alpha c a) ≡ head-front c ++ (a ∷ [])
unfolding head_bytes with_alpha
head-split c a l = rw (bytes-last a (omega arith)) (simp append_assoc)

front_length : (c : Form) → c.format.alpha ≡ 1 → length (head-front c) ≡ alpha_place c
unfolding alpha_place head_bytes
front_length c e =
    let k : length (number_bytes c.format.alpha) ≡ 1 = ap length (bytes-last c.format.alpha (omega arith)) in
    simp (length-append) (omega arith)

told-front : (c : Form) (a : ℕ) (rest : List ℕ) → c.format.alpha ≡ 1 → puts (head-front c ++ ((a ∷ []) ++ rest)) (alpha_place c) (1 ∷ []) ≡ head-front c ++ ((1 ∷ []) ++ rest)
told-front c a rest e = puts-middle (head-front c) (a ∷ []) rest (1 ∷ []) (alpha_place c) (front_length c e) refl

-- the alpha number turns 1 at a tile with alpha, and stays without
pub alpha-told : (c m : Form) (a : ℕ) (rest : List ℕ) → c.format.alpha ≡ 1 → a ≤ 1 → alpha_told c m (head_bytes (with_alpha c a) ++ rest) ≡ head_bytes (with_alpha c (pick (has_alpha m.format) 1 a)) ++ rest
unfolding alpha_told
alpha-told c m a rest e l =
    by-test (has_alpha m.format)
    (λ h.
    pick_true _ _ _ h
    ∙ ap (λ (q : List ℕ). puts (q ++ rest) (alpha_place c) (1 ∷ [])) (head-split c a l)
    ∙ ap (λ (q : List ℕ). puts q (alpha_place c) (1 ∷ [])) (append_assoc (head-front c) (a ∷ []) rest)
    ∙ told-front c a rest e
    ∙ sym (append_assoc (head-front c) (1 ∷ []) rest)
    ∙ ap (λ (q : List ℕ). q ++ rest) (sym (head-split c 1 (omega arith)))
    ∙ ap (λ (n : ℕ). head_bytes (with_alpha c n) ++ rest) (sym (pick_true (has_alpha m.format) 1 a h)))
    (λ h. pick-false _ _ _ h ∙ ap (λ (n : ℕ). head_bytes (with_alpha c n) ++ rest) (sym (pick-false (has_alpha m.format) 1 a h)))

-- ---- a cell drawn on the buffer's picture

abbrev planes-of : Pic → List ℕ
planes-of P = plane_bytes P Luma ++ (plane_bytes P Cb ++ (plane_bytes P Cr ++ plane_bytes P Alpha))

laid_as : (h : List ℕ) (P : Pic) (rest : List ℕ) → headed h P ++ rest ≡ h ++ (planes-of P ++ rest)
unfolding headed
laid_as h P rest = append_assoc h (planes-of P) rest

pub drawn-laid : (g : GridDescriptor) (t m : Form) (i a : ℕ) (T P : Pic) (rest : List ℕ) → P.form ≡ reserved_form g t → Meets (tile_pic (promotes_of g t) T).form (reserved_form g t) → a ≤ 1
    → drawn_on g t i m T (headed (head_bytes (with_alpha (reserved_form g t) a)) P ++ rest)
    ≡ headed (head_bytes (with_alpha (reserved_form g t) (pick (has_alpha m.format) 1 a))) (paste_tile (tile_pic (promotes_of g t) T) (i % g.columns) (i / g.columns) P) ++ rest
unfolding drawn_on
drawn-laid g t m i a T P rest e meets l =
    ap (store_tile (reserved_form g t) (tile_pic (promotes_of g t) T) (i % g.columns) (i / g.columns)) told
    ∙ (tile-pasted (tile_pic (promotes_of g t) T) P (reserved_form g t) (i % g.columns) (i / g.columns) _ rest e meets (head-alpha (reserved_form g t) _ (pick-le (has_alpha m.format) 1 a 1 (omega arith) l) small)).0
  where
    one : (reserved_form g t).format.alpha ≡ 1
    one = unfold reserved_form in canvas-alpha-is g t 1

    small : (reserved_form g t).format.alpha ≤ 1
    small = rw one (omega arith)

    told : alpha_told (reserved_form g t) m (headed (head_bytes (with_alpha (reserved_form g t) a)) P ++ rest) ≡ headed (head_bytes (with_alpha (reserved_form g t) (pick (has_alpha m.format) 1 a))) P ++ rest
    told = ap (alpha_told (reserved_form g t) m) (laid_as _ P rest) ∙ alpha-told (reserved_form g t) m a (planes-of P ++ rest) one l ∙ sym (laid_as _ P rest)

-- the first accepted place begins with the canvas: samples 0, alpha at top, alpha number 0, and what lay past it
pub begun-laid : (c : Form) (d : List ℕ) → c.format.alpha ≡ 1 → size_of c ≤ length d → begun true c d ≡ headed (head_bytes (with_alpha c 0)) (plain_pic c) ++ drop (size_of c) d
begun-laid c d e l =
    let n = length-canvas c 0 (omega arith) (rw e (omega arith)) in
    begun_first true c d refl ∙ puts-start d (canvas_bytes c 0) (rw n l) ∙ ap (λ (k : ℕ). canvas_bytes c 0 ++ drop k d) n ∙ (unfold canvas_bytes in refl)

-- ---- cells drawn in turn, the last at the head of the list

-- the alpha number after them
unfoldable pub alpha_after : (ℕ → Pic) → List ℕ → ℕ → ℕ
alpha_after T [] a = a
alpha_after T (j ∷ js) a = pick (has_alpha (T j).form.format) 1 (alpha_after T js a)

pub alpha-small : (T : ℕ → Pic) (js : List ℕ) (a : ℕ) → a ≤ 1 → alpha_after T js a ≤ 1
unfolding alpha_after
alpha-small T [] a l = l
alpha-small T (j ∷ js) a l = pick-le _ 1 (alpha_after T js a) 1 (omega arith) (alpha-small T js a l)
