-- A rectangle of samples stored in a record's plane is pasted into its picture.
use mathlib.Core.Bool.{Bool, ◌&&◌, false, true}
use mathlib.Core.List.{List, ◌++◌}
use mathlib.Core.Path.{◌∙◌, ◌≡◌, ap, ap₂, sym}
use Prim.Native.Nat.{◌*◌, ◌+◌, ◌-◌, ◌<◌, ◌≤◌, ℕ}
use native.Mathlib.Nat.{add-mul, mul-le-mul_right}
use native.Mathlib.Omega.{arith}
use lib.ListN.{length}
use Rattle.laws.proofs.Order.{by-test, item-within, pick-false, pick_true, within}
use Rattle.laws.proofs.Span.{span-cong}
use Rattle.laws.specs.Pick.{pick}
use Rattle.laws.specs.Puts.{puts}
use Rattle.laws.specs.Span.{span}
use Rattle.image.proofs.FormLaws.{bytes-few}
use Rattle.image.specs.Format.{bytes_of, columns_of, has_part, row_size, rows_of}
use Rattle.records.specs.Record.{plane_of}
use Rattle.image.specs.declared.format.Form.{Form}
use Rattle.image.specs.declared.format.Part.{Part}
use Rattle.planes.proofs.ByteLaws.{length-samples_of, samples-same}
use Rattle.planes.proofs.RoundTrip.{length-row_bytes, length-rows_bytes}
use Rattle.planes.specs.Bytes.{head_bytes, row_bytes, rows_bytes, sample_bytes, samples_of, tight_at}
use Rattle.planes.specs.Picture.{Pic}
use Rattle.paste.proofs.HeadedLaws.{after_part, before_part, headed-split, length_before, on_part, on_part-here, on_part-split, part-start}
use Rattle.paste.proofs.StoreLaws.{rows_inside, rows-patch, samples-patch}
use Rattle.paste.specs.Stored.{headed, store_rows}

-- ---- one part changed, sample by sample

-- the samples f in a rectangle, from column a and row b on; else g
unfoldable pub rect_at : ℕ → ℕ → ℕ → ℕ → (ℕ → ℕ → ℕ) → (ℕ → ℕ → ℕ) → ℕ → ℕ → ℕ
rect_at a across b down f g x y = pick (within b down y && within a across x) (f (x - a) (y - b)) (g x y)

-- the rows of a part that was changed
pub on_part-rows : (P : Pic) (p : Part) (f : ℕ → ℕ → ℕ) → rows_bytes (on_part P p f) p ≡ span (λ y. samples_of (bytes_of P.form.format) (λ x. f x y) (columns_of P.form p)) 0 (rows_of P.form p)
unfolding rows_bytes row_bytes samples_of on_part
on_part-rows P p f = span-cong _ _ 0 (rows_of P.form p) (λ y a b. span-cong _ _ 0 (columns_of P.form p) (λ x c d. ap (sample_bytes (bytes_of P.form.format)) (on_part-here P p f x y)))

pub rows_same : (P : Pic) (p : Part) (f : ℕ → ℕ → ℕ) → ((x y : ℕ) → f x y ≡ P.at p x y) → rows_bytes (on_part P p f) p ≡ rows_bytes P p
unfolding rows_bytes row_bytes samples_of
rows_same P p f e = on_part-rows P p f ∙ span-cong _ _ 0 (rows_of P.form p) (λ y a b. span-cong _ _ 0 (columns_of P.form p) (λ x c d. ap (sample_bytes (bytes_of P.form.format)) (e x y)))

pub no-and : {a : Bool} (b : Bool) → a ≡ false → (a && b) ≡ false
no-and b e = rw e

yes_and : {a : Bool} (b : Bool) → a ≡ true → (a && b) ≡ b
yes_and b e = rw e

rows-in-span : (P : Pic) (p : Part) (b c : ℕ) (g : ℕ → List ℕ) (k : ℕ) → ((i : ℕ) → c + length (g i) ≤ row_size P.form p) → b + k ≤ rows_of P.form p
    → store_rows (rows_bytes P p) (b * row_size P.form p + c) (row_size P.form p) g k
    ≡ span (λ y. pick (within b k y) (puts (row_bytes P p y) c (g (y - b))) (row_bytes P p y)) 0 (rows_of P.form p)
unfolding rows_bytes
rows-in-span P p b c g k h l = rows-patch (row_bytes P p) (row_size P.form p) (rows_of P.form p) b c g k (length-row_bytes P p) h l

module _ (P : Pic) (p : Part) (has : has_part P.form.format p ≡ true) (a across b down : ℕ) (f : ℕ → ℕ → ℕ) (wide : a + across ≤ columns_of P.form p) (tall : b + down ≤ rows_of P.form p) where
  abbrev c : Form
  c = P.form

  abbrev bytes : ℕ
  bytes = bytes_of P.form.format

  abbrev pasted : ℕ → ℕ → ℕ
  pasted = rect_at a across b down f (P.at p)

  few : (1 ≤ bytes) × (bytes ≤ 2)
  few = bytes-few P.form.format

  -- a row of it
  row_in : (y : ℕ) → within b down y ≡ true → (x : ℕ) → pasted x y ≡ pick (within a across x) (f (x - a) (y - b)) (P.at p x y)
  unfolding rect_at
  row_in y q x = ap (λ (t : Bool). pick t (f (x - a) (y - b)) (P.at p x y)) (yes_and _ q)

  row_out : (y : ℕ) → within b down y ≡ false → (x : ℕ) → pasted x y ≡ P.at p x y
  unfolding rect_at
  row_out y q x = pick-false _ _ _ (no-and _ q)

  row-pasted : (y : ℕ)
      → pick (within b down y) (puts (row_bytes P p y) (a * bytes) (samples_of bytes (λ x. f x (y - b)) across)) (row_bytes P p y) ≡ samples_of bytes (λ x. pasted x y) (columns_of c p)
  unfolding row_bytes
  row-pasted y =
      by-test (within b down y)
      (λ q.
      pick_true _ _ _ q
      ∙ samples-patch bytes (λ x. P.at p x y) (λ x. f x (y - b)) (columns_of c p) a across few.0 few.1 wide
      ∙ samples-same bytes _ _ (columns_of c p) (λ x l. sym (row_in y q x)))
      (λ q. pick-false _ _ _ q ∙ samples-same bytes _ _ (columns_of c p) (λ x l. sym (row_out y q x)))

  long : (y : ℕ) → length (samples_of bytes (λ x. f x y) across) ≡ across * bytes
  long y = length-samples_of bytes (λ x. f x y) across few.0 few.1

  narrow : a * bytes + across * bytes ≤ row_size c p
  unfolding row_size
  narrow = omega (arith, add-mul a across bytes, mul-le-mul_right bytes wide)

  below : (y : ℕ) → y < down → b * row_size c p + y * row_size c p + row_size c p ≤ rows_of c p * row_size c p
  below y l = omega (arith, add-mul b y (row_size c p), item-within (b + y) (rows_of c p) (row_size c p) (omega arith))

  rows-pasted : store_rows (rows_bytes P p) (b * row_size c p + a * bytes) (row_size c p) (λ y. samples_of bytes (λ x. f x y) across) down ≡ rows_bytes (on_part P p pasted) p
  rows-pasted =
      rows-in-span P p b (a * bytes) (λ y. samples_of bytes (λ x. f x y) across) down (λ y. omega (arith, narrow, long y)) tall
      ∙ span-cong _ _ 0 (rows_of c p) (λ y u v. row-pasted y) ∙ sym (on_part-rows P p pasted)

  -- STORED IN A PART'S ROWS, A RECTANGLE IS PASTED IN
  pub rect-pasted : (h rest : List ℕ) → length h ≡ length (head_bytes c)
      → store_rows (headed h P ++ rest) ((plane_of (tight_at c 0) p).start + (b * row_size c p + a * bytes)) (row_size c p) (λ y. samples_of bytes (λ x. f x y) across) down
      ≡ headed h (on_part P p pasted) ++ rest
  rect-pasted h rest e =
      ap₂ (λ (d : List ℕ) (i : ℕ). store_rows d (i + (b * row_size c p + a * bytes)) (row_size c p) (λ y. samples_of bytes (λ x. f x y) across) down) (headed-split h P p rest has) (part-start c p has ∙ sym (length_before h P p e))
      ∙ rows_inside (before_part h P p) (rows_bytes P p) (after_part P p ++ rest) (b * row_size c p + a * bytes) (row_size c p) _ down (λ y l. omega (arith, below y l, narrow, long y, length-rows_bytes P p))
      ∙ ap (λ (r : List ℕ). before_part h P p ++ (r ++ (after_part P p ++ rest))) rows-pasted
      ∙ sym (on_part-split h P p _ rest has)
