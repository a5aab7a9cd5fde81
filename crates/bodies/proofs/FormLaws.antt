-- Laws of the form that a body is written in, and of how long its parts are.
use mathlib.Core.Bool.{Bool, ◌&&◌, false, true}
use mathlib.Core.List.{List, ◌++◌, append_assoc}
use mathlib.Core.Path.{◌∙◌, ◌≡◌, ap, ap₂, refl}
use Prim.Native.Nat.{◌*◌, ◌+◌, ◌<◌, ◌≤◌, suc, zero, ℕ}
use native.Mathlib.Omega.{arith}
use lib.Dec.{leb, lit<}
use lib.IntN.{negsuc, pos, ℤ}
use lib.ListN.{get_or, length, length-append}
use lib.Signed.{mag}
use borrow.Author.Tests.{le-leb, leb-true, lt-leb}
use Rattle.laws.proofs.Any.{all-at}
use Rattle.laws.proofs.Order.{and-true, apart, by_order, by-test, true-and}
use Rattle.laws.proofs.Span.{length-span-all, span-cong, span-step}
use Rattle.laws.specs.Any.{all_below}
use Rattle.laws.specs.Pick.{pick}
use Rattle.laws.specs.Span.{span}
use Rattle.numbers.proofs.Field.{length-big_endian_bytes}
use Rattle.numbers.specs.Field.{big_endian_bytes, offset_of}
use Rattle.numbers.specs.inner.Length.{FieldLength}
use Rattle.derived.specs.Canvas.{field_bytes}
use Rattle.derived.specs.declared.grid.GridDescriptor.{GridDescriptor}
use Rattle.derived.specs.declared.overlay.Fill.{Fill}
use Rattle.bodies.specs.Form.{canvas_bytes, flags_of, narrow_canvas, narrow_offset}
use Rattle.bodies.specs.Grid.{grid_body_in, is_tile_count}
use Rattle.bodies.specs.Overlay.{OverlayFields, SameFields, fill_bytes, input_bytes, narrow_overlay, offset_bytes, overlay_body, overlay_body_in}
use Rattle.bodies.specs.inner.Words.{overlay_head, word_bytes}

-- ---- tests

pub tile-count : (n : ℕ) → is_tile_count n ≡ true → (1 ≤ n) × (n ≤ 256)
unfolding is_tile_count
tile-count n e = let a = and-true _ _ e in (leb-true 1 n a.0, leb-true n 256 a.1)

-- an offset with its sign split off
pub narrow-split : (z : ℤ) → narrow_offset z ≡ leb (offset_of z).ahead 32767 && leb (offset_of z).behind 32768
unfolding narrow_offset offset_of
narrow-split (pos n) = by_order 32767 n (λ l. rw (lt-leb n 32767 l)) (λ l. rw (le-leb n 32767 l))
narrow-split (negsuc n) =
    by_order 32767 n (λ l. rw (lt-leb n 32767 l, lt-leb (suc n) 32768 (omega arith)))
    (λ l. rw (le-leb n 32767 l, le-leb (suc n) 32768 (omega arith)))

pub narrow-fits : (z : ℤ) → narrow_offset z ≡ true → mag z < 32768
unfolding narrow_offset
narrow-fits (pos n) e = omega (arith, leb-true n 32767 e)
narrow-fits (negsuc n) e = omega (arith, leb-true n 32767 (and-true _ _ e).0)

-- every number below n passes, or one of them does not
pub all_yes : (n : ℕ) (t : ℕ → Bool) → ((k : ℕ) → k < n → t k ≡ true) → all_below n t ≡ true
unfolding all_below
all_yes zero t f = refl
all_yes (suc n) t f = true-and _ _ (f n (omega arith)) (all_yes n t (λ k h. f k (omega arith)))

pub all-no : (n : ℕ) (t : ℕ → Bool) (k : ℕ) → k < n → t k ≡ false → all_below n t ≡ false
all-no n t k h e = by-test (all_below n t) (λ q. apart (cc (all-at n t q k h, e))) (λ q. q)

pub all_same : (n : ℕ) (t u : ℕ → Bool) → ((k : ℕ) → k < n → t k ≡ u k) → all_below n t ≡ all_below n u
unfolding all_below
all_same zero t u f = refl
all_same (suc n) t u f = ap₂ (λ (a b : Bool). a && b) (f n (omega arith)) (all_same n t u (λ k h. f k (omega arith)))

-- the flags are 0 or 1
pub flags-few : (b : Bool) → flags_of b < 2
unfolding flags_of pick
flags-few true = lit< tt
flags-few false = lit< tt

-- ---- lengths

pub field-length : (flags : ℕ) → FieldLength (field_bytes flags)
unfolding field_bytes
field-length flags = record { least = omega arith; most = omega arith; even = omega arith }

pub length-canvas : (n w h : ℕ) → length (canvas_bytes n w h) ≡ 2 * n
unfolding canvas_bytes
length-canvas n w h = length-append (big_endian_bytes n w) (big_endian_bytes n h) ∙ (let a = length-big_endian_bytes n w in let b = length-big_endian_bytes n h in omega arith)

pub length-grid : (flags : ℕ) (g : GridDescriptor) → length (grid_body_in flags g) ≡ 4 + 2 * field_bytes flags
unfolding grid_body_in
length-grid flags g = let a = length-canvas (field_bytes flags) g.output_width g.output_height in omega arith

pub length-fill : (f : Fill) → length (fill_bytes f) ≡ 8
unfolding fill_bytes
length-fill f = simp (length-append, length-big_endian_bytes)

pub length-head : (flags : ℕ) (f : Fill) (w h : ℕ) → length (overlay_head flags f w h) ≡ 10 + 2 * field_bytes flags
unfolding overlay_head
length-head flags f w h =
    let a = length-append (fill_bytes f) (canvas_bytes (field_bytes flags) w h) in
    let b = length-fill f in
    let d = length-canvas (field_bytes flags) w h in
    omega arith

pub length-word : (n : ℕ) (words : List ℕ) (i : ℕ) → length (word_bytes n words i) ≡ 2 * n
unfolding word_bytes
length-word n words i =
    let a = length-big_endian_bytes n (get_or words (2 * i) 0) in
    let b = length-big_endian_bytes n (get_or words (2 * i + 1) 0) in
    length-append (big_endian_bytes n (get_or words (2 * i) 0)) (big_endian_bytes n (get_or words (2 * i + 1) 0)) ∙ omega arith

pub length-words : (n : ℕ) (words : List ℕ) (count : ℕ) → length (span (word_bytes n words) 0 count) ≡ count * (2 * n)
length-words n words count = length-span-all (word_bytes n words) (2 * n) count (length-word n words)

-- input i's words, and those behind it
pub word_next : (n : ℕ) (words : List ℕ) (i count : ℕ) → i < count
    → span (word_bytes n words) i count ≡ big_endian_bytes n (get_or words (2 * i) 0) ++ (big_endian_bytes n (get_or words (2 * i + 1) 0) ++ span (word_bytes n words) (i + 1) count)
unfolding word_bytes
word_next n words i count h = span-step (word_bytes n words) i count h ∙ append_assoc (big_endian_bytes n (get_or words (2 * i) 0)) (big_endian_bytes n (get_or words (2 * i + 1) 0)) (span (word_bytes n words) (i + 1) count)

-- the same fields have the same body
module _ (o p : OverlayFields) (same : SameFields o p) where
  narrow-same : narrow_overlay o ≡ narrow_overlay p
  unfolding narrow_overlay
  narrow-same =
      ap₂ (λ (a b : Bool). a && b) (ap₂ narrow_canvas same.width same.height)
      (all_same o.count _ _ (λ i h. ap₂ (λ (x y : ℤ). narrow_offset x && narrow_offset y) (same.horizontal i h) (same.vertical i h))
      ∙ ap (λ (k : ℕ). all_below k (λ i. narrow_offset (p.horizontal i) && narrow_offset (p.vertical i))) same.count)

  body-in : (flags : ℕ) → overlay_body_in flags o ≡ overlay_body_in flags p
  unfolding overlay_body_in input_bytes
  body-in flags =
      let n = field_bytes flags in
      let inputs : span (input_bytes n o) 0 o.count ≡ span (input_bytes n p) 0 p.count =
      span-cong (input_bytes n o) (input_bytes n p) 0 o.count (λ i l h. ap₂ (λ (x y : ℤ). offset_bytes n x ++ offset_bytes n y) (same.horizontal i h) (same.vertical i h))
      ∙ ap (span (input_bytes n p) 0) same.count in
      rw (same.fill, same.width, same.height, inputs) refl

  pub body_same : overlay_body o ≡ overlay_body p
  unfolding overlay_body
  body_same = ap (λ (b : Bool). overlay_body_in (flags_of b) o) narrow-same ∙ body-in (flags_of (narrow_overlay p))
