-- Laws of an overlay's body as it is written from words: the lowest bytes of a word are the offset's.
use mathlib.Core.Bool.{Bool, ◌&&◌, false, true}
use mathlib.Core.List.{List, [], ◌++◌, ◌∷◌, append_assoc}
use mathlib.Core.Path.{◌∙◌, ◌≡◌, ap, ap₂, refl, sym}
use Prim.Native.Nat.{◌%◌, ◌*◌, ◌+◌, ◌-◌, ◌/◌, ◌<◌, ◌^◌, suc, ℕ}
use native.Mathlib.Omega.{arith}
use lib.IntN.{negsuc, ℤ}
use lib.ListN.{get_or, length, length-append}
use Rattle.laws.proofs.Order.{and-true, by_order}
use Rattle.laws.proofs.Span.{span-cong}
use Rattle.laws.specs.Pick.{pick}
use Rattle.laws.specs.Span.{span}
use Rattle.numbers.proofs.Field.{pattern-signed, signed-ahead, signed-behind}
use Rattle.numbers.specs.Field.{big_endian_bytes, pattern_of, signed_of}
use Rattle.numbers.specs.inner.Length.{FieldLength}
use Rattle.derived.specs.Canvas.{field_bytes}
use Rattle.derived.specs.declared.overlay.Fill.{Fill}
use Rattle.laws.proofs.Any.{all-at}
use Rattle.bodies.proofs.FormLaws.{field-length, length-head, length-words, narrow-fits}
use Rattle.bodies.specs.Form.{canvas_bytes, flags_of, narrow_canvas, narrow_offset}
use Rattle.bodies.specs.Overlay.{fields_in, fill_bytes, input_bytes, narrow_overlay, offset_bytes, offset_in, overlay_body, overlay_body_in}
use Rattle.bodies.specs.inner.Words.{narrow_inputs, overlay_head, word_bytes}

-- ---- a word

-- of two bytes, where 16 bits hold the number
short-word : (w : ℕ) → w < 2 ^ 32 → narrow_offset (signed_of (2 ^ 32) w) ≡ true → big_endian_bytes 2 w ≡ offset_bytes 2 (signed_of (2 ^ 32) w)
unfolding offset_bytes pattern_of big_endian_bytes
short-word w h e =
    by_order w (2 ^ 31) (λ l. ap (λ (z : ℤ). big_endian_bytes 2 (pattern_of 65536 z)) (sym (signed-ahead (2 ^ 32) w l)))
    (λ l.
    let s : signed_of (2 ^ 32) w ≡ negsuc (2 ^ 32 - suc w) = signed-behind (2 ^ 32) w l in
    let m : 2 ^ 32 - suc w < 32768 = narrow-fits (negsuc (2 ^ 32 - suc w)) (rw s at e) in
    let p = 65536 - suc (2 ^ 32 - suc w) in
    let high : w / 256 % 256 ≡ p / 256 % 256 = omega arith in
    let low : w % 256 ≡ p % 256 = omega arith in
    ap₂ (λ (a b : ℕ). a ∷ b ∷ []) high low ∙ ap (λ (z : ℤ). big_endian_bytes 2 (pattern_of 65536 z)) (sym s))

pub word-bytes : (n w : ℕ) → FieldLength n → w < 2 ^ 32 → (n < 4 → narrow_offset (signed_of (2 ^ 32) w) ≡ true) → big_endian_bytes n w ≡ offset_bytes n (signed_of (2 ^ 32) w)
unfolding offset_bytes
word-bytes n w f h narrow =
    by_order n 4 (λ l. let e : n ≡ 2 = omega arith in rw e (short-word w h (narrow l)))
    (λ l. let e : n ≡ 4 = omega arith in rw e (ap (big_endian_bytes 4) (sym (pattern-signed (2 ^ 32) w h))))

-- ---- the offsets of all inputs

short-form : (b : Bool) → field_bytes (flags_of b) < 4 → b ≡ true
unfolding field_bytes flags_of pick
short-form true h = refl
short-form false h = absurd (omega arith)

module _ (fill : Fill) (w h : ℕ) (words : List ℕ) (small : (k : ℕ) → get_or words k 0 < 2 ^ 32)
    (flags : ℕ) (picked : flags ≡ flags_of (narrow_canvas w h && narrow_inputs words (length words / 2))) where
  narrow-words : field_bytes flags < 4 → (i : ℕ) → i < length words / 2 → (narrow_offset (offset_in words (2 * i)) ≡ true) × (narrow_offset (offset_in words (2 * i + 1)) ≡ true)
  unfolding narrow_inputs
  narrow-words l i k =
      let b = and-true (narrow_canvas w h) (narrow_inputs words (length words / 2)) (short-form _ (rw picked at l)) in
      and-true _ _ (all-at (length words / 2) (λ j. narrow_offset (offset_in words (2 * j)) && narrow_offset (offset_in words (2 * j + 1))) b.1 i k)

  words-inputs : span (word_bytes (field_bytes flags) words) 0 (length words / 2) ≡ span (input_bytes (field_bytes flags) (fields_in fill w h words)) 0 (length words / 2)
  unfolding word_bytes input_bytes fields_in offset_in
  words-inputs =
      span-cong _ _ 0 (length words / 2)
      (λ i p k.
      ap₂ (λ (a b : List ℕ). a ++ b) (word-bytes (field_bytes flags) _ (field-length flags) (small (2 * i)) (λ l. (narrow-words l i k).0))
      (word-bytes (field_bytes flags) _ (field-length flags) (small (2 * i + 1)) (λ l. (narrow-words l i k).1)))

  -- the body: what stands before the offsets, and the words
  pub words-body : overlay_body (fields_in fill w h words) ≡ overlay_head flags fill w h ++ span (word_bytes (field_bytes flags) words) 0 (length words / 2)
  unfolding overlay_body narrow_overlay narrow_inputs overlay_body_in overlay_head fields_in
  words-body =
      ap (λ (k : ℕ). overlay_body_in k (fields_in fill w h words)) (sym picked)
      ∙ ap (λ (q : List ℕ). 0 ∷ flags ∷ (fill_bytes fill ++ (canvas_bytes (field_bytes flags) w h ++ q))) (sym words-inputs)
      ∙ ap (λ (q : List ℕ). 0 ∷ flags ∷ q) (sym (append_assoc (fill_bytes fill) (canvas_bytes (field_bytes flags) w h) _))

  pub length-body : length (overlay_head flags fill w h ++ span (word_bytes (field_bytes flags) words) 0 (length words / 2)) ≡ 10 + 2 * field_bytes flags + length words / 2 * (2 * field_bytes flags)
  length-body =
      length-append (overlay_head flags fill w h) _
      ∙ (let a = length-head flags fill w h in let b = length-words (field_bytes flags) words (length words / 2) in omega arith)
