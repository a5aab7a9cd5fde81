-- An overlay's body as it is written: what stands before the offsets, and the offsets by the words that are handed in.
use Rattle.std.specs.Prelude.{Bool, ◌&&◌, List, ◌++◌, ◌∷◌, ◌*◌, ◌+◌, ℕ, get_or}
use Rattle.laws.specs.Any.{all_below}
use Rattle.numbers.specs.Field.{big_endian_bytes}
use Rattle.derived.specs.Canvas.{field_bytes}
use Rattle.derived.specs.declared.overlay.Fill.{Fill}
use Rattle.bodies.specs.Form.{canvas_bytes, narrow_offset}
use Rattle.bodies.specs.Overlay.{fill_bytes, offset_in}

unfoldable pub overlay_head : ℕ → Fill → ℕ → ℕ → List ℕ
overlay_head flags fill width height = 0 ∷ flags ∷ (fill_bytes fill ++ canvas_bytes (field_bytes flags) width height)

-- whether 16 bits hold both offsets of each of so many inputs
unfoldable pub narrow_inputs : List ℕ → ℕ → Bool
narrow_inputs words count = all_below count (λ i. narrow_offset (offset_in words (2 * i)) && narrow_offset (offset_in words (2 * i + 1)))

-- the lowest bytes of input i's two words
unfoldable pub word_bytes : ℕ → List ℕ → ℕ → List ℕ
word_bytes bytes words i = big_endian_bytes bytes (get_or words (2 * i) 0) ++ big_endian_bytes bytes (get_or words (2 * i + 1) 0)
