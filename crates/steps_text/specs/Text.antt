-- The text that `steps` prints, in ASCII (document 01, "Steps program").
use Rattle.std.specs.Prelude.{Ok, Err}
use Rattle.std.specs.Prelude.{List, [], ◌++◌, ◌∷◌, ◌+◌, ℕ}
use Prim.Native.Char.{code}
use Rattle.laws.specs.Out.{Out}
use Rattle.laws.specs.Reason.{number_of}
use Rattle.laws.specs.Utf8.{utf8}
use Rattle.laws.specs.declared.Refusal.{Refusal}
use Rattle.numbers.specs.Decimal.{decimal}
use Rattle.props.specs.Entry.{kind_of}
use Rattle.props.specs.Size.{size_after}
use Rattle.props.specs.declared.entry.PropertyEntry.{PropertyEntry}
use Rattle.image.specs.declared.size.Size.{Size}
use Rattle.steps_text.specs.Input.{Steps, steps_of}

unfoldable pub heading : List ℕ
heading = utf8 "step kind width height\n"

unfoldable pub refused_word : List ℕ
refused_word = utf8 "refused "

-- a number in decimal and what stands after it: a space or the end of the line
unfoldable pub field_text : ℕ → ℕ → List ℕ
field_text n after = decimal n ++ (after ∷ [])

-- an entry's index and kind and the size after it
unfoldable pub line_text : ℕ → ℕ → Size → List ℕ
line_text i kind z = field_text i (code " ") ++ (field_text kind (code " ") ++ (field_text z.width (code " ") ++ field_text z.height (code "\n")))

-- `refused` and its number
unfoldable pub refusal_text : Refusal → List ℕ
refusal_text e = refused_word ++ field_text (number_of e.reason) (code "\n")

unfoldable pub refused_line : ℕ → ℕ → Refusal → List ℕ
refused_line i kind e = field_text i (code " ") ++ (field_text kind (code " ") ++ refusal_text e)

-- the line of an entry, and what follows it: a refused entry ends the text
unfoldable pub line_then : ℕ → ℕ → Out Size → (Size → List ℕ) → List ℕ
line_then i kind (Err e) rest = refused_line i kind e
line_then i kind (Ok z) rest = line_text i kind z ++ rest z

-- a line for each entry, kind 0 too, from index i on; every entry is applied
unfoldable pub lines_from : ℕ → List PropertyEntry → Size → List ℕ
lines_from i [] z = []
lines_from i (e ∷ es) z = line_then i (kind_of e.property) (size_after e.property z) (λ y. lines_from (i + 1) es y)

-- refused input prints only `refused` and its number
unfoldable pub out_text : Out Steps → List ℕ
out_text (Err e) = refusal_text e
out_text (Ok t) = heading ++ lines_from 0 t.entries t.size

unfoldable pub text_of : List ℕ → List ℕ
text_of s = out_text (steps_of s)
