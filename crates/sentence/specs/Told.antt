-- What a sentence tells, read from its text alone (document 02, A2).
use Rattle.std.specs.Prelude.{List, [], ◌++◌, ◌∷◌, ℕ, eqb}
use Rattle.laws.specs.Pick.{pick}
use Rattle.laws.specs.Utf8.{utf8}
use Rattle.numbers.specs.Decimal.{read_decimal}
use Rattle.sentence.specs.Sentence.{head, in_language}
use Rattle.sentence.specs.Table.{Row, reasons, sorts}

-- language, number, sort and index
pub data Told : Type 0 where
  unknown : Told
  told : ℕ → ℕ → ℕ → ℕ → Told

-- what follows the start of a text, handed on; another answer where the text starts otherwise
unfoldable pub on_start : List ℕ → List ℕ → (List ℕ → Told) → Told → Told
on_start [] s f other = f s
on_start (a ∷ start) [] f other = other
on_start (a ∷ start) (b ∷ s) f other = pick (eqb a b) (on_start start s f other) other

-- a row in a language
pub record Key : Type 0 where
  pub language : ℕ
  pub row : Row

unfoldable pub keys : ℕ → List Row → List Key
keys language [] = []
keys language (r ∷ rows) = record { language = language; row = r } ∷ keys language rows

-- the first key that a text starts with, and what follows it, handed on
unfoldable pub on_key : (Key → List ℕ) → List Key → List ℕ → (Key → List ℕ → Told) → Told
on_key text [] s f = unknown
on_key text (k ∷ ks) s f = on_start (text k) s (f k) (on_key text ks s f)

-- what a sentence starts with: the number and the reason
unfoldable pub opening : Key → List ℕ
opening k = head k.language k.row

-- what it goes on with: the word of a sort, or for sort 0, which has none, the end
unfoldable pub word : Key → List ℕ
word k = pick (eqb k.row.number 0) (utf8 ".") (in_language k.language k.row)

unfoldable pub read_back : List ℕ → Told
read_back s =
    on_key opening (keys 0 reasons ++ keys 1 reasons) s (λ why t.
    on_key word (keys why.language sorts) t (λ of u.
    told why.language why.row.number of.row.number (pick (eqb of.row.number 0) 0 (read_decimal u))))
