-- The texts of the table by the numbers in the program, and the sentence that is made of them.
use Rattle.std.specs.Prelude.{List, [], ◌++◌, ◌-◌, ◌≤◌, ℕ, eqb, get_or, map}
use Rattle.laws.specs.Pick.{pick}
use Rattle.laws.specs.Utf8.{utf8}
use Rattle.numbers.specs.Decimal.{decimal}
use Rattle.sentence.specs.Sentence.{in_language}
use Rattle.sentence.specs.Table.{Row, reasons, sorts}
use Rattle.sentence.specs.declared.table.Texts.{Texts}

-- the last sort and the last number that have a row
abbrev pub last_sort : ℕ
last_sort = 2

abbrev pub last_number : ℕ
last_number = 19

unfoldable pub no_row : Row
no_row = record { number = 0; german = ""; english = "" }

-- a text of a table in a language
unfoldable pub told_of : List Texts → ℕ → ℕ → List ℕ
told_of texts k language =
    pick (eqb language 0) (get_or (map (λ (t : Texts). t.german.now) texts) k [])
    (get_or (map (λ (t : Texts). t.english.now) texts) k [])

-- the word of a sort
unfoldable pub sort_text_of : ℕ → ℕ → List ℕ
sort_text_of sort language = in_language language (get_or sorts sort no_row)

-- the reason of a number
unfoldable pub reason_text_of : ℕ → ℕ → List ℕ
reason_text_of number language = in_language language (get_or reasons (number - 1) no_row)

unfoldable pub item_at : ℕ → ℕ → ℕ → List ℕ
item_at sort index language = pick (eqb sort 0) [] (sort_text_of sort language ++ (decimal index ++ utf8 ")"))

unfoldable pub sentence_at : ℕ → ℕ → ℕ → ℕ → List ℕ
sentence_at number sort index language =
    decimal number ++ (utf8 ": " ++ (reason_text_of number language ++ (item_at sort index language ++ utf8 ".")))

-- there is a sentence of them
pub record Known (number sort language : ℕ) : Type 0 where
  pub least : 1 ≤ number
  pub most : number ≤ last_number
  pub listed : sort ≤ last_sort
  pub spoken : language ≤ 1
