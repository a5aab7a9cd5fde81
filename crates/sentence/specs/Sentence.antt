-- The sentence of a refusal, in German (0) or English (1) (document 02, A2).
use Rattle.std.specs.Prelude.{Ok, Err}
use Rattle.std.specs.Prelude.{List, [], ◌++◌, ◌∷◌, ℕ, eqb, ltb}
use Rattle.laws.specs.Out.{Out, and_then, fitted, reason, refuse}
use Rattle.laws.specs.Pick.{pick}
use Rattle.laws.specs.Utf8.{utf8}
use Rattle.numbers.specs.Decimal.{decimal}
use Rattle.sentence.specs.Table.{Row, reasons, sorts}

unfoldable pub in_language : ℕ → Row → List ℕ
in_language language r = pick (eqb language 0) (utf8 r.german) (utf8 r.english)

-- the refusal's number and the reason
unfoldable pub head : ℕ → Row → List ℕ
head language r = decimal r.number ++ (utf8 ": " ++ in_language language r)

-- the item's sort and its index, in brackets; nothing for sort 0
unfoldable pub item : ℕ → Row → ℕ → List ℕ
item language r index = pick (eqb r.number 0) [] (in_language language r ++ (decimal index ++ utf8 ")"))

unfoldable pub sentence : ℕ → Row → Row → ℕ → List ℕ
sentence language why sort index = head language why ++ (item language sort index ++ utf8 ".")

-- the row of a number: 5 where there is none
unfoldable pub row_of : ℕ → List Row → Out Row
row_of n [] = Err (reason 5)
row_of n (r ∷ rows) = pick (eqb n r.number) (Ok r) (row_of n rows)

-- the sentence of a number, a sort and an index: 5 a number, a sort or a language that is not known; 17 a buffer that is shorter
unfoldable pub sentence_run : ℕ → ℕ → ℕ → ℕ → ℕ → Out (List ℕ)
sentence_run number sort index language room =
    and_then (row_of number reasons) (λ why.
    and_then (row_of sort sorts) (λ of.
    refuse (ltb 1 language) 5
    (fitted room (sentence language why of index))))
