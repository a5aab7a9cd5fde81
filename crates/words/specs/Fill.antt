-- What the fill call takes and writes.
use Rattle.std.specs.Prelude.{not, List, [], ◌∷◌, ℕ, eqb, Option, None, Some}
use Rattle.laws.specs.Pick.{pick}
use Rattle.laws.specs.Out.{Out, and_then, fitted}
use Rattle.fill.specs.Fill.{fill_of}
use Rattle.fill.specs.declared.Nclx.{Nclx}
use Rattle.fill.specs.declared.Ycbcr.{Ycbcr}

-- a colour description as three numbers: 0 none; a matrix; a full range unless 0
unfoldable pub colour_of : ℕ → ℕ → ℕ → Option Nclx
colour_of colour matrix range = pick (eqb colour 0) None (Some (record { matrix = matrix; full_range = not (eqb range 0) }))

-- the samples as 3 words
unfoldable pub fill_fields : Ycbcr → List ℕ
fill_fields s = s.y ∷ s.cb ∷ s.cr ∷ []

unfoldable pub fill_words : ℕ → ℕ → ℕ → ℕ → Option Nclx → ℕ → Out (List ℕ)
fill_words red green blue depth colour room = and_then (fill_of red green blue depth colour) (λ s. fitted room (fill_fields s))
