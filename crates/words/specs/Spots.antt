-- What the point calls take and write (document 01, "Point call").
use Rattle.std.specs.Prelude.{Bool, not, List, [], ◌++◌, ◌∷◌, ℕ, eqb}
use Rattle.laws.specs.Out.{Out, and_then, fitted}
use Rattle.laws.specs.Pick.{pick}
use Rattle.sight.specs.declared.Sight.{Sight}
use Rattle.point.specs.declared.Named.{Named}
use Rattle.point.specs.declared.Point.{Point}

-- a flag as a number: set unless 0
unfoldable pub flag_of : ℕ → Bool
flag_of n = not (eqb n 0)

-- what a final place names, in 4 words: 1 an input, its number, the spot's column and row; or four times 0 for fill
unfoldable pub named_fields : Named → List ℕ
named_fields Named.Fill = 0 ∷ 0 ∷ 0 ∷ 0 ∷ []
named_fields (Named.Spot k) = 1 ∷ k.input ∷ k.x ∷ k.y ∷ []

-- the chain's rectangle and turn, in 6: x, y, width, height, 1 exchanged or 0, quarter turns
unfoldable pub sight_fields : Sight → List ℕ
sight_fields s = s.area.x ∷ s.area.y ∷ s.area.width ∷ s.area.height ∷ pick s.exchanged 1 0 ∷ s.turns ∷ []

unfoldable pub point_fields : Point → List ℕ
point_fields a = named_fields a.named ++ sight_fields a.sight

-- 17 an answer of fewer than those 10 words, after every other refusal
unfoldable pub point_words : Out Point → ℕ → Out (List ℕ)
point_words o room = and_then o (λ a. fitted room (point_fields a))
