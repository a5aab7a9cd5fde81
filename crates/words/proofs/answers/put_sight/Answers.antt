use mathlib.Core.List.{[], ◌∷◌}
use native.Mathlib.Omega.{arith}
use Rattle.laws.specs.Pick.{pick}
use Rattle.words.proofs.Codes.{two-words, words-behind}
use Rattle.words.specs.Spots.{sight_fields}
use Rattle.words.proofs.answers.put_sight.Goals as goal

pub returns : goal.returns
unfolding sight_fields
returns c =
    words-behind _ _ _ (c.args.s.area.x ∷ c.args.s.area.y ∷ c.args.s.area.width ∷ c.args.s.area.height ∷ []) (pick c.args.s.exchanged 1 0 ∷ c.args.s.turns ∷ []) _ _
    (words-behind _ _ _ (c.args.s.area.x ∷ c.args.s.area.y ∷ []) (c.args.s.area.width ∷ c.args.s.area.height ∷ []) _ _ (two-words _ _ _ _ _ c.put_words-a.ensures.1) c.put_words-a.ensures.0
    (two-words _ _ _ _ _ c.put_words-b.ensures.1))
    (omega (arith, c.put_words-a.ensures.0, c.put_words-b.ensures.0))
    (two-words _ _ _ _ _ (rw c.bit_of.ensures at c.put_words.ensures.1))
