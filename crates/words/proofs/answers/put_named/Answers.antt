use mathlib.Core.List.{[], ◌∷◌}
use mathlib.Core.Path.{◌∙◌, ap, sym}
use native.Mathlib.Omega.{arith}
use Rattle.laws.specs.Puts.{puts}
use Rattle.point.specs.declared.Named.{Named}
use Rattle.words.proofs.Codes.{two-words, words-after}
use Rattle.words.specs.Spots.{named_fields}
use Rattle.words.proofs.answers.put_named.Goals as goal

pub returns-in-Fill : goal.returns-in-Fill
unfolding named_fields
returns-in-Fill c = (
  omega (arith, c.put_words-a.ensures.0, c.put_words.ensures.0),
  words-after _ _ _ (0 ∷ 0 ∷ []) _ _ _ (two-words _ _ _ _ _ c.put_words-a.ensures.1) c.put_words-a.ensures.0 (two-words _ _ _ _ _ c.put_words.ensures.1)
      ∙ ap (λ (n : Named). puts c.args.answer.now 0 (named_fields n)) (sym c.in-Fill.is),
)

pub returns-in-Spot : goal.returns-in-Spot
unfolding named_fields
returns-in-Spot c = (
  omega (arith, c.put_words-a-in-Spot.ensures.0, c.put_words-in-Spot.ensures.0),
  words-after _ _ _ (1 ∷ c.in-Spot.k.input ∷ []) _ _ _ (two-words _ _ _ _ _ c.put_words-a-in-Spot.ensures.1) c.put_words-a-in-Spot.ensures.0 (two-words _ _ _ _ _ c.put_words-in-Spot.ensures.1)
      ∙ ap (λ (n : Named). puts c.args.answer.now 0 (named_fields n)) (sym c.in-Spot.is),
)
