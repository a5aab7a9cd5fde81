use mathlib.Core.List.{[], ◌∷◌}
use native.Mathlib.Omega.{arith}
use Rattle.words.proofs.Codes.{two-words, words-after}
use Rattle.words.specs.Properties.{crop_fields}
use Rattle.words.proofs.answers.put_crop.Goals as goal

pub returns : goal.returns
unfolding crop_fields
returns c =
    words-after _ _ _ (c.args.k.rect.x ∷ c.args.k.rect.y ∷ c.args.k.rect.width ∷ c.args.k.rect.height ∷ c.args.k.margins.left ∷ c.args.k.margins.top ∷ []) _ _ _
    (words-after _ _ _ (c.args.k.rect.x ∷ c.args.k.rect.y ∷ c.args.k.rect.width ∷ c.args.k.rect.height ∷ []) _ _ _
    (words-after _ _ _ (c.args.k.rect.x ∷ c.args.k.rect.y ∷ []) _ _ _ (two-words _ _ _ _ _ c.put_words-a.ensures.1) c.put_words-a.ensures.0 (two-words _ _ _ _ _ c.put_words-b.ensures.1))
    (omega (arith, c.put_words-a.ensures.0, c.put_words-b.ensures.0))
    (two-words _ _ _ _ _ c.put_words-c.ensures.1))
    (omega (arith, c.put_words-a.ensures.0, c.put_words-b.ensures.0, c.put_words-c.ensures.0))
    (two-words _ _ _ _ _ c.put_words.ensures.1)
