use mathlib.Core.Path.{◌∙◌, sym}
use lib.ListN.{get_or-map}
use borrow.Author.Tests.{eq-eqb, ne_eqb}
use Rattle.laws.proofs.Order.{pick-false, pick_true}
use Rattle.sentence.specs.declared.table.Texts.{Texts}
use Rattle.sentence.specs.inner.Texts.{told_of}
use Rattle.sentence.proofs.table.told.Goals as goal

pub returns-then-language-eq0 : goal.returns-then-language-eq0
unfolding told_of
returns-then-language-eq0 c = c.as_bytes.ensures.value ∙ sym (pick_true _ _ _ (eq-eqb _ _ c.if-language-eq0.true) ∙ get_or-map (λ (t : Texts). t.german.now) c.args.texts.now c.args.row _)

pub returns-else-language-eq0 : goal.returns-else-language-eq0
unfolding told_of
returns-else-language-eq0 c = c.as_bytes-else-language-eq0.ensures.value ∙ sym (pick-false _ _ _ (ne_eqb _ _ c.if-language-eq0.false) ∙ get_or-map (λ (t : Texts). t.english.now) c.args.texts.now c.args.row _)
