use Rattle.std.specs.Prelude.{Err}
use Rattle.laws.specs.declared.Item.TheVariants.{Record}
use mathlib.Core.Path.{◌∙◌, ap, sym}
use Rattle.inputs.proofs.FoundLaws.{item-found, item-none}
use Rattle.inputs.proofs.FrameLaws.{from-few}
use Rattle.inputs.proofs.alpha_check.check_alpha.Goals as goal

pub returns-then-above-count : goal.returns-then-above-count
returns-then-above-count c = ap (λ r. Err r) c.about.ensures ∙ sym (item-found _ Record 16 _ _ _ (from-few _ _ _) c.alpha_above-above.ensures _ c.if-above-count.true)

pub returns : goal.returns
returns c = sym (item-none _ Record 16 _ _ _ (from-few _ _ _) c.alpha_above-above.ensures _ c.if-above-count.false)
