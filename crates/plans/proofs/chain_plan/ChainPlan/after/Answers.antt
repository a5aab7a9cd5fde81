use mathlib.Core.Path.{◌∙◌, sym}
use Rattle.laws.proofs.Out.{holds-done}
use Rattle.image.specs.Sound.{FormSound}
use Rattle.stages.proofs.AfterLaws.{after-sound}
use Rattle.plans.proofs.chain_plan.ChainPlan.after.Goals as goal

pub record_size-requires : goal.record_size-requires
record_size-requires c = holds-done FormSound _ _ (after-sound _ _ c.requires) (sym c.form_after.ensures ∙ c.in_ok-m.was)
