use native.Mathlib.Omega.{arith}
use Rattle.sizes.specs.Sound.{Inside}
use Rattle.sight.proofs.Steps.{cropped-is, unseen-in, unseen-is}
use Rattle.sight.proofs.Sight.cropped.Goals as goal
use Rattle.sight.proofs.Sight.cropped.Goals.{After-unexchanged}

lies : (c : After-unexchanged) → Inside c.unexchanged.result.rect c.args.self.area.width c.args.self.area.height
lies c =
    unseen-in c.args.self c.args.k _ (unseen-is c.args.self c.args.k _ _ c.unturned.ensures c.unexchanged.ensures) c.requires.1

pub overflow_add-result : goal.overflow_add-result
overflow_add-result c =
    omega (arith, c.requires.0.across, (lies (goal.at.overflow_add-result c).After-unexchanged).across)

pub overflow_add-result-2 : goal.overflow_add-result-2
overflow_add-result-2 c =
    omega (arith, c.requires.0.down, (lies (goal.at.overflow_add-result-2 c).After-unexchanged).down)

pub returns : goal.returns
returns c =
    cropped-is c.args.self c.args.k _ (unseen-is c.args.self c.args.k _ _ c.unturned.ensures c.unexchanged.ensures)
