use mathlib.Core.Bool.{true}
use mathlib.Core.Path.{◌∙◌, ap, ap₂}
use Rattle.sight.specs.Sight.{sight_after}
use Rattle.stages.specs.inner.Stage.{Gives, HeldAfter, stage_held}
use Rattle.stages.proofs.stage.hold.Goals as goal

pub next_sight-requires : goal.next_sight-requires
next_sight-requires c =
    rw c.sight_here.ensures c.requires.1

pub returns : goal.returns
unfolding HeldAfter Gives stage_held
returns c =
    λ m s a b. ap₂ (λ f u. record { current = c.args.t.current; from = c.args.t.from; form = f; sight = u; shown = true }) (c.next_form.ensures m a) (c.next_sight.ensures s (ap (sight_after c.args.property) c.sight_here.ensures ∙ b))
