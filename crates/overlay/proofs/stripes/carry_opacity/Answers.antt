use mathlib.Core.Path.{◌∙◌, ap, sym}
use Rattle.image.specs.declared.format.Part.TheVariants.{Alpha}
use Rattle.blend.proofs.OverLaws.{opaque-stays}
use Rattle.blend.specs.Overlay.{backdrop, over_all}
use Rattle.blend.specs.inner.Stripe.{across_at, down_at}
use Rattle.overlay.proofs.StripedLaws.{ready-top}
use Rattle.overlay.specs.Run.{fill_part}
use Rattle.overlay.specs.inner.Block.{layers_at}
use Rattle.overlay.proofs.stripes.carry_opacity.Goals as goal

pub returns-then-g : goal.returns-then-g
unfolding backdrop fill_part
returns-then-g c =
    λ j h. c.fill_run.ensures j h ∙ sym (ap (over_all c.args.g.top Alpha (across_at c.args.run j) (down_at c.args.run j) (layers_at c.args.body.now c.args.tray.now c.args.premultiplied.now c.args.plan)) c.if-g.true ∙ opaque-stays _ _ _ _ (ready-top c.requires.0.canvas))
