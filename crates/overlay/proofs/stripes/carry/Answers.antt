use mathlib.Core.Path.{◌∙◌, ap}
use native.Mathlib.Omega.{arith}
use Rattle.blend.specs.Overlay.{over_all}
use Rattle.blend.specs.inner.Stripe.{across_at, down_at}
use Rattle.overlay.proofs.StripedLaws.{ready-fits, ready_held, ready-top}
use Rattle.overlay.specs.inner.Block.{layers_at}
use Rattle.overlay.proofs.stripes.carry.Goals as goal

pub over_stripe-requires : goal.over_stripe-requires
over_stripe-requires c =
    (c.requires.0.canvas.plan.offsets, c.requires.0.canvas.plan.list, ready-top c.requires.0.canvas, ready-fits c.requires.0.canvas _ c.requires.0.run, omega (arith, c.requires.1, c.fill_run.auto.acc), c.requires.0.run.whole, c.requires.0.listed, λ j h. rw (c.fill_run.ensures j h, c.backdrop_of.ensures) (ready_held c.requires.0.canvas c.args.part))

pub returns : goal.returns
returns c =
    λ j h. c.over_stripe.ensures j h ∙ ap (over_all c.args.g.top c.args.part (across_at c.args.run j) (down_at c.args.run j) (layers_at c.args.body.now c.args.tray.now c.args.premultiplied.now c.args.plan)) (c.fill_run.ensures j h ∙ c.backdrop_of.ensures)
