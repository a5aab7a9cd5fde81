use Rattle.std.specs.Prelude.{Option}
use mathlib.Core.Path.{◌∙◌, ap}
use lib.ListN.{length}
use Rattle.laws.specs.Out.{answer_of, written}
use Rattle.fill.specs.declared.Nclx.{Nclx}
use Rattle.overlay.specs.Run.{overlay_run}
use Rattle.words.specs.Code.{answer_code}
use Rattle.capi.proofs.composing.compose_overlay.Goals as goal

pub returns : goal.returns
returns c = (
  c.answer_code.ensures
      ∙ ap answer_code
      (c.composite_overlay.ensures.0
      ∙ ap (λ (k : Option Nclx). answer_of
      (overlay_run c.args.body.now c.args.tray.now c.args.premultiplied.now k (length c.args.out.now)))
      c.colour_of.ensures),
  c.composite_overlay.ensures.1
      ∙ ap (λ (k : Option Nclx). written
      (overlay_run c.args.body.now c.args.tray.now c.args.premultiplied.now k (length c.args.out.now))
      c.args.out.now)
      c.colour_of.ensures,
)
