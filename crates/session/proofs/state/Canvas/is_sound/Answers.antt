use mathlib.Core.Path.{◌∙◌, ap, sym}
use mathlib.Core.Bool.{not}
use borrow.Author.Tests.{not-false}
use Rattle.session.proofs.state.Canvas.is_sound.Goals as goal

pub tiled_ok-requires : goal.tiled_ok-requires
tiled_ok-requires c = sym c.grid_ok.ensures ∙ not-false _ (ap not c.if-not-grid_ok.false)
