use mathlib.Core.Path.{◌∙◌, sym}
use Rattle.sight.proofs.Steps.{clap-around}
use Rattle.sight.proofs.Sight.after.Goals as goal

pub cropped-requires : goal.cropped-requires
cropped-requires c = (c.requires, clap-around c.args.self _ _ _ _ c.width.ensures c.height.ensures (sym c.resolve-found.ensures ∙ c.in-Ok.is))
