use Rattle.std.specs.Prelude.{Ok}
use mathlib.Core.Path.{◌∙◌, ap}
use Rattle.chains.proofs.ApplyLaws.{ended-output, ended-spare}
use Rattle.chains.proofs.apply.finish_scene.Goals as goal

pub returns : goal.returns
returns c =
    record {
      answer = ap Ok c.apply_chain-size.ensures.size;
      output = c.clear.ensures ∙ ended-output _ _ _ _ _ _ c.apply_chain-size.ensures;
      spare = c.clear-2.ensures ∙ ended-spare _ _ _ _ _ _ c.apply_chain-size.ensures;
    }
