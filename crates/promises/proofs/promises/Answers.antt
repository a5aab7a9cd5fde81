use Rattle.promises.proofs.Kept.{kept}
use Rattle.promises.proofs.promises.Goals as goal

pub returns : goal.returns
returns c = kept
