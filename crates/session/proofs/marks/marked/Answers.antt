use Rattle.session.proofs.MarkLaws.{test-is}
use Rattle.session.proofs.marks.marked.Goals as goal

pub returns : goal.returns
returns c = test-is _ _
