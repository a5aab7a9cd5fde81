use Rattle.inputs.proofs.SummaryLaws.{SummaryAt}
use Rattle.inputs.proofs.read.read_frames.Given as goal

abbrev pub invariant-loop-i : goal.invariant-loop-i
invariant-loop-i l = SummaryAt l.body l.tray l.d l.first l.f l.i l.at l.so_far
