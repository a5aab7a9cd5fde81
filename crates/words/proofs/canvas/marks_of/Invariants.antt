use lib.ListN.{drop}
use Rattle.laws.proofs.Writing.{Writing}
use Rattle.words.specs.Canvas.{marks_of}
use Rattle.words.proofs.canvas.marks_of.Given as goal

abbrev pub invariant-loop-i : goal.invariant-loop-i
invariant-loop-i l = Writing l.initial.marks 0 (marks_of l.state) l.marks l.i (drop l.i (marks_of l.state))
