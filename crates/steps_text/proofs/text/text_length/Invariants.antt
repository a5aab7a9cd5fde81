use mathlib.Core.Path.{◌≡◌}
use Prim.Native.Nat.{◌+◌}
use lib.ListN.{length}
use Rattle.steps_text.proofs.Going.{Going}
use Rattle.steps_text.specs.Text.{lines_from, text_of}
use Rattle.steps_text.proofs.text.text_length.Given as goal

abbrev pub invariant-loop-index : goal.invariant-loop-index
invariant-loop-index l = (g : Going l.s l.fn.input.chain.count l.at l.index) × (l.total + length (lines_from l.index g.rest l.size) ≡ length (text_of l.s))
