use mathlib.Core.List.{List, ◌++◌}
use mathlib.Core.Path.{◌≡◌}
use Prim.Native.Nat.{ℕ}
use Rattle.laws.proofs.Writing.{Writing}
use Rattle.steps_text.proofs.Going.{Going}
use Rattle.steps_text.specs.Text.{heading, lines_from, text_of}
use Rattle.steps_text.proofs.text.write_text.Given as goal

abbrev pub invariant-loop-index : goal.invariant-loop-index
invariant-loop-index l = (lines : List ℕ) × (text_of l.s ≡ heading ++ lines) × (g : Going l.s l.fn.input.chain.count l.at l.index) × Writing l.initial.out l.initial.end lines l.out l.end (lines_from l.index g.rest l.size)
