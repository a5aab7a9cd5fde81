use mathlib.Core.Path.{◌≡◌}
use Prim.Native.Nat.{◌-◌}
use Rattle.session.specs.Marks.{any_word}
use Rattle.session.proofs.marks.any_marked.Given as goal

abbrev pub invariant-loop-word : goal.invariant-loop-word
invariant-loop-word l = any_word l.marks 0 1024 ≡ any_word l.marks l.word-index (1024 - l.word-index)
