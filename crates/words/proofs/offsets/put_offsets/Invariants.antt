use Rattle.laws.proofs.Writing.{Writing}
use Rattle.laws.specs.Span.{span}
use Rattle.words.proofs.OffsetLaws.{input_words}
use Rattle.words.proofs.offsets.put_offsets.Given as goal

abbrev pub invariant-loop-i : goal.invariant-loop-i
invariant-loop-i l = Writing l.initial.answer 0 (span (input_words l.body l.d.offsets l.d.bytes) 0 l.d.count) l.answer l.at (span (input_words l.body l.d.offsets l.d.bytes) l.i l.d.count)
