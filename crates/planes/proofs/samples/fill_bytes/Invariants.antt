use Rattle.laws.proofs.Writing.{Writing}
use Rattle.laws.specs.Span.{span}
use Rattle.planes.specs.inner.Promoted.{even_bytes}
use Rattle.planes.proofs.samples.fill_bytes.Given as goal

abbrev pub invariant-loop-k : goal.invariant-loop-k
invariant-loop-k g l = Writing l.initial.out l.at (even_bytes l.v l.n) l.out l.i (span (λ x. l.v) l._k l.n)
