use Prim.Native.Nat.{min}
use Rattle.laws.proofs.Writing.{Writing}
use Rattle.laws.specs.Span.{span}
use Rattle.planes.specs.Bytes.{sample_bytes}
use Rattle.paste.specs.inner.Source.{capped_row, source_at}
use Rattle.paste.proofs.rows.store_capped_row.Given as goal

abbrev pub invariant-loop-i : goal.invariant-loop-i
invariant-loop-i l = Writing l.initial.out l.at (capped_row l.plane l.s l.top l.across l.k) l.out l.to (span (λ j. sample_bytes l.s.bytes (min (source_at l.plane l.s j l.k) l.top)) l.i l.across)
