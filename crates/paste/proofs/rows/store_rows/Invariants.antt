use mathlib.Core.Path.{◌≡◌}
use Rattle.paste.specs.Stored.{store_rows}
use Rattle.paste.specs.inner.Source.{source_row}
use Rattle.paste.proofs.rows.store_rows.Given as goal

abbrev pub invariant-loop-k : goal.invariant-loop-k
invariant-loop-k l = l.out ≡ store_rows l.initial.out l.at l.stride (source_row l.plane l.s l.across) l.k
