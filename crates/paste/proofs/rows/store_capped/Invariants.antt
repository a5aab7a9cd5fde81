use mathlib.Core.Path.{◌≡◌}
use Rattle.paste.specs.Stored.{store_rows}
use Rattle.paste.specs.inner.Source.{capped_row}
use Rattle.paste.proofs.rows.store_capped.Given as goal

abbrev pub invariant-loop-k : goal.invariant-loop-k
invariant-loop-k l = l.out ≡ store_rows l.initial.out l.at l.stride (capped_row l.plane l.s l.top l.across) l.k
