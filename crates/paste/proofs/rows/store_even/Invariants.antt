use mathlib.Core.Path.{◌≡◌}
use Rattle.planes.specs.Bytes.{samples_of}
use Rattle.paste.specs.Stored.{store_rows}
use Rattle.paste.proofs.rows.store_even.Given as goal

abbrev pub invariant-loop-k : goal.invariant-loop-k
invariant-loop-k l = l.out ≡ store_rows l.initial.out l.at l.stride (λ j. samples_of l.bytes (λ i. l.v) l.across) l.k
