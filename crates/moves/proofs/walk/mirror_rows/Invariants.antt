use mathlib.Core.Path.{◌≡◌}
use Prim.Native.Nat.{◌*◌, ◌+◌, ◌≤◌}
use Rattle.laws.proofs.Writing.{Writing}
use Rattle.laws.specs.Span.{span}
use Rattle.moves.proofs.Mirrors.{mirror_row}
use Rattle.moves.proofs.walk.mirror_rows.Given as goal

abbrev pub invariant-loop-y : goal.invariant-loop-y
invariant-loop-y l = (l.y ≤ l.rows) × (l.i ≡ l.at + l.y * (l.columns * l.bytes)) × Writing l.initial.out l.at (span (mirror_row l.plane l.bytes l.stride l.columns l.w.down l.w.half_down l.last) 0 l.rows) l.out l.i (span (mirror_row l.plane l.bytes l.stride l.columns l.w.down l.w.half_down l.last) l.y l.rows)
