use mathlib.Core.Path.{◌≡◌}
use Prim.Native.Nat.{◌*◌, ◌+◌, ◌≤◌}
use Rattle.laws.proofs.Writing.{Writing}
use Rattle.laws.specs.Span.{span}
use Rattle.planes.specs.Bytes.{samples_of}
use Rattle.moves.specs.inner.Move.{walk_at, walk_bytes}
use Rattle.moves.proofs.walk.walk_rows.Given as goal

abbrev pub invariant-loop-y : goal.invariant-loop-y
invariant-loop-y l = (l.y ≤ l.rows) × (l.i ≡ l.at + l.y * (l.columns * l.bytes)) × Writing l.initial.out l.at (walk_bytes l.plane l.bytes l.stride l.w l.columns l.rows) l.out l.i (span (λ v. samples_of l.bytes (λ x. walk_at l.plane l.bytes l.stride l.w x v) l.columns) l.y l.rows)
