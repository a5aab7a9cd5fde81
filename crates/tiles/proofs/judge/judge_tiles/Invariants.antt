use mathlib.Core.Path.{◌≡◌}
use Prim.Native.Nat.{◌-◌}
use Rattle.laws.specs.Out.{after, and_then}
use Rattle.records.specs.Tray.{frames_at}
use Rattle.tiles.proofs.TilesLaws.{judged}
use Rattle.tiles.specs.Tiles.{judge_of}
use Rattle.tiles.proofs.judge.judge_tiles.Given as goal

abbrev pub invariant-loop-i : goal.invariant-loop-i
invariant-loop-i l =
    and_then (frames_at l.count l.tray l.at) (judge_of l.g l.at) ≡ and_then (after l.i (frames_at (l.count - l.i) l.tray l.next)) (judged l.g l.at l.tile l.held l.i)
