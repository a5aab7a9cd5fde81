-- Walks that are written by whole rows: those that take each row of a plane from its last sample back, and those that take its columns.
use Rattle.std.specs.Prelude.{false, not, true, ◌≡◌, ◌*◌, ◌+◌, ℕ}
use Rattle.laws.specs.Pick.{pick}
use Rattle.turns.specs.declared.turn.Course.{Course}
use Rattle.moves.specs.declared.walk.Walk.{Walk}

pub record Mirrored (w : Walk) : Type 0 where
  pub rows : w.swapped ≡ false
  pub whole : w.half_across ≡ false
  pub back : w.across.back ≡ true

-- where the samples of a walk stand whose axes are swapped
unfoldable pub course_of : Walk → ℕ → ℕ → Course
course_of w bytes stride = record {
  from = w.across.from * bytes + w.down.from * stride;
  right = pick (not w.across.back) bytes 0;
  left = pick w.across.back bytes 0;
  down = pick (not w.down.back) stride 0;
  up = pick w.down.back stride 0;
}
