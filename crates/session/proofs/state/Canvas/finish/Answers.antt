use mathlib.Core.Bool.{not}
use mathlib.Core.Bool.{true}
use mathlib.Core.Path.{◌∙◌, ◌≡◌, ap, sym}
use native.Mathlib.Omega.{arith}
use borrow.Author.Tests.{not-false}
use Rattle.session.proofs.StateLaws.{count_small, held-canvas, state-grid, state-tile}
use Rattle.session.specs.State.{has_tile, state_ok}
use Rattle.session.proofs.state.Canvas.finish.Goals as goal
use Rattle.session.proofs.state.Canvas.finish.Goals.{Else-not-has_tile, Else-not-is_sound}

sound : (c : Else-not-is_sound) → state_ok c.args.self ≡ true
sound c = sym c.is_sound.ensures ∙ not-false _ (ap not c.if-not-is_sound.false)

tiled : (c : Else-not-has_tile) → has_tile c.args.self ≡ true
tiled c = sym c.has_tile.ensures ∙ not-false _ (ap not c.if-not-has_tile.false)

pub overflow_mul-g : goal.overflow_mul-g
overflow_mul-g c = omega (arith, count_small _ (state-grid _ (sound (goal.at.overflow_mul-g c).Else-not-is_sound)))

pub all_marked-requires : goal.all_marked-requires
all_marked-requires c = count_small _ (state-grid _ (sound (goal.at.all_marked-requires c).Else-not-is_sound))

pub record_size-requires : goal.record_size-requires
record_size-requires c =
    rw c.canvas_form.ensures (held-canvas _ 1 (sound (goal.at.record_size-requires c).Else-not-is_sound) (tiled (goal.at.record_size-requires c).Else-not-has_tile) (omega arith))

pub record_size-requires-2 : goal.record_size-requires-2
record_size-requires-2 c =
    rw c.canvas_form-2.ensures (held-canvas _ _ (sound (goal.at.record_size-requires-2 c).Else-not-is_sound) (tiled (goal.at.record_size-requires-2 c).Else-not-has_tile) (state-tile _ (sound (goal.at.record_size-requires-2 c).Else-not-is_sound) (tiled (goal.at.record_size-requires-2 c).Else-not-has_tile)).alpha)
