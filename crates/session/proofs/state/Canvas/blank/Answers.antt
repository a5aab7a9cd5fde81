use mathlib.Core.Bool.{not}
use mathlib.Core.Bool.{true}
use mathlib.Core.Path.{◌∙◌, ◌≡◌, ap, sym}
use Prim.Native.Nat.{◌<◌, ◌≤◌}
use native.Mathlib.Omega.{arith}
use lib.ListN.{length}
use borrow.Author.Tests.{not-false, not-true}
use Rattle.image.specs.Sound.{FormSound}
use Rattle.image.specs.declared.format.Form.{Form}
use Rattle.planes.specs.Bytes.{size_of}
use Rattle.paste.proofs.HeadedLaws.{tight-form}
use Rattle.grid.proofs.Composed.{canvas-alpha-is}
use Rattle.tiles.specs.Tiles.{canvas_form}
use Rattle.session.proofs.BlankLaws.{blank-bare, blank-done, blank-outside, blank-short, blank-suits, blank-unsound, blanked-buffer, blanked-canvas}
use Rattle.session.proofs.DrawLaws.{drawn-done, drawn-refused, fits-as, length-told}
use Rattle.session.proofs.StateLaws.{count_small, held-canvas, state-grid, state-tile}
use Rattle.session.specs.State.{has_tile, state_ok}
use Rattle.session.proofs.state.Canvas.blank.Goals as goal
use Rattle.session.proofs.state.Canvas.blank.Goals.{After-canvas_form-form, After-tell_alpha, Else-buffer-record_size, Else-not-has_tile, Else-not-is_sound}

sound : (c : Else-not-is_sound) → state_ok c.args.self ≡ true
sound c = sym c.is_sound.ensures ∙ not-false _ (ap not c.if-not-is_sound.false)

tiled : (c : Else-not-has_tile) → has_tile c.args.self ≡ true
tiled c = sym c.has_tile.ensures ∙ not-false _ (ap not c.if-not-has_tile.false)

form-sound-of : (c : After-canvas_form-form) → FormSound c.canvas_form-form.result
form-sound-of c = rw c.canvas_form-form.ensures (held-canvas _ 1 (sound (goal.at.After-canvas_form-form c).Else-not-is_sound) (tiled (goal.at.After-canvas_form-form c).Else-not-has_tile) (omega arith))

room : (c : Else-buffer-record_size)
    → size_of (canvas_form c.args.self.desc c.args.self.tile 1) ≤ length c.args.buffer.now
room c = rw (← c.canvas_form-form.ensures) (rw c.record_size.ensures at c.if-buffer-record_size.false)

still : (c : After-tell_alpha)
    → length c.tell_alpha.new.out ≡ length c.args.buffer.now
still c = ap length c.tell_alpha.ensures ∙ length-told _ _ _

pub returns-then-not-is_sound : goal.returns-then-not-is_sound
returns-then-not-is_sound c = drawn-refused _ _ _ (blank-unsound _ _ _ (sym c.is_sound.ensures ∙ not-true _ (ap not c.if-not-is_sound.true)))

pub returns-then-not-has_tile : goal.returns-then-not-has_tile
returns-then-not-has_tile c = drawn-refused _ _ _ (blank-bare _ _ _ (sound (goal.at.returns-then-not-has_tile c).Else-not-is_sound) (sym c.has_tile.ensures ∙ not-true _ (ap not c.if-not-has_tile.true)))

pub overflow_mul-g : goal.overflow_mul-g
overflow_mul-g c = omega (arith, count_small _ (state-grid _ (sound (goal.at.overflow_mul-g c).Else-not-is_sound)))

pub returns-then-index-g : goal.returns-then-index-g
returns-then-index-g c = drawn-refused _ _ _ (blank-outside _ _ _ (sound (goal.at.returns-then-index-g c).Else-not-is_sound) (tiled (goal.at.returns-then-index-g c).Else-not-has_tile) c.if-index-g.true)

pub record_size-requires : goal.record_size-requires
record_size-requires c = form-sound-of c

pub returns-then-buffer-record_size : goal.returns-then-buffer-record_size
returns-then-buffer-record_size c =
    let l : length c.args.buffer.now < size_of (canvas_form c.args.self.desc c.args.self.tile 1) =
    rw (← c.canvas_form-form.ensures) (rw c.record_size.ensures at c.if-buffer-record_size.true) in
    drawn-refused _ _ _ (blank-short _ _ _ (sound (goal.at.returns-then-buffer-record_size c).Else-not-is_sound) (tiled (goal.at.returns-then-buffer-record_size c).Else-not-has_tile) c.if-index-g.false l)

pub tell_alpha-requires : goal.tell_alpha-requires
tell_alpha-requires c = (ap (λ (m : Form). m.format.alpha) c.canvas_form-form.ensures ∙ canvas-alpha-is _ _ 1, rw c.canvas_form-form.ensures (room (goal.at.tell_alpha-requires c).Else-buffer-record_size))

pub tight-requires : goal.tight-requires
tight-requires c = form-sound-of (goal.at.tight-requires c).After-canvas_form-form

pub nonzero_rem-index : goal.nonzero_rem-index
nonzero_rem-index c =
    let k = state-grid _ (sound (goal.at.nonzero_rem-index c).Else-not-is_sound) in
    omega (arith, k.positive_columns)

pub nonzero_div-index : goal.nonzero_div-index
nonzero_div-index c =
    let k = state-grid _ (sound (goal.at.nonzero_div-index c).Else-not-is_sound) in
    omega (arith, k.positive_columns)

pub draw_blank-requires : goal.draw_blank-requires
draw_blank-requires c =
    let to = tight-form _ _ c.tight.ensures in (
      to.1,
      rw (to.0, c.canvas_form-form.ensures, c.promotes-promoted.ensures)
          (blank-suits _ _ _ (state-grid _ (sound (goal.at.draw_blank-requires c).Else-not-is_sound)) (state-tile _ (sound (goal.at.draw_blank-requires c).Else-not-is_sound) (tiled (goal.at.draw_blank-requires c).Else-not-has_tile)).tile
          (fits-as (still (goal.at.draw_blank-requires c).After-tell_alpha) (room (goal.at.draw_blank-requires c).Else-buffer-record_size))),
    )

pub drawn-canvas-requires : goal.drawn-canvas-requires
drawn-canvas-requires c =
    omega (arith, c.if-index-g.false, count_small _ (state-grid _ (sound (goal.at.drawn-canvas-requires c).Else-not-is_sound)))

pub returns : goal.returns
returns c =
    let to = tight-form _ _ c.tight.ensures in
    drawn-done _ _ _ _ _ (blank-done _ _ _ (sound (goal.at.returns c).Else-not-is_sound) (tiled (goal.at.returns c).Else-not-has_tile) c.if-index-g.false (room (goal.at.returns c).Else-buffer-record_size)) (blanked-canvas _ _ _ _ c.drawn-canvas.ensures)
    (blanked-buffer _ _ _ _ _ _ _ c.canvas_form-form.ensures c.promotes-promoted.ensures c.tell_alpha.ensures (rw to.0 at c.draw_blank.ensures))
