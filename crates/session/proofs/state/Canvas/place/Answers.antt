use Rattle.std.specs.Prelude.{Ok}
use Rattle.std.proofs.lemmas.Result.{err_from_is_err_and}
use mathlib.Core.Bool.{not, true}
use mathlib.Core.Path.{◌∙◌, ◌≡◌, ap, sym}
use Prim.Native.Nat.{◌<◌, ◌≤◌}
use native.Mathlib.Omega.{arith}
use lib.ListN.{length}
use borrow.Author.Tests.{not-false, not-true}
use Rattle.records.proofs.RecordLaws.{whole-sound}
use Rattle.records.specs.Record.{record_of}
use Rattle.image.specs.Sound.{FormSound}
use Rattle.image.specs.declared.format.Form.{Form}
use Rattle.planes.specs.Bytes.{size_of}
use Rattle.paste.proofs.HeadedLaws.{tight-form}
use Rattle.grid.proofs.Composed.{canvas-alpha-is}
use Rattle.grid.proofs.GridLaws.{canvas-sound}
use Rattle.tiles.specs.Tiles.{canvas_form}
use Rattle.session.proofs.DrawLaws.{drawn-done, drawn-refused, fits-as, length-begun, length-told, place-done, place-form, place-outside, place-record, place_short, place-unsound, placed-buffer, placed-canvas}
use Rattle.session.proofs.StateLaws.{Accepted, accept-done, count_small, place-suits, state-grid}
use Rattle.session.specs.State.{accept_of, state_ok}
use Rattle.session.proofs.state.Canvas.place.Goals as goal
use Rattle.session.proofs.state.Canvas.place.Goals.{After-begin, After-canvas_form-form, After-tell_alpha, Else-buffer-record_size, Else-not-is_sound, In_ok-fr, In_ok-t}

sound : (c : Else-not-is_sound) → state_ok c.args.self ≡ true
sound c = sym c.is_sound.ensures ∙ not-false _ (ap not c.if-not-is_sound.false)

taken : (c : In_ok-fr)
    → record_of c.args.record.now ≡ Ok c.in_ok-fr.fr
taken c = sym c.parse_record.ensures ∙ c.in_ok-fr.was

accepted : (c : In_ok-t)
    → accept_of c.args.self c.in_ok-fr.fr.form ≡ Ok c.in_ok-t.t
accepted c = sym c.accept.ensures ∙ c.in_ok-t.was

held : (c : In_ok-t) → Accepted c.in_ok-fr.fr.form c.in_ok-t.t
held c =
    accept-done c.args.self _ _ (sound (goal.at.In_ok-t c).Else-not-is_sound) (whole-sound _ _ (taken (goal.at.In_ok-t c).In_ok-fr)).0.form (accepted c)

form-sound-of : (c : After-canvas_form-form) → FormSound c.canvas_form-form.result
form-sound-of c =
    rw c.canvas_form-form.ensures (canvas-sound _ _ 1 (state-grid _ (sound (goal.at.After-canvas_form-form c).Else-not-is_sound)) (held (goal.at.After-canvas_form-form c).In_ok-t).tile (omega arith))

room : (c : Else-buffer-record_size)
    → size_of (canvas_form c.args.self.desc c.in_ok-t.t 1) ≤ length c.args.buffer.now
room c = rw (← c.canvas_form-form.ensures) (rw c.record_size.ensures at c.if-buffer-record_size.false)

long : (c : After-begin)
    → length c.begin.new.out ≡ length c.args.buffer.now
long c = ap length c.begin.ensures ∙ length-begun _ _ _

still : (c : After-tell_alpha)
    → length c.tell_alpha.new.out ≡ length c.args.buffer.now
still c = ap length c.tell_alpha.ensures ∙ length-told _ _ _ ∙ long (goal.at.After-tell_alpha c).After-begin

pub returns-then-not-is_sound : goal.returns-then-not-is_sound
returns-then-not-is_sound c = drawn-refused _ _ _ (place-unsound _ _ _ _ (sym c.is_sound.ensures ∙ not-true _ (ap not c.if-not-is_sound.true)))

pub overflow_mul-g : goal.overflow_mul-g
overflow_mul-g c = omega (arith, count_small _ (state-grid _ (sound (goal.at.overflow_mul-g c).Else-not-is_sound)))

pub returns-then-index-g : goal.returns-then-index-g
returns-then-index-g c = drawn-refused _ _ _ (place-outside _ _ _ _ (sound (goal.at.returns-then-index-g c).Else-not-is_sound) c.if-index-g.true)

pub record_size-requires : goal.record_size-requires
record_size-requires c = form-sound-of c

pub returns-then-buffer-record_size : goal.returns-then-buffer-record_size
returns-then-buffer-record_size c =
    let l : length c.args.buffer.now < size_of (canvas_form c.args.self.desc c.in_ok-t.t 1) =
    rw (← c.canvas_form-form.ensures) (rw c.record_size.ensures at c.if-buffer-record_size.true) in
    drawn-refused _ _ _ (place_short _ _ _ _ (sound (goal.at.returns-then-buffer-record_size c).Else-not-is_sound) c.if-index-g.false _ (taken (goal.at.returns-then-buffer-record_size c).In_ok-fr) _ (accepted (goal.at.returns-then-buffer-record_size c).In_ok-t) l)

pub begin-requires : goal.begin-requires
begin-requires c = (form-sound-of (goal.at.begin-requires c).After-canvas_form-form, rw c.canvas_form-form.ensures (room (goal.at.begin-requires c).Else-buffer-record_size))

pub tell_alpha-requires : goal.tell_alpha-requires
tell_alpha-requires c = (
  ap (λ (m : Form). m.format.alpha) c.canvas_form-form.ensures ∙ canvas-alpha-is _ _ 1,
  rw c.canvas_form-form.ensures (fits-as (long (goal.at.tell_alpha-requires c).After-begin) (room (goal.at.tell_alpha-requires c).Else-buffer-record_size)),
)

pub tight-requires : goal.tight-requires
tight-requires c = form-sound-of (goal.at.tight-requires c).After-canvas_form-form

pub nonzero_rem-index : goal.nonzero_rem-index
nonzero_rem-index c =
    let k = state-grid _ (sound (goal.at.nonzero_rem-index c).Else-not-is_sound) in
    omega (arith, k.positive_columns)

pub nonzero_div-index : goal.nonzero_div-index
nonzero_div-index c =
    let k = state-grid _ (sound (goal.at.nonzero_div-index c).Else-not-is_sound) in
    omega (arith, k.positive_columns)

pub draw_tile-requires : goal.draw_tile-requires
draw_tile-requires c =
    let to = tight-form _ _ c.tight.ensures in (
      to.1,
      rw (to.0, c.canvas_form-form.ensures, c.promotes-promoted.ensures)
          (place-suits _ _ _ _ _ (state-grid _ (sound (goal.at.draw_tile-requires c).Else-not-is_sound)) (whole-sound _ _ (taken (goal.at.draw_tile-requires c).In_ok-fr)).0 (held (goal.at.draw_tile-requires c).In_ok-t)
          (fits-as (still (goal.at.draw_tile-requires c).After-tell_alpha) (room (goal.at.draw_tile-requires c).Else-buffer-record_size))),
    )

pub drawn-canvas-requires : goal.drawn-canvas-requires
drawn-canvas-requires c =
    omega (arith, c.if-index-g.false, count_small _ (state-grid _ (sound (goal.at.drawn-canvas-requires c).Else-not-is_sound)))

pub returns-in_err-fr : goal.returns-in_err-fr
returns-in_err-fr c =
    let p = err_from_is_err_and c.from_residual.result c.from_residual.ensures.1 in
    rw (p.1, p.2) (drawn-refused _ _ _
    (place-record _ _ _ _ (sound (goal.at.returns-in_err-fr c).Else-not-is_sound) c.if-index-g.false _ (sym c.parse_record.ensures ∙ c.in_err-fr.was)))

pub returns-in_err-t : goal.returns-in_err-t
returns-in_err-t c =
    let p = err_from_is_err_and c.from_residual-in_err-t.result c.from_residual-in_err-t.ensures.1 in
    rw (p.1, p.2) (drawn-refused _ _ _
    (place-form _ _ _ _ (sound (goal.at.returns-in_err-t c).Else-not-is_sound) c.if-index-g.false _ (taken (goal.at.returns-in_err-t c).In_ok-fr) _ (sym c.accept.ensures ∙ c.in_err-t.was)))

pub returns : goal.returns
returns c =
    let to = tight-form _ _ c.tight.ensures in
    drawn-done _ _ _ _ _ (place-done _ _ _ _ (sound (goal.at.returns c).Else-not-is_sound) c.if-index-g.false _ (taken (goal.at.returns c).In_ok-fr) _ (accepted (goal.at.returns c).In_ok-t) (room (goal.at.returns c).Else-buffer-record_size))
    (placed-canvas _ _ _ _ _ _ _ _ c.drawn-canvas.ensures c.with_tile.ensures)
    (placed-buffer _ _ _ _ _ _ _ _ _ _ _ _ c.canvas_form-form.ensures c.promotes-promoted.ensures (ap not c.has_tile.ensures) c.begin.ensures
    c.tell_alpha.ensures (rw to.0 at c.draw_tile.ensures))
