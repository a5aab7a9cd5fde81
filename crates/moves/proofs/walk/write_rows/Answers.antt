use mathlib.Core.Bool.{false}
use mathlib.Core.Path.{◌∙◌, ◌≡◌, ap}
use Rattle.laws.specs.Puts.{puts}
use Rattle.laws.specs.Span.{span}
use Rattle.turns.specs.declared.turn.Course.{Course}
use Rattle.turns.specs.inner.Course.{course_row}
use Rattle.moves.proofs.Turned.{turned-bytes, turned-fits}
use Rattle.moves.proofs.walk.write_rows.Goals as goal
use Rattle.moves.proofs.walk.write_rows.Goals.{Else-w-3, Then-w-4, else-w+else-w-2, else-w+then-w-2, then-w}

whole : (c : Else-w-3) → c.args.w.half_across ≡ false
whole c = elim c.if-w.branch [ then-w w ↦ cc | else-w+then-w-2 w ↦ w.if-w.false | else-w+else-w-2 w ↦ w.if-w.false ]

low : (c : Then-w-4) → c.args.w.half_down ≡ false
low c = elim c.if-w.branch [ then-w w ↦ cc | else-w+then-w-2 w ↦ cc | else-w+else-w-2 w ↦ cc ]

pub turn_rows-requires : goal.turn_rows-requires
turn_rows-requires c =
    let a = whole (goal.at.turn_rows-requires c).Else-w-3 in
    let d = low (goal.at.turn_rows-requires c).Then-w-4 in
    (rw c.turn_course-c.ensures (turned-fits _ _ _ _ _ _ c.requires.0 c.if-w-4.true a d), c.requires.1)

pub returns-then-w-4 : goal.returns-then-w-4
returns-then-w-4 c =
    let a = whole (goal.at.returns-then-w-4 c).Else-w-3 in
    let d = low (goal.at.returns-then-w-4 c).Then-w-4 in (
      c.turn_rows.ensures.0,
      c.turn_rows.ensures.1
          ∙ ap (puts c.args.out.now c.args.at)
          (ap (λ (q : Course). span (course_row c.args.plane.now c.args.bytes q c.args.columns) 0 c.args.rows) c.turn_course-c.ensures
          ∙ turned-bytes _ _ _ _ _ _ c.requires.0 c.if-w-4.true a d),
    )
