use Rattle.chains.proofs.GoingLaws.{drawn-back, drawn-over}
use Rattle.stages.proofs.StageLaws.{stage-sound}
use Rattle.chains.proofs.apply.draw_property.Goals as goal

pub next_form-m-requires : goal.next_form-m-requires
next_form-m-requires c = stage-sound _ _ c.requires.staged.sound

pub returns-then-t : goal.returns-then-t
returns-then-t c =
    let s = drawn-over _ _ _ _ c.requires _ c.next_form-m.ensures c.if-t.true _ _ c.draw_into.ensures.0 c.draw_into.ensures.1 in rw c.stage_drawn.ensures (s.arrived, s.drawn, s.form, s.side)

pub returns-else-t : goal.returns-else-t
returns-else-t c =
    let s = drawn-back _ _ _ _ c.requires _ c.next_form-m.ensures c.if-t.false _ _ c.draw_into-else-t.ensures.0 c.draw_into-else-t.ensures.1 in rw c.stage_drawn-else-t.ensures (s.arrived, s.drawn, s.form, s.side)
