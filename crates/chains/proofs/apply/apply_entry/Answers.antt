use mathlib.Core.Path.{◌∙◌, sym}
use Rattle.chains.proofs.GoingLaws.{drawn-as, moved-drawn, moved-held, moved_none, settled-as, settled-drawable}
use Rattle.stages.proofs.StageLaws.{held-even, stage-bounded, stage-sound}
use Rattle.chains.proofs.apply.apply_entry.Goals as goal

pub returns-then-not-is_drawn : goal.returns-then-not-is_drawn
returns-then-not-is_drawn c =
    let m = moved_none _ _ _ _ _ c.requires (sym c.is_drawn.ensures ∙ c.if-not-is_drawn.true) in (m.arrived, m.planned)

pub hold-requires : goal.hold-requires
hold-requires c =
    (stage-sound _ _ c.requires.staged.sound, stage-bounded _ _ c.requires.staged.sound (held-even _ _ (sym c.is_held.ensures ∙ c.if-is_held.true)))

pub returns-then-is_held : goal.returns-then-is_held
returns-then-is_held c =
    let m = moved-held _ _ _ _ _ c.requires (sym c.is_drawn.ensures ∙ c.if-not-is_drawn.false) (sym c.is_held.ensures ∙ c.if-is_held.true) _ c.hold.ensures in (m.arrived, m.planned)

pub settle-u-requires : goal.settle-u-requires
settle-u-requires c = c.requires.staged

pub draw_property-requires : goal.draw_property-requires
draw_property-requires c =
    settled-drawable _ _ _ _ _ c.requires (sym c.is_drawn.ensures ∙ c.if-not-is_drawn.false) (sym c.is_held.ensures ∙ c.if-is_held.false) _ _ _ (settled-as _ _ _ _ c.settle-u.ensures)

pub returns-else-is_held : goal.returns-else-is_held
returns-else-is_held c =
    let m = moved-drawn _ _ _ _ _ c.requires (sym c.is_drawn.ensures ∙ c.if-not-is_drawn.false) (sym c.is_held.ensures ∙ c.if-is_held.false) _ _ _ (settled-as _ _ _ _ c.settle-u.ensures) _ _ _ (drawn-as _ _ _ _ _ c.draw_property.ensures) in (m.arrived, m.planned)
