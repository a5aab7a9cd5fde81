use borrow.Author.Tests.{not-false, not-true}
use Rattle.chains.proofs.GoingLaws.{settle-back, settle-over, settled_back, settled-over, settled_plain}
use Rattle.chains.proofs.apply.settle.Goals as goal

pub returns-then-not-t : goal.returns-then-not-t
returns-then-not-t c = let s = settled_plain _ _ _ c.requires (not-true _ c.if-not-t.true) in (s.arrived, s.drawn, s.form, s.side)

pub show_into-requires : goal.show_into-requires
show_into-requires c = settle-over _ _ _ c.requires (not-false _ c.if-not-t.false) c.if-t.true

pub returns-then-t : goal.returns-then-t
returns-then-t c =
    let s = settled-over _ _ _ c.requires (not-false _ c.if-not-t.false) c.if-t.true _ c.show_into.ensures.0 _ c.show_into.ensures.1 in rw c.stage_drawn.ensures (s.arrived, s.drawn, s.form, s.side)

pub show_into-requires-else-t : goal.show_into-requires-else-t
show_into-requires-else-t c = settle-back _ _ _ c.requires (not-false _ c.if-not-t.false) c.if-t.false

pub returns-else-t : goal.returns-else-t
returns-else-t c =
    let s = settled_back _ _ _ c.requires (not-false _ c.if-not-t.false) c.if-t.false _ c.show_into-else-t.ensures.0 _ c.show_into-else-t.ensures.1 in rw c.stage_drawn-else-t.ensures (s.arrived, s.drawn, s.form, s.side)
