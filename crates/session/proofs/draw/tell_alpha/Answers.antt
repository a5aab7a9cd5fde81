use native.Mathlib.Omega.{arith}
use Rattle.session.proofs.DrawLaws.{head-some, head-within, told_none, told-some}
use Rattle.session.proofs.draw.tell_alpha.Goals as goal

pub overflow_sub-out : goal.overflow_sub-out
overflow_sub-out c = rw c.head_size.ensures.0 (head-some _ c.requires.0)

pub bounds-out-head_size : goal.bounds-out-head_size
bounds-out-head_size c =
    omega (arith, c.head_size.ensures.0, head-some c.args.canvas c.requires.0, head-within c.args.canvas, c.requires.1)

pub returns-then-f-ne0 : goal.returns-then-f-ne0
returns-then-f-ne0 c = told-some _ _ _ _ c.if-f-ne0.true c.head_size.ensures.0

pub returns-else-f-ne0 : goal.returns-else-f-ne0
returns-else-f-ne0 c = told_none _ _ _ c.if-f-ne0.false
