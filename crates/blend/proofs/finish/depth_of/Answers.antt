use mathlib.Core.Path.{◌≡◌, ◌∙◌, sym}
use native.Mathlib.Omega.{arith}
use Rattle.blend.proofs.finish.depth_of.Goals as goal

pub returns-then-top_at-top : goal.returns-then-top_at-top
returns-then-top_at-top c =
    λ h e.
    let z : c.loop-d.d ≡ h = cc in
    rw (← z) (record { low = omega arith; high = omega arith; same = sym (sym c.top_at.ensures ∙ c.if-top_at-top.true) }, omega arith)

pub returns : goal.returns
returns c = λ h e. absurd (cc)
