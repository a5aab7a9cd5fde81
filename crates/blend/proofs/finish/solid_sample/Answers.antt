use mathlib.Core.Path.{◌∙◌, ◌≡◌, sym}
use Prim.Native.Nat.{◌+◌, ◌/◌}
use native.Mathlib.Omega.{arith}
use Rattle.blend.proofs.FinishLaws.{solid-low, solid-sample}
use Rattle.blend.proofs.RowLaws.{depth-byte}
use Rattle.blend.proofs.TopLaws.{depth-top, top-is, whole-low}
use Rattle.blend.proofs.finish.solid_sample.Given.{Over}
use Rattle.blend.proofs.finish.solid_sample.Goals as goal
use Rattle.blend.proofs.finish.solid_sample.Goals.{Then-this-eq1}

byte : (g : Over) (c : Then-this-eq1 g) → c.args.top ≡ 255
byte g c = depth-byte c.args.d g.row.BYTES c.requires.2 c.args.top c.requires.0 c.requires.1 c.if-this-eq1.true

pub overflow_cast-result : goal.overflow_cast-result
overflow_cast-result g c = omega (arith, solid-low 255 c.args.v (omega arith) (rw (byte g (goal.at.overflow_cast-result g c).Then-this-eq1) at c.requires.3))

pub returns-then-this-eq1 : goal.returns-then-this-eq1
returns-then-this-eq1 g c =
    let e = byte g (goal.at.returns-then-this-eq1 g c).Then-this-eq1 in
    rw e (sym (solid-sample 255 c.args.v (omega arith) (rw e at c.requires.3)))

pub by_top-requires : goal.by_top-requires
by_top-requires g c = (c.requires.0.low, c.requires.0.high, whole-low _ _ c.requires.0 _ c.requires.3)

pub overflow_cast-result-else-this-eq1 : goal.overflow_cast-result-else-this-eq1
overflow_cast-result-else-this-eq1 g c =
    omega (arith, c.by_top.ensures, top-is _ _ c.requires.0 (c.args.v + c.args.top / 2), solid-low c.args.top c.args.v (depth-top _ _ c.requires.0).0 c.requires.3)

pub returns-else-this-eq1 : goal.returns-else-this-eq1
returns-else-this-eq1 g c =
    c.by_top.ensures ∙ top-is _ _ c.requires.0 _ ∙ sym (solid-sample c.args.top c.args.v (depth-top _ _ c.requires.0).0 c.requires.3)
