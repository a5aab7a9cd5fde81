use mathlib.Core.List.{List}
use mathlib.Core.Path.{ap}
use Prim.Native.Nat.{ℕ}
use Rattle.session.proofs.MarkLaws.{mark-is}
use Rattle.session.proofs.state.Canvas.drawn.Goals as goal

pub returns : goal.returns
returns c = ap (λ (ms : List ℕ). record { desc = c.args.self.desc; tile = c.args.tile; alpha = c.args.alpha; marks = ms }) (mark-is c.args.self.marks c.args.cell)
