use native.Mathlib.Omega.{arith}
use Rattle.session.proofs.StateLaws.{count_small, grid-sound}
use Rattle.session.proofs.state.Canvas.tiled_ok.Goals as goal

pub overflow_mul-g : goal.overflow_mul-g
overflow_mul-g c =
    omega (arith, count_small _ (grid-sound _ c.requires))
