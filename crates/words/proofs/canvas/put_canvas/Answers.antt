use native.Mathlib.Omega.{arith}
use lib.ListN.{length-set}
use Rattle.laws.specs.Puts.{puts}
use Rattle.words.specs.Canvas.{words_of}
use Rattle.words.specs.Descriptors.{grid_fields}
use Rattle.words.specs.Read.{form_fields}
use Rattle.words.proofs.canvas.put_canvas.Goals as goal

pub bounds-state-1 : goal.bounds-state-1
bounds-state-1 c = simp length-set (omega (arith, c.requires))

pub bounds-state-2 : goal.bounds-state-2
bounds-state-2 c = simp length-set (omega (arith, c.requires))

pub bounds-state-3 : goal.bounds-state-3
bounds-state-3 c = simp length-set (omega (arith, c.requires))

pub bounds-state-4 : goal.bounds-state-4
bounds-state-4 c = simp length-set (omega (arith, c.requires))

pub bounds-state-5 : goal.bounds-state-5
bounds-state-5 c =
    simp length-set (omega (arith, c.requires))

pub bounds-state-6 : goal.bounds-state-6
bounds-state-6 c =
    simp length-set (omega (arith, c.requires))

pub bounds-state-7 : goal.bounds-state-7
bounds-state-7 c =
    simp length-set (omega (arith, c.requires))

pub bounds-state-8 : goal.bounds-state-8
bounds-state-8 c =
    simp length-set (omega (arith, c.requires))

pub bounds-state-9 : goal.bounds-state-9
bounds-state-9 c =
    simp length-set (omega (arith, c.requires))

pub put_marks-requires : goal.put_marks-requires
put_marks-requires c =
    simp length-set c.requires

pub returns : goal.returns
unfolding puts words_of grid_fields form_fields
returns c = (omega (arith, c.put_marks.ensures.0), c.put_marks.ensures.1)
