use mathlib.Core.Path.{◌∙◌, refl}
use native.Mathlib.Omega.{arith}
use Rattle.blocks.proofs.list.fit_block.Goals as goal

pub list_inputs-inputs-requires : goal.list_inputs-inputs-requires
list_inputs-inputs-requires c =
    (c.requires.0, c.requires.1, c.requires.2, c.requires.4)

pub loop-inputs-init : goal.loop-inputs-init
loop-inputs-init c =
    (c.requires.3, omega arith, refl, c.list_inputs-inputs.ensures)

pub list_inputs-inputs-requires-in-loop-inputs : goal.list_inputs-inputs-requires-in-loop-inputs
list_inputs-inputs-requires-in-loop-inputs c =
    (c.requires.0, c.requires.1, omega (arith, c.requires.2, c.loop-inputs.invariant.1), omega (arith, c.requires.4, c.loop-inputs.invariant.2, c.list_inputs-inputs.auto.entries))

pub loop-inputs-preserved : goal.loop-inputs-preserved
loop-inputs-preserved c =
    (omega arith, omega (arith, c.loop-inputs.invariant.1), c.list_inputs-inputs-in-loop-inputs.auto.entries ∙ c.loop-inputs.invariant.2, c.list_inputs-inputs-in-loop-inputs.ensures)

pub returns-else-count-gt1024 : goal.returns-else-count-gt1024
returns-else-count-gt1024 c = (c.loop-inputs.invariant.0, c.loop-inputs.invariant.1, c.loop-inputs.invariant.3)

pub returns-after-loop-inputs : goal.returns-after-loop-inputs
returns-after-loop-inputs c = (c.loop-inputs.invariant.0, c.loop-inputs.invariant.1, c.loop-inputs.invariant.3)
