-- What reading an overlay answers, for the calls that go on with it.
use Rattle.std.specs.Prelude.{Ok}
use Rattle.std.specs.Prelude.{List, ℕ}
use Rattle.laws.specs.Any.{any}
use Rattle.laws.specs.Out.{Out, and_then}
use Rattle.inputs.specs.Inputs.{Inputs, composed_form, inputs_at}
use Rattle.inputs.specs.Layers.{layers_of, see_through}
use Rattle.inputs.specs.declared.read.Plan.{Plan}

-- the descriptor, where the first record stands, the composed form, whether an input has alpha
unfoldable pub plan_of : List ℕ → List ℕ → List ℕ → ℕ → Inputs → Plan
plan_of body tray premultiplied first q =
    record { descriptor = q.descriptor; first = first; form = composed_form body tray premultiplied q; alpha = any see_through (layers_of body tray premultiplied q.descriptor 0 q.frames) }

-- the body and the records of a tray of n, the first at a place
unfoldable pub plan_at : List ℕ → List ℕ → List ℕ → ℕ → ℕ → Out Plan
plan_at body tray premultiplied n at = and_then (inputs_at body tray premultiplied n at) (λ q. Ok (plan_of body tray premultiplied at q))
