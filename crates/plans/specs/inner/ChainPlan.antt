-- Where a chain leads, by forms alone: what is known before anything is drawn.
use Rattle.std.specs.Prelude.{Ok}
use Rattle.std.specs.Prelude.{Bool, false, not, true, List, max, ℕ, ltb}
use Rattle.laws.specs.Out.{Out, and_then, refuse}
use Rattle.laws.specs.Pick.{pick}
use Rattle.image.specs.declared.format.Form.{Form}
use Rattle.planes.specs.Bytes.{size_of}
use Rattle.props.specs.Chain.{fold_chain}
use Rattle.props.specs.declared.entry.Property.{Property}
use Rattle.props.specs.declared.entry.PropertyEntry.{PropertyEntry}
use Rattle.stages.specs.declared.stage.Current.{Current}
use Rattle.stages.specs.inner.Held.{begins, form_after, shown_after}
use Rattle.plans.specs.declared.chain_plan.ChainPlan.{ChainPlan}

-- the composed form, no drawing on the way
unfoldable pub chain_plan_start : Form → ChainPlan
chain_plan_start m = record { form = m; longest = size_of m; even = true; shown = false }

-- one property more: the longest record so far, and whether the drawings are even in number
unfoldable pub chain_plan_after : Property → ChainPlan → Out ChainPlan
chain_plan_after p c =
    and_then (form_after p c.form) (λ m.
    Ok (record {
      form = m;
      longest = max c.longest (size_of m);
      even = pick (begins p c.form c.shown) (not c.even) c.even;
      shown = shown_after p c.form c.shown;
    }))

unfoldable pub chain_plan_of : List PropertyEntry → Bool → Form → Out ChainPlan
chain_plan_of es essential_only m = fold_chain chain_plan_after essential_only es (chain_plan_start m)

-- 17 output or spare shorter than the longest record; else the composed record, in output where the drawings are even in number
unfoldable pub current_for : ℕ → ℕ → Form → ChainPlan → Out Current
current_for output spare m c =
    refuse (ltb output c.longest) 17 (refuse (ltb spare c.longest) 17 (Ok (record { size = size_of m; inside = c.even })))

unfoldable pub current_of : List PropertyEntry → Bool → Form → ℕ → ℕ → Out Current
current_of es essential_only m output spare = and_then (chain_plan_of es essential_only m) (current_for output spare m)
