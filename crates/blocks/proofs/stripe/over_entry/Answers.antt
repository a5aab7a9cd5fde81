use mathlib.Core.Path.{◌∙◌, refl, sym}
use native.Mathlib.Omega.{arith}
use Rattle.inputs.proofs.FrameLaws.{record-inside}
use Rattle.blocks.proofs.ListLaws.{entry-missed, entry-over, entry-refused}
use Rattle.blocks.proofs.stripe.over_entry.Goals as goal

pub misses-requires : goal.misses-requires
misses-requires c =
    (omega (arith, c.requires.6.room, c.requires.8), c.requires.3.ends)

pub returns-then-misses : goal.returns-then-misses
returns-then-misses c =
    λ j h. sym (entry-missed _ _ _ _ _ _ _ _ c.requires.5 c.requires.3.wide _ _ c.requires.6 j h _ _ c.requires.8 (sym c.misses.ensures ∙ c.if-misses.true))

pub bounds-entries-k : goal.bounds-entries-k
bounds-entries-k c =
    omega (arith, c.requires.6.room, c.requires.8)

pub offset-place-requires : goal.offset-place-requires
offset-place-requires c =
    (c.requires.0, c.requires.6.numbers _ c.requires.8)

pub over_input-requires : goal.over_input-requires
over_input-requires c =
    (record-inside _ _ _ (sym c.read_record.ensures ∙ c.in-Ok.is), c.requires.2, c.requires.3, c.requires.4, c.requires.7)

pub returns-in-Err : goal.returns-in-Err
returns-in-Err c = λ j h. sym (entry-refused _ _ _ _ _ _ _ _ _ _ _ _ _ refl (sym c.read_record.ensures ∙ c.in-Err.is))

pub returns-in-Ok : goal.returns-in-Ok
returns-in-Ok c =
    λ j h. entry-over _ _ _ _ _ _ _ _ _ _ _ _ _ _ _ _ _ refl refl (sym c.read_record.ensures ∙ c.in-Ok.is) c.offset-place.ensures refl (c.over_input.ensures j h)
