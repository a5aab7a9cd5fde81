use mathlib.Core.Path.{◌∙◌, refl, sym}
use native.Mathlib.Nat.{sub-zero}
use native.Mathlib.Omega.{arith}
use Rattle.inputs.proofs.FrameLaws.{record-inside}
use Rattle.blend.proofs.OverLaws.{over_at-held}
use Rattle.blend.proofs.StripeLaws.{all-over, all_none, all-refused}
use Rattle.blend.proofs.over.over_inputs.Goals as goal

pub loop-i-init : goal.loop-i-init
loop-i-init c = (refl, c.requires.5, λ j h. rw (sub-zero c.args.d.count) refl)

pub returns-in-Err : goal.returns-in-Err
returns-in-Err c = λ j h. sym (c.loop-i.invariant.2 j h ∙ all-refused _ _ _ _ _ _ _ _ _ _ _ _ _ (sym c.read_record.ensures ∙ c.in-Err.is))

pub offset-place-requires : goal.offset-place-requires
offset-place-requires c =
    (c.requires.0, c.loop-i-test.true)

pub over_input-requires : goal.over_input-requires
over_input-requires c = (
  record-inside _ _ _ (sym c.read_record.ensures ∙ c.in-Ok.is),
  c.requires.2,
  c.requires.3,
  omega (arith, c.requires.4, c.loop-i.invariant.0),
  c.loop-i.invariant.1,
)

pub loop-i-preserved : goal.loop-i-preserved
loop-i-preserved c = (
  c.over_input.auto.acc ∙ c.loop-i.invariant.0,
  λ j h. rw (c.over_input.ensures j h) (over_at-held _ _ _ _ _ _ (c.loop-i.invariant.1 j h) c.requires.2),
  λ j h. c.loop-i.invariant.2 j h
      ∙ all-over _ _ _ _ _ _ _ _ _ _ _ _ _ _ _ _ c.loop-i-test.true (sym c.read_record.ensures ∙ c.in-Ok.is) c.offset-place.ensures
      refl (c.over_input.ensures j h),
)

pub returns : goal.returns
returns c = λ j h. sym (c.loop-i.invariant.2 j h ∙ all_none _ _ _ _ _ _ _ _ _ _ _ _ (omega (arith, c.loop-i-test.false)))
