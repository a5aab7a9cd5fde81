use mathlib.Core.Bool.{Bool, ◌&&◌}
use mathlib.Core.Path.{◌∙◌, ap, sym}
use Prim.Native.Nat.{◌*◌, ◌+◌, ◌^◌}
use native.Mathlib.Nat.{not-suc-le-zero}
use native.Mathlib.Omega.{arith}
use lib.ListN.{get_or}
use Rattle.laws.proofs.Order.{and_no, by_equal, true-and}
use Rattle.numbers.specs.Field.{signed_of}
use Rattle.bodies.proofs.FormLaws.{all-no, all_yes}
use Rattle.bodies.specs.Form.{narrow_offset}
use Rattle.bodies.specs.Overlay.{offset_in}
use Rattle.bodies.specs.inner.Words.{narrow_inputs}
use Rattle.bodies.proofs.overlay.narrow_offsets.Goals as goal
use Rattle.bodies.proofs.overlay.narrow_offsets.Goals.{then-narrow_offset, else-narrow_offset}

pub loop-i-init : goal.loop-i-init
loop-i-init c = λ k h. absurd (not-suc-le-zero h)

pub returns-then-not-narrow_offset : goal.returns-then-not-narrow_offset
unfolding narrow_inputs offset_in
returns-then-not-narrow_offset c =
    sym (all-no _ _ c.loop-i.i c.loop-i-test.true
    (elim c.if-narrow_offset.branch [
      | then-narrow_offset w ↦ and_no _ (sym w.narrow_offset-then-narrow_offset.ensures ∙ sym w.value-is ∙ c.if-not-narrow_offset.true)
      | else-narrow_offset w ↦ ap (λ (b : Bool). b && narrow_offset (signed_of (2 ^ 32) (get_or c.args.offsets.now (2 * c.loop-i.i + 1) 0))) (sym c.narrow_offset.ensures ∙ w.if-narrow_offset.false)
    ]))

pub loop-i-preserved : goal.loop-i-preserved
unfolding offset_in
loop-i-preserved c =
    λ k h.
    by_equal k c.loop-i.i
    (λ e.
    rw e
    (elim c.if-narrow_offset.branch [
      | then-narrow_offset w ↦ true-and _ _ (sym c.narrow_offset.ensures ∙ w.if-narrow_offset.true) (sym w.narrow_offset-then-narrow_offset.ensures ∙ sym w.value-is ∙ c.if-not-narrow_offset.false)
      | else-narrow_offset w ↦ cc
    ]))
    (λ e. c.loop-i.invariant k (omega arith))

pub returns : goal.returns
unfolding narrow_inputs
returns c = sym (all_yes _ _ (λ k h. c.loop-i.invariant k (omega arith)))
