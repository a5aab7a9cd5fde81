use Rattle.std.specs.Prelude.{Err}
use mathlib.Core.Path.{◌≡◌, ap, refl}
use native.Mathlib.Omega.{arith}
use lib.ListN.{length}
use Rattle.laws.proofs.Out.{fitted_short, refused-answers}
use Rattle.steps_text.proofs.TextLaws.{text-answers, text-refused}
use Rattle.steps_text.specs.Input.{steps_of}
use Rattle.steps_text.specs.Text.{refusal_text}
use Rattle.steps_text.specs.inner.Step.{ReadAs, Taken}
use Rattle.steps_text.proofs.text.steps_text.Goals as goal
use Rattle.steps_text.proofs.text.steps_text.Goals.{In-Ok, In-Err}

read-refused : (c : In-Err) → steps_of c.args.input.now ≡ Err c.in-Err.e
unfolding ReadAs
read-refused c = rw c.in-Err.is at c.read_input.ensures

read_taken : (c : In-Ok) → Taken c.args.input.now c.in-Ok.i
unfolding ReadAs
read_taken c = rw c.in-Ok.is at c.read_input.ensures

pub returns-then-out-refusal_length : goal.returns-then-out-refusal_length
returns-then-out-refusal_length c = let t = text-refused _ _ (read-refused (goal.at.returns-then-out-refusal_length c).In-Err) in refused-answers _ _ _ (fitted_short _ _ (omega (arith, c.if-out-refusal_length.true, c.refusal_length.ensures, ap length t)))

pub text_length-requires : goal.text_length-requires
text_length-requires c = read_taken c

pub returns-then-out-text_length : goal.returns-then-out-text_length
returns-then-out-text_length c = refused-answers _ _ _ (fitted_short _ _ (omega (arith, c.if-out-text_length.true, c.text_length.ensures)))

pub write_text-requires : goal.write_text-requires
write_text-requires c = (read_taken (goal.at.write_text-requires c).In-Ok, omega (arith, c.if-out-text_length.false, c.text_length.ensures))

pub returns-else-out-refusal_length : goal.returns-else-out-refusal_length
returns-else-out-refusal_length c =
    let t = text-refused _ _ (read-refused (goal.at.returns-else-out-refusal_length c).In-Err) in
    text-answers _ _ _ (refusal_text c.in-Err.e) _ t
    (omega (arith, c.if-out-refusal_length.false, c.refusal_length.ensures))
    (omega (arith, c.put_refusal.ensures.0)) c.put_refusal.ensures.1

pub returns-else-out-text_length : goal.returns-else-out-text_length
returns-else-out-text_length c = text-answers _ _ _ _ _ refl (omega (arith, c.if-out-text_length.false, c.text_length.ensures)) c.write_text.ensures.0 c.write_text.ensures.1
