use Rattle.std.specs.Prelude.{Err, Ok}
use mathlib.Core.Path.{◌∙◌, ◌≡◌, ap, refl}
use Prim.Native.Nat.{ℕ}
use Rattle.std.specs.Result.{result_unwrap_or}
use Rattle.laws.specs.Out.{Out}
use Rattle.chains.specs.inner.Apply.{wrote_of}
use Rattle.chains.proofs.apply.draw_into.Goals as goal

wrote-is : (o : Out ℕ) → result_unwrap_or o 0 ≡ wrote_of o
unfolding wrote_of
wrote-is (Err r) = refl
wrote-is (Ok n) = refl

pub returns : goal.returns
returns c = (c.unwrap_or.ensures ∙ ap (λ o. result_unwrap_or o 0) c.draw_step.ensures.0 ∙ wrote-is _, c.draw_step.ensures.1)
