use mathlib.Core.Path.{◌∙◌, ap, sym}
use Prim.Native.Nat.{ℕ}
use Rattle.laws.proofs.Order.{pick-false, pick_true}
use Rattle.image.proofs.FormLaws.{bytes-few}
use Rattle.planes.specs.Bytes.{sample_in}
use Rattle.image.specs.Format.{has_alpha, has_part}
use Rattle.blend.specs.inner.Stripe.{alpha_in}
use Rattle.blend.proofs.over.source_alpha.Goals as goal

pub sample-requires : goal.sample-requires
unfolding has_part
sample-requires c = rw c.bytes_per_sample.ensures ((bytes-few _).0, (bytes-few _).1, c.requires (sym c.has.ensures ∙ c.if-has.true))

pub returns-then-has : goal.returns-then-has
unfolding alpha_in has_part
returns-then-has c =
    c.sample.ensures
    ∙ ap (λ (b : ℕ). sample_in c.args.alpha.now b c.args.s.alpha_stride c.args.x c.args.y)
    c.bytes_per_sample.ensures
    ∙ sym (pick_true (has_alpha c.args.s.format) _ _ (sym c.has.ensures ∙ c.if-has.true))

pub returns-else-has : goal.returns-else-has
unfolding alpha_in has_part
returns-else-has c = sym (pick-false _ _ _ (sym c.has.ensures ∙ c.if-has.false))
