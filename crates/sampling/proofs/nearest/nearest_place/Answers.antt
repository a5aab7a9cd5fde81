use mathlib.Core.Path.{◌∙◌, ap, refl, sym}
use Prim.Native.Nat.{ℕ}
use Rattle.sampling.proofs.PlaceLaws.{near_same}
use Rattle.sampling.specs.Nearest.{near_place}
use Rattle.sampling.proofs.nearest.nearest_place.Goals as goal

pub returns-then-a : goal.returns-then-a
returns-then-a c = sym (ap (λ (n : ℕ). near_place n c.args.a.to c.args.k) c.if-a.true ∙ near_same _ _ c.requires.0)

pub returns : goal.returns
unfolding near_place
returns c = refl
