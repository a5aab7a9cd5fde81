use Rattle.std.proofs.Common.{ℕ, ◌%◌, ◌^◌, ap, ◌∙◌, mod-eq_of_lt, one-mul}
use lib.Pow.{pow-lt}
use Rattle.fill.proofs.samples.power.Goals as goal

pub returns : goal.returns
returns c = ap (λ (k : ℕ). k % 2 ^ 32) (one-mul (2 ^ c.args.n)) ∙ mod-eq_of_lt (pow-lt c.requires)
