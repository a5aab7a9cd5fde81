-- Room for a scene (document 01, "The scene call"): the longest of the composed and step records, which output and spare must hold.
use Rattle.std.specs.Prelude.{Ok}
use Rattle.std.specs.Prelude.{ℕ}
use Rattle.laws.specs.Out.{Out, and_then}
use Rattle.stages.specs.Chain.{Drawn}

-- of a scene that was drawn, or why there is none
unfoldable pub longest_of : Out Drawn → Out ℕ
longest_of o = and_then o (λ d. Ok d.longest)
