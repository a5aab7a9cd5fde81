use mathlib.Core.Path.{◌∙◌, ◌≡◌, ap}
use Prim.Native.Nat.{◌*◌, ◌+◌, ℕ}
use native.Mathlib.Omega.{arith}
use lib.ListN.{length}
use Rattle.laws.proofs.Span.{span-end, span-step}
use Rattle.laws.proofs.Writing.{writing-as, writing-done, writing-fits, writing-run, writing_start}
use Rattle.laws.specs.Span.{span}
use Rattle.planes.proofs.ByteLaws.{length-even}
use Rattle.planes.specs.inner.Promoted.{even_bytes}
use Rattle.planes.proofs.samples.fill_bytes.Goals as goal

pub loop-k-init : goal.loop-k-init
unfolding even_bytes
loop-k-init g c = let e : length c.args.v ≡ g.row.BYTES = omega arith in writing_start _ _ _ (omega (arith, length-even c.args.v c.args.n, ap (λ (k : ℕ). c.args.n * k) e))

pub copy_row-i-requires : goal.copy_row-i-requires
copy_row-i-requires g c = writing-fits c.args.v (span (λ x. c.args.v) (c.loop-k._k + 1) c.args.n) (writing-as c.loop-k.invariant (span-step (λ x. c.args.v) c.loop-k._k c.args.n c.loop-k-test.true))

pub loop-k-preserved : goal.loop-k-preserved
loop-k-preserved g c = writing-run c.args.v (writing-as c.loop-k.invariant (span-step (λ x. c.args.v) c.loop-k._k c.args.n c.loop-k-test.true)) c.copy_row-i.ensures.0 c.copy_row-i.ensures.1

pub returns : goal.returns
returns g c = let w = writing-done (writing-as c.loop-k.invariant (span-end (λ x. c.args.v) c.loop-k._k c.args.n c.loop-k-test.false)) in (w.0 ∙ ap (λ (k : ℕ). c.args.at + k) (length-even c.args.v c.args.n ∙ (let e : length c.args.v ≡ g.row.BYTES = omega arith in ap (λ (k : ℕ). c.args.n * k) e)), w.1)
