use mathlib.Core.Path.{◌∙◌, ◌≡◌, ap, sym}
use Prim.Native.Nat.{◌%◌, ◌/◌}
use native.Mathlib.Omega.{arith}
use Rattle.laws.specs.Puts.{puts}
use Rattle.planes.proofs.ByteLaws.{sample-one, sample-two}
use Rattle.planes.proofs.samples.put_sample.Goals as goal

pub returns-then-bytes-eq1 : goal.returns-then-bytes-eq1
unfolding puts
returns-then-bytes-eq1 c = (omega arith, sym (ap (puts c.args.out.now c.args.at) (sample-one c.args.bytes c.args.v c.if-bytes-eq1.true)))

pub returns : goal.returns
unfolding puts
returns c = let e : c.args.v / 256 % 256 ≡ c.args.v / 256 = omega arith in (omega arith, sym (ap (puts c.args.out.now c.args.at) (sample-two c.args.bytes c.args.v c.if-bytes-eq1.false) ∙ simp e))
