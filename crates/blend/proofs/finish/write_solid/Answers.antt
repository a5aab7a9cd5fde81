use mathlib.Core.Path.{◌≡◌, sym}
use Prim.Native.Nat.{◌*◌, ◌+◌, ◌≤◌}
use native.Mathlib.Omega.{arith}
use lib.ListN.{length}
use borrow.Author.Tests.{le-leb, lt-leb}
use Rattle.laws.proofs.Order.{pick-false, pick_true}
use Rattle.blend.specs.inner.Row.{bytes_at}
use Rattle.blend.proofs.finish.write_solid.Goals as goal

pub solid_samples-requires : goal.solid_samples-requires
solid_samples-requires c =
    let room : c.args.at + c.args.n * 1 ≤ length c.args.out.now = rw c.if-bytes-eq1.true at c.requires.3 in
    let d = c.depth_of.ensures _ c.in-Some.is in
    let e : 1 ≡ bytes_at c.in-Some.d = sym (pick_true _ _ _ (le-leb _ 8 (omega (arith, c.if-d-eq8.true)))) in
    (c.requires.2, room, d.0, d.1, e, c.requires.4)

pub returns-then-d-eq8 : goal.returns-then-d-eq8
returns-then-d-eq8 c = rw c.if-bytes-eq1.true c.solid_samples.ensures

pub solid_samples-requires-then-d-gt8 : goal.solid_samples-requires-then-d-gt8
solid_samples-requires-then-d-gt8 c =
    let room : c.args.at + c.args.n * 2 ≤ length c.args.out.now = rw c.if-bytes-eq2.true at c.requires.3 in
    let d = c.depth_of.ensures _ c.in-Some.is in
    let e : 2 ≡ bytes_at c.in-Some.d = sym (pick-false _ _ _ (lt-leb _ 8 c.if-d-gt8.true)) in
    (c.requires.2, room, d.0, d.1, e, c.requires.4)

pub returns-then-d-gt8 : goal.returns-then-d-gt8
returns-then-d-gt8 c = rw c.if-bytes-eq2.true c.solid_samples-then-d-gt8.ensures
