use mathlib.Core.Path.{◌∙◌, sym}
use Prim.Native.Nat.{◌≤◌}
use native.Mathlib.Omega.{arith}
use borrow.Author.Tests.{le-leb, leb-true, lt-leb}
use Rattle.laws.proofs.Order.{and-true, pick-false, pick_true}
use Rattle.image.specs.Format.{is_depth, top_of}
use Rattle.blend.specs.inner.Row.{DepthTop}
use Rattle.blend.proofs.over.over_row.Goals as goal
use Rattle.blend.proofs.over.over_row.Goals.{Then-is_depth, Then-stands}

deep : (c : Then-is_depth) → (8 ≤ c.args.s.format.depth) × (c.args.s.format.depth ≤ 16)
unfolding is_depth
deep c = let e = and-true _ _ (sym c.is_depth.ensures ∙ c.if-is_depth.true) in (leb-true _ _ e.0, leb-true _ _ e.1)

pub top-requires : goal.top-requires
top-requires c = (deep c).1

fits : (c : Then-stands) → DepthTop c.args.s.format.depth c.args.s.top
unfolding top_of
fits c = let d = deep (goal.at.Then-stands c).Then-is_depth in record { low = omega (arith, d); high = d.1; same = sym c.if-top-s.true ∙ c.top.ensures }

pub over_plain-requires : goal.over_plain-requires
over_plain-requires c =
    let p = (goal.at.over_plain-requires c).Then-stands in
    (rw c.if-step-eq1.true at c.requires, c.stands.ensures c.if-stands.true, fits p, (deep (goal.at.over_plain-requires c).Then-is_depth).0, sym (pick_true _ _ _ (le-leb _ 8 (omega arith))))

pub over_plain-requires-else-depth-eq8 : goal.over_plain-requires-else-depth-eq8
over_plain-requires-else-depth-eq8 c =
    let p = (goal.at.over_plain-requires-else-depth-eq8 c).Then-stands in
    let d = deep (goal.at.over_plain-requires-else-depth-eq8 c).Then-is_depth in
    (rw c.if-step-eq1.true at c.requires, c.stands.ensures c.if-stands.true, fits p, d.0, sym (pick-false _ _ _ (lt-leb _ 8 (omega (arith, c.if-depth-eq8.false, d)))))
