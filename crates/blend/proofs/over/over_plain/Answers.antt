use mathlib.Core.Path.{ap}
use mathlib.Core.Bool.{not}
use mathlib.Core.Bool.{true}
use mathlib.Core.Path.{◌∙◌, ◌≡◌, sym}
use borrow.Author.Tests.{not-false, not-true}
use Rattle.image.specs.Format.{bytes_of, has_alpha, has_part}
use Rattle.blend.proofs.RowLaws.{alpha-inside, colour-laid, depth-bytes, no-colour, opacity-laid, opaque-laid, row-holds, row_inside}
use Rattle.blend.specs.inner.Row.{RowInside, StripeHolds}
use Rattle.blend.proofs.over.over_plain.Given.{Over}
use Rattle.blend.proofs.over.over_plain.Goals as goal
use Rattle.blend.proofs.over.over_plain.Goals.{Else-not-has, Start}

inside : (g : Over) (c : Start g) → RowInside c.args.plane.now g.row.BYTES c.args.s.stride c.args.x c.args.y c.args.n
inside g c = rw c.requires.4 (row_inside c.args.plane.now c.args.alpha.now c.args.s c.args.x c.args.y c.requires.1 c.args.acc.now c.args.k c.args.n c.requires.0)

with : (g : Over) (c : Else-not-has g) → has_alpha c.args.s.format ≡ true
unfolding has_part
with g c = sym c.has.ensures ∙ not-false _ (ap not c.if-not-has.false)

alphas : (g : Over) (c : Else-not-has g) → RowInside c.args.alpha.now g.row.BYTES c.args.s.alpha_stride c.args.x c.args.y c.args.n
alphas g c =
    rw c.requires.4 (alpha-inside c.args.plane.now c.args.alpha.now c.args.s c.args.x c.args.y c.requires.1 c.args.acc.now c.args.k c.args.n c.requires.0 (with g c))

holds : (g : Over) (c : Start g) → StripeHolds c.args.s.top c.args.acc.now c.args.k c.args.n
holds g c = row-holds c.args.plane.now c.args.alpha.now c.args.s c.args.x c.args.y c.requires.1 c.args.acc.now c.args.k c.args.n c.requires.0

pub opaque_row-requires : goal.opaque_row-requires
opaque_row-requires g c =
    let b = depth-bytes c.args.s.format.depth g.row.BYTES c.requires.4 in
    (c.requires.0.bounded, inside g (goal.at.opaque_row-requires g c).Start, b.0, b.1)

pub returns-then-not-has : goal.returns-then-not-has
unfolding has_part bytes_of
returns-then-not-has g c =
    opaque-laid c.args.plane.now c.args.alpha.now c.args.s c.args.x c.args.y c.requires.1
    c.args.acc.now c.opaque_row.new.acc c.args.k c.args.n g.row.BYTES c.requires.4
    (sym c.has.ensures ∙ not-true _ (ap not c.if-not-has.true)) c.requires.0.positive c.opaque_row.ensures

pub colour_row-requires : goal.colour_row-requires
colour_row-requires g c =
    (holds g (goal.at.colour_row-requires g c).Start, inside g (goal.at.colour_row-requires g c).Start, alphas g (goal.at.colour_row-requires g c).Else-not-has, c.requires.2, c.requires.3, c.requires.4)

pub returns-then-is_colour : goal.returns-then-is_colour
returns-then-is_colour g c =
    colour-laid c.args.plane.now c.args.alpha.now c.args.s c.args.x c.args.y c.requires.1 c.args.acc.now c.colour_row.new.acc c.args.k c.args.n (with g (goal.at.returns-then-is_colour g c).Else-not-has) (sym c.is_colour.ensures ∙ c.if-is_colour.true)
    (rw c.requires.4 at c.colour_row.ensures)

pub opacity_row-requires : goal.opacity_row-requires
opacity_row-requires g c =
    (holds g (goal.at.opacity_row-requires g c).Start, alphas g (goal.at.opacity_row-requires g c).Else-not-has, c.requires.2, c.requires.3, c.requires.4)

pub returns-else-is_colour : goal.returns-else-is_colour
returns-else-is_colour g c =
    opacity-laid c.args.plane.now c.args.alpha.now c.args.s c.args.x c.args.y c.requires.1 c.args.acc.now c.opacity_row.new.acc c.args.k c.args.n (with g (goal.at.returns-else-is_colour g c).Else-not-has) (no-colour _ (sym c.is_colour.ensures ∙ c.if-is_colour.false))
    (rw c.requires.4 at c.opacity_row.ensures)
