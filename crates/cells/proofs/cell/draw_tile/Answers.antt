use mathlib.Core.Path.{◌∙◌, ap}
use native.Mathlib.Omega.{arith}
use lib.ListN.{length}
use borrow.Author.Rules.{rules}
use Rattle.image.specs.declared.format.Part.TheVariants.{Cb, Cr}
use Rattle.cells.proofs.CellLaws.{length-store_part}
use Rattle.cells.specs.Cell.{store_part, store_tile}
use Rattle.cells.proofs.cell.draw_tile.Goals as goal

pub draw_part-requires-2 : goal.draw_part-requires-2
draw_part-requires-2 c = (c.requires.0, search rules)

pub draw_part-requires-3 : goal.draw_part-requires-3
draw_part-requires-3 c = (c.requires.0, search rules)

pub draw_part-requires-4 : goal.draw_part-requires-4
draw_part-requires-4 c = (
  c.requires.0,
  record {
    sound = c.requires.1.sound;
    canvas = c.requires.1.canvas;
    chroma = c.requires.1.chroma;
    depth = c.requires.1.depth;
    alpha = c.requires.1.alpha;
    colour = c.requires.1.colour;
    room =
        omega (
          arith,
          c.requires.1.room,
          ap length c.draw_part.ensures ∙ length-store_part _ _ _ _ _ _,
          ap length c.draw_part-2.ensures ∙ length-store_part _ _ _ _ _ _,
          ap length c.draw_part-3.ensures ∙ length-store_part _ _ _ _ _ _,
        );
  },
)

pub returns : goal.returns
unfolding store_tile
returns c =
    c.draw_part-4.ensures
    ∙ ap (store_part _ _ _ _ _)
    (c.draw_part-3.ensures ∙ ap (store_part _ _ _ _ Cr) (c.draw_part-2.ensures ∙ ap (store_part _ _ _ _ Cb) c.draw_part.ensures))
