use mathlib.Core.Path.{◌∙◌, ap}
use native.Mathlib.Omega.{arith}
use lib.ListN.{length}
use borrow.Author.Rules.{rules}
use Rattle.image.specs.declared.format.Part.TheVariants.{Alpha, Cb, Cr}
use Rattle.cells.proofs.CellLaws.{length-store_part}
use Rattle.cells.specs.Cell.{store_part, store_tile}
use Rattle.session.proofs.draw.draw_blank.Goals as goal

pub blank_part-requires-2 : goal.blank_part-requires-2
blank_part-requires-2 c = (c.requires.0, search rules)

pub blank_part-requires-3 : goal.blank_part-requires-3
blank_part-requires-3 c = (c.requires.0, search rules)

pub blank_part-requires-4 : goal.blank_part-requires-4
blank_part-requires-4 c = (
  c.requires.0,
  record {
    sound = c.requires.1.sound;
    canvas = c.requires.1.canvas;
    chroma = c.requires.1.chroma;
    depth = c.requires.1.depth;
    alpha = c.requires.1.alpha;
    colour = c.requires.1.colour;
    room =
        omega (
          arith,
          c.requires.1.room,
          ap length c.blank_part.ensures ∙ length-store_part _ _ _ _ _ _,
          ap length c.blank_part-2.ensures ∙ length-store_part _ _ _ _ _ _,
          ap length c.blank_part-3.ensures ∙ length-store_part _ _ _ _ _ _,
        );
  },
)

pub returns : goal.returns
unfolding store_tile
returns c =
    c.blank_part-4.ensures
    ∙ ap (store_part _ _ _ _ Alpha)
    (c.blank_part-3.ensures ∙ ap (store_part _ _ _ _ Cr) (c.blank_part-2.ensures ∙ ap (store_part _ _ _ _ Cb) c.blank_part.ensures))
