use Rattle.words.specs.Canvas.{canvas_of, word_at}
use Rattle.words.proofs.canvas.canvas_of.Goals as goal

pub returns : goal.returns
unfolding canvas_of word_at
returns c =
    rw (
      c.field_of.ensures,
      c.field_of-2.ensures,
      c.field_of-3.ensures,
      c.field_of-4.ensures,
      c.field_of-5.ensures,
      c.field_of-6.ensures,
      c.field_of-7.ensures,
      c.field_of-8.ensures,
      c.field_of-9.ensures,
      c.field_of-10.ensures,
      c.marks_of.ensures,
    )
