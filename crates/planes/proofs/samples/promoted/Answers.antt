use mathlib.Core.Path.{◌∙◌, sym}
use Rattle.image.proofs.FormLaws.{bytes-few}
use Rattle.planes.proofs.samples.promoted.Goals as goal

pub sample-requires : goal.sample-requires
sample-requires c = (
  rw c.bytes_per_sample.ensures (bytes-few c.args.format).0,
  rw c.bytes_per_sample.ensures (bytes-few c.args.format).1,
  simp (
    c.covering-cx.ensures,
    c.half_width.ensures,
    c.covering-cy.ensures,
    c.half_height.ensures,
    c.bytes_per_sample.ensures,
  ) (c.requires.inside (sym c.has.ensures ∙ c.if-has.true)),
)
