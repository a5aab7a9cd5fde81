use mathlib.Core.Path.{◌∙◌, ap}
use lib.ListN.{length}
use Rattle.image.specs.declared.format.Part.TheVariants.{Alpha, Cb, Cr}
use Rattle.opaque.proofs.FrameLaws.{lays-as, length-lay_part}
use Rattle.opaque.specs.inner.Laid.{lay_input, lay_part}
use Rattle.opaque.proofs.lay.lay_input.Goals as goal

pub lay_part-requires-2 : goal.lay_part-requires-2
lay_part-requires-2 c =
    (c.requires.0, lays-as _ _ _ _ _ (ap length c.lay_part.ensures ∙ length-lay_part _ _ _ _ _) c.requires.1)

pub lay_part-requires-3 : goal.lay_part-requires-3
lay_part-requires-3 c =
    (c.requires.0, lays-as _ _ _ _ _ (ap length c.lay_part-2.ensures ∙ length-lay_part _ _ _ _ _ ∙ ap length c.lay_part.ensures ∙ length-lay_part _ _ _ _ _) c.requires.1)

pub lay_part-requires-4 : goal.lay_part-requires-4
lay_part-requires-4 c =
    (c.requires.0, lays-as _ _ _ _ _ (ap length c.lay_part-3.ensures ∙ length-lay_part _ _ _ _ _ ∙ ap length c.lay_part-2.ensures ∙ length-lay_part _ _ _ _ _ ∙ ap length c.lay_part.ensures ∙ length-lay_part _ _ _ _ _) c.requires.1)

pub returns : goal.returns
unfolding lay_input
returns c =
    c.lay_part-4.ensures ∙ ap (lay_part _ _ _ Alpha) (c.lay_part-3.ensures ∙ ap (lay_part _ _ _ Cr) (c.lay_part-2.ensures ∙ ap (lay_part _ _ _ Cb) c.lay_part.ensures))
