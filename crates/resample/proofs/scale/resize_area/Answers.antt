use mathlib.Core.Path.{◌∙◌, ap, sym}
use lib.ListN.{length}
use Rattle.laws.proofs.Out.{answers-as}
use Rattle.laws.specs.Out.{fitted}
use Rattle.planes.specs.Bytes.{decode, encode}
use Rattle.image.specs.declared.format.Form.{Form}
use Rattle.resample.proofs.RunLaws.{area-drawn, area-kept, area-rule}
use Rattle.sampling.specs.inner.Redraw.{redrawn}
use Rattle.sampling.specs.declared.raster.Rule.{Rule}
use Rattle.resample.proofs.scale.resize_area.Goals as goal

pub returns-then-has_size : goal.returns-then-has_size
returns-then-has_size c = answers-as _ _ _ _ _ (area-kept _ _ _ _ (sym c.has_size.ensures ∙ c.if-has_size.true)) c.hand_back.ensures

pub draw-requires : goal.draw-requires
draw-requires c =
    rw c.sized.ensures
    (area-rule _ _ c.args.picture.sound.form c.requires.sound
    (c.requires.small (sym c.has_size.ensures ∙ c.if-has_size.false)))

pub returns : goal.returns
returns c =
    answers-as _ _ _ _ _
    (area-drawn _ _ _ _ (sym c.has_size.ensures ∙ c.if-has_size.false)
    ∙ ap
    (λ (n : Form). fitted (length c.args.out.now) (encode (redrawn n Rule.Area (decode c.args.picture.«record».now c.args.picture.frame))))
    (sym c.sized.ensures))
    c.draw.ensures
