use mathlib.Core.Path.{◌∙◌, ap, sym}
use lib.ListN.{take}
use lib.Seq.{length-take-le}
use Rattle.laws.specs.Puts.{puts}
use Rattle.planes.specs.Bytes.{decode, encode}
use Rattle.view.specs.inner.View.{shown}
use Rattle.stages.proofs.StageLaws.{shown-is, stage-form, stage-frame, stage-shown}
use Rattle.chains.proofs.apply.show_into.Goals as goal

pub slice_bounds-picture-end : goal.slice_bounds-picture-end
slice_bounds-picture-end c =
    sym (length-take-le _ _ c.requires.2)

pub tight-requires : goal.tight-requires
tight-requires c =
    stage-form c.args.t _ c.requires.0

pub invariant_of-picture : goal.invariant_of-picture
invariant_of-picture c =
    record { sound = rw c.tight.ensures (stage-frame c.args.t _ c.requires.0) }

pub draw_sight-requires : goal.draw_sight-requires
draw_sight-requires c =
    (rw c.tight.ensures (stage-shown c.args.t _ c.requires.0 c.requires.1), c.requires.3)

pub returns : goal.returns
returns c =
    (c.draw_sight.ensures.0, c.draw_sight.ensures.1 ∙ ap (λ fr. puts c.args.to.now 0 (encode (shown c.args.t.form c.args.t.sight (decode (take c.args.t.current.size c.args.from.now) fr)))) c.tight.ensures ∙ ap (puts c.args.to.now 0) (sym (shown-is c.args.t _ c.requires.1)))
