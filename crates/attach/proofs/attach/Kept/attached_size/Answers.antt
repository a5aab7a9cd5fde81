use mathlib.Core.Path.{◌∙◌, ap}
use native.Mathlib.Omega.{arith}
use lib.ListN.{length}
use Rattle.planes.specs.Bytes.{head_bytes}
use Rattle.image.specs.declared.format.Form.{Form}
use Rattle.attach.proofs.AttachLaws.{length-attach}
use Rattle.attach.proofs.attach.Kept.attached_size.Goals as goal

pub returns : goal.returns
returns c =
    omega (
      arith,
      length-attach c.args.self.picture.record.now c.args.self.picture.frame c.args.alpha.picture.record.now c.args.alpha.picture.frame,
      c.head_size-head.ensures.0 ∙ ap (λ (m : Form). length (head_bytes m)) c.with_alpha.ensures,
      c.part_size-luma.ensures.0,
      c.part_size-cb.ensures.0,
      c.part_size-cr.ensures.0,
      c.alpha_size.ensures.0,
    )
