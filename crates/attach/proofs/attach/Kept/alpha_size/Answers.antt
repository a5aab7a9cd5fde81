use mathlib.Core.Path.{◌∙◌, ap, sym}
use lib.ListN.{length}
use Rattle.planes.specs.Bytes.{plane_size}
use Rattle.image.specs.declared.format.Form.{Form}
use Rattle.image.specs.declared.format.Part.TheVariants.{Luma}
use Rattle.attach.proofs.AttachLaws.{cover-as-is, cover-depths, length-cover, luma-fits, luma-sound}
use Rattle.attach.proofs.attach.Kept.alpha_size.Goals as goal

pub kept_size-requires : goal.kept_size-requires
kept_size-requires c = luma-fits _ _ c.args.self.picture.sound c.args.self.short

pub returns-then-alpha_kept : goal.returns-then-alpha_kept
returns-then-alpha_kept c = (c.kept_size.ensures.0 ∙ ap length (sym (cover-as-is _ _ _ (sym c.alpha_kept.ensures ∙ c.if-alpha_kept.true))), c.kept_size.ensures.1)

pub plane_size-requires : goal.plane_size-requires
plane_size-requires c = rw c.alpha_form.ensures (luma-sound _ c.requires)

pub returns-else-alpha_kept : goal.returns-else-alpha_kept
returns-else-alpha_kept c = (c.plane_size.ensures.0 ∙ ap (λ (n : Form). plane_size n Luma) c.alpha_form.ensures ∙ sym (length-cover _ _ _ (cover-depths _ _ c.requires c.args.self.picture.sound.form) (sym c.alpha_kept.ensures ∙ c.if-alpha_kept.false)), c.plane_size.ensures.1)
