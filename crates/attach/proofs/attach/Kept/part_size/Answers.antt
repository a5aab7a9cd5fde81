use mathlib.Core.Bool.{true}
use mathlib.Core.Path.{◌∙◌, ◌≡◌, ap, sym}
use native.Mathlib.Omega.{arith}
use lib.ListN.{length}
use Rattle.image.specs.Format.{has_part}
use Rattle.attach.proofs.AttachLaws.{kept-none, kept-some}
use Rattle.attach.specs.Attach.{kept_plane}
use Rattle.attach.proofs.attach.Kept.part_size.Goals as goal
use Rattle.attach.proofs.attach.Kept.part_size.Goals.{After-plane}

there : (c : After-plane) → has_part c.args.self.picture.frame.form.format c.args.part ≡ true
there c = sym c.has.ensures ∙ c.if-has.true

pub returns-then-has : goal.returns-then-has
returns-then-has c = (c.kept_size.ensures.0 ∙ ap length (ap (kept_plane c.args.self.picture.record.now) c.plane.ensures ∙ sym (kept-some _ _ _ (there (goal.at.returns-then-has c).After-plane))), c.kept_size.ensures.1)

pub returns-else-has : goal.returns-else-has
returns-else-has c = (sym (ap length (kept-none _ _ _ (sym c.has.ensures ∙ c.if-has.false))), omega arith)
