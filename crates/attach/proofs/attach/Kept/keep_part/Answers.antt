use mathlib.Core.Bool.{true}
use mathlib.Core.List.{List}
use mathlib.Core.Path.{◌∙◌, ◌≡◌, ap, sym}
use Prim.Native.Nat.{◌+◌, ℕ}
use lib.ListN.{length}
use Rattle.laws.proofs.Writing.{writing-none}
use Rattle.laws.specs.Puts.{puts}
use Rattle.image.specs.Format.{has_part}
use Rattle.attach.proofs.AttachLaws.{kept-fits, kept-none, kept-some}
use Rattle.attach.specs.Attach.{kept_part, kept_plane}
use Rattle.attach.proofs.attach.Kept.keep_part.Goals as goal
use Rattle.attach.proofs.attach.Kept.keep_part.Goals.{After-plane}

there : (c : After-plane) → has_part c.args.self.picture.frame.form.format c.args.part ≡ true
there c = sym c.has.ensures ∙ c.if-has.true

same : (c : After-plane)
    → kept_plane c.args.self.picture.record.now c.plane.result ≡ kept_part c.args.self.picture.record.now c.args.self.picture.frame c.args.part
same c = ap (kept_plane c.args.self.picture.record.now) c.plane.ensures ∙ sym (kept-some _ _ _ (there c))

pub keep_plane-requires : goal.keep_plane-requires
keep_plane-requires c = (rw c.plane.ensures (kept-fits _ _ _ c.args.self.picture.sound c.args.self.short (there c)), rw (same c) c.requires)

pub returns-then-has : goal.returns-then-has
returns-then-has c = (
  c.keep_plane.ensures.0 ∙ ap (λ (l : List ℕ). c.args.at + length l) (same (goal.at.returns-then-has c).After-plane),
  c.keep_plane.ensures.1 ∙ ap (puts c.args.out.now c.args.at) (same (goal.at.returns-then-has c).After-plane),
)

pub returns-else-has : goal.returns-else-has
returns-else-has c = writing-none c.args.out.now c.args.at _ (kept-none _ _ _ (sym c.has.ensures ∙ c.if-has.false))
