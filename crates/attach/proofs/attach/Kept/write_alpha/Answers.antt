use mathlib.Core.List.{List}
use mathlib.Core.Path.{◌∙◌, ◌≡◌, ap, sym}
use Prim.Native.Nat.{◌+◌, ◌≤◌, ℕ}
use lib.ListN.{length}
use Rattle.laws.specs.Puts.{puts}
use Rattle.planes.specs.Bytes.{decode, plane_bytes}
use Rattle.image.specs.declared.format.Form.{Form}
use Rattle.image.specs.declared.format.Part.TheVariants.{Luma}
use Rattle.attach.proofs.AttachLaws.{cover-as-is, cover-depths, cover-drawn, cover-fits, cover_rule, luma-fits}
use Rattle.attach.specs.Attach.{alpha_bytes}
use Rattle.sampling.specs.inner.Depths.{DepthsFit}
use Rattle.sampling.specs.inner.Redraw.{redrawn}
use Rattle.attach.proofs.attach.Kept.write_alpha.Goals as goal
use Rattle.attach.proofs.attach.Kept.write_alpha.Goals.{After-alpha_form}

same : (c : After-alpha_form) (fit : DepthsFit c.args.self.picture.frame.form.format.depth c.args.m.format.depth)
    → plane_bytes
    (redrawn c.alpha_form.result (cover_rule c.args.m c.args.self.picture.frame.form fit) (decode c.args.self.picture.record.now c.args.self.picture.frame)) Luma
    ≡ alpha_bytes c.args.m c.args.self.picture.record.now c.args.self.picture.frame
same c fit =
    ap
    (λ (n : Form). plane_bytes (redrawn n (cover_rule c.args.m c.args.self.picture.frame.form fit) (decode c.args.self.picture.record.now c.args.self.picture.frame)) Luma)
    c.alpha_form.ensures
    ∙ sym (cover-drawn _ _ _ fit (sym c.alpha_kept.ensures ∙ c.if-alpha_kept.false))

room : (c : After-alpha_form) (fit : DepthsFit c.args.self.picture.frame.form.format.depth c.args.m.format.depth)
    → c.args.at + length (plane_bytes
    (redrawn c.alpha_form.result (cover_rule c.args.m c.args.self.picture.frame.form fit) (decode c.args.self.picture.record.now c.args.self.picture.frame)) Luma)
    ≤ length c.args.out.now
room c fit = rw (sym (same c fit)) at c.requires.1

pub keep_plane-requires : goal.keep_plane-requires
keep_plane-requires c = (
  luma-fits _ _ c.args.self.picture.sound c.args.self.short,
  rw (cover-as-is c.args.m c.args.self.picture.record.now c.args.self.picture.frame
      (sym c.alpha_kept.ensures ∙ c.if-alpha_kept.true))
      at c.requires.1,
)

pub returns-then-alpha_kept : goal.returns-then-alpha_kept
returns-then-alpha_kept c =
    let e = sym (cover-as-is c.args.m c.args.self.picture.record.now c.args.self.picture.frame (sym c.alpha_kept.ensures ∙ c.if-alpha_kept.true)) in (
      c.keep_plane.ensures.0 ∙ ap (λ (l : List ℕ). c.args.at + length l) e,
      c.keep_plane.ensures.1 ∙ ap (puts c.args.out.now c.args.at) e,
    )

pub invariant_of-rule : goal.invariant_of-rule
invariant_of-rule c = record { fit = cover-depths _ _ c.requires.0 c.args.self.picture.sound.form }

pub write_plane-requires : goal.write_plane-requires
write_plane-requires c = (
  rw c.alpha_form.ensures (cover-fits _ _ _ _ c.requires.0 c.args.self.picture.sound),
  room c _,
)

pub returns : goal.returns
returns c = (
  c.write_plane.ensures.0 ∙ ap (λ (l : List ℕ). c.args.at + length l) (same (goal.at.returns c).After-alpha_form _),
  c.write_plane.ensures.1 ∙ ap (puts c.args.out.now c.args.at) (same (goal.at.returns c).After-alpha_form _),
)
