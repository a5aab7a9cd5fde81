use mathlib.Core.Path.{◌∙◌, ◌≡◌, sym}
use native.Mathlib.Omega.{arith}
use borrow.Author.Rules.{rules}
use Rattle.laws.proofs.Out.{done-same}
use Rattle.image.specs.Format.{top_of}
use Rattle.fill.specs.Fill.{nclx_of, part_of, ycbcr_of}
use Rattle.overlay.proofs.FlatLaws.{drawn-answer, drawn-low, drawn-size, fill-taken}
use Rattle.overlay.proofs.Sentences.{fill-low}
use Rattle.overlay.specs.Run.{fill_for}
use Rattle.overlay.specs.inner.Block.{layers_at}
use Rattle.overlay.proofs.draw.draw_overlay.Goals as goal
use Rattle.overlay.proofs.draw.draw_overlay.Goals.{After-unwrap-samples}

filled : (c : After-unwrap-samples)
    → c.unwrap-samples.result
    ≡ ycbcr_of (part_of c.args.plan.descriptor.canvas_fill.red) (part_of c.args.plan.descriptor.canvas_fill.green)
    (part_of c.args.plan.descriptor.canvas_fill.blue) c.args.plan.form.format.depth (nclx_of c.args.colour)
filled c =
    done-same _ _ (sym c.unwrap-samples.ensures ∙ c.fill_to_ycbcr.ensures ∙ fill-taken c.args.plan.descriptor.canvas_fill c.args.plan.form.format.depth c.args.colour c.requires.0.form.low c.requires.0.form.high)

pub unwrap-samples-requires : goal.unwrap-samples-requires
unwrap-samples-requires c =
    rw (c.fill_to_ycbcr.ensures ∙ fill-taken c.args.plan.descriptor.canvas_fill c.args.plan.form.format.depth c.args.colour c.requires.0.form.low c.requires.0.form.high) (search rules)

pub fill_alpha-requires : goal.fill_alpha-requires
fill_alpha-requires c =
    c.requires.0.form.high

pub top-requires : goal.top-requires
top-requires c =
    c.requires.0.form.high

pub write_overlay-requires : goal.write_overlay-requires
unfolding fill_for top_of
write_overlay-requires c = (
  record {
    plan = c.requires.0;
    whole = c.requires.0.whole c.if-plan.true;
    top = c.top.ensures;
    low = λ p. rw c.top.ensures (drawn-low _ _ _ _ _ (filled (goal.at.write_overlay-requires c).After-unwrap-samples) c.fill_alpha.ensures
        (fill-low c.args.plan.descriptor.canvas_fill c.args.plan.form.format.depth c.args.colour
        (omega (arith, c.well_formed)) c.requires.0.form.low c.requires.0.form.high) p);
  },
  omega (
    arith,
    c.requires.1,
    drawn-size c.args.plan.form
        (fill_for c.args.plan.descriptor.canvas_fill c.args.plan.form.format.depth c.args.colour)
        (layers_at c.args.body.now c.args.tray.now c.args.premultiplied.now c.args.plan),
  ),
)

pub returns-then-plan : goal.returns-then-plan
unfolding fill_for
returns-then-plan c =
    drawn-answer c.args.plan.form _ _ _ _ (layers_at c.args.body.now c.args.tray.now c.args.premultiplied.now c.args.plan) _ _ _ (filled (goal.at.returns-then-plan c).After-unwrap-samples) c.fill_alpha.ensures (
      c.write_overlay.ensures.0 ∙ sym (drawn-size c.args.plan.form _ (layers_at c.args.body.now c.args.tray.now c.args.premultiplied.now c.args.plan)),
      c.write_overlay.ensures.1,
    )

pub write_opaque-requires : goal.write_opaque-requires
unfolding fill_for top_of
write_opaque-requires c = (
  c.requires.0.form,
  c.requires.0.offsets,
  drawn-low _ _ _ _ _ (filled (goal.at.write_opaque-requires c).After-unwrap-samples) c.fill_alpha.ensures
      (fill-low c.args.plan.descriptor.canvas_fill c.args.plan.form.format.depth c.args.colour
      (omega (arith, c.well_formed)) c.requires.0.form.low c.requires.0.form.high),
  c.requires.0.fit c.if-plan.false,
  omega (
    arith,
    c.requires.1,
    drawn-size c.args.plan.form
        (fill_for c.args.plan.descriptor.canvas_fill c.args.plan.form.format.depth c.args.colour)
        (layers_at c.args.body.now c.args.tray.now c.args.premultiplied.now c.args.plan),
  ),
)

pub returns-else-plan : goal.returns-else-plan
unfolding fill_for
returns-else-plan c =
    let layers = layers_at c.args.body.now c.args.tray.now c.args.premultiplied.now c.args.plan in
    drawn-answer c.args.plan.form _ _ _ _ layers _ _ _ (filled (goal.at.returns-else-plan c).After-unwrap-samples) c.fill_alpha.ensures (
      c.write_opaque.ensures.0 ∙ sym (drawn-size c.args.plan.form _ layers),
      c.write_opaque.ensures.1 c.args.premultiplied.now,
    )
