use mathlib.Core.Path.{◌∙◌, ◌≡◌, ap, refl, sym}
use native.Mathlib.Nat.{sub-zero}
use native.Mathlib.Omega.{arith}
use lib.ListN.{length}
use Rattle.image.specs.declared.format.Form.{Form}
use Rattle.records.specs.inner.Frames.{frames_from}
use Rattle.planes.specs.Bytes.{tight_at}
use Rattle.paste.proofs.HeadedLaws.{tight-form}
use Rattle.inputs.proofs.FrameLaws.{record-inside}
use Rattle.opaque.proofs.FrameLaws.{fit_next, laid_next, laid_none, laid-refused, length-lay_input}
use Rattle.opaque.specs.inner.Laid.{lay_frames}
use Rattle.opaque.proofs.lay.lay_inputs.Goals as goal
use Rattle.opaque.proofs.lay.lay_inputs.Goals.{After-tight-to}

form : (c : After-tight-to) → (c.tight-to.result.form ≡ c.args.canvas) × (c.tight-to.result ≡ tight_at c.tight-to.result.form 0)
form c =
    tight-form c.args.canvas _ c.tight-to.ensures

pub tight-to-requires : goal.tight-to-requires
tight-to-requires c =
    c.requires.1

pub loop-i-init : goal.loop-i-init
loop-i-init c =
    (refl, rw ((form c).0, sub-zero c.args.d.count) c.requires.3, rw (sub-zero c.args.d.count) refl)

pub returns-in-Err : goal.returns-in-Err
returns-in-Err c =
    sym (ap (λ (m : Form). lay_frames m c.args.body.now c.args.tray.now c.args.d 0
    (frames_from c.args.d.count c.args.tray.now c.args.first) c.args.out.now)
    (sym (form (goal.at.returns-in-Err c).After-tight-to).0)
    ∙ c.loop-i.invariant.2
    ∙ laid-refused _ _ _ _ _ _ _ _ _ (sym c.read_record.ensures ∙ c.in-Err.is))

pub offset-requires : goal.offset-requires
offset-requires c =
    (c.requires.0, c.loop-i-test.true)

pub lay_input-requires : goal.lay_input-requires
lay_input-requires c =
    let term = sym c.read_record.ensures ∙ c.in-Ok.is in (
      (form (goal.at.lay_input-requires c).After-tight-to).1,
      record {
        inside = record-inside _ _ _ term;
        canvas = rw (form (goal.at.lay_input-requires c).After-tight-to).0 c.requires.1;
        fit = (fit_next _ _ _ _ _ c.loop-i-test.true term _ c.loop-i.invariant.1).0;
        room = rw (form (goal.at.lay_input-requires c).After-tight-to).0 (omega (arith, c.requires.2, c.loop-i.invariant.0));
      },
    )

pub loop-i-preserved : goal.loop-i-preserved
loop-i-preserved c = (
  ap length c.lay_input.ensures ∙ length-lay_input _ _ _ _ ∙ c.loop-i.invariant.0,
  (fit_next _ _ _ _ _ c.loop-i-test.true (sym c.read_record.ensures ∙ c.in-Ok.is) _ c.loop-i.invariant.1).1,
  c.loop-i.invariant.2
      ∙ laid_next _ _ _ _ _ c.loop-i-test.true (sym c.read_record.ensures ∙ c.in-Ok.is) _ _ _ _ _ _
      c.offset.ensures c.lay_input.ensures,
)

pub returns : goal.returns
returns c =
    sym (ap (λ (m : Form). lay_frames m c.args.body.now c.args.tray.now c.args.d 0
    (frames_from c.args.d.count c.args.tray.now c.args.first) c.args.out.now)
    (sym (form (goal.at.returns c).After-tight-to).0)
    ∙ c.loop-i.invariant.2
    ∙ laid_none _ _ _ _ _ _ _ _ (omega (arith, c.loop-i-test.false)))
