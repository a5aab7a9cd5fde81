use Rattle.std.specs.Prelude.{Err}
use mathlib.Core.Path.{◌∙◌, ◌≡◌, ap, refl, sym}
use borrow.Author.Rules.{rules}
use Rattle.records.proofs.RecordLaws.{record-sound}
use Rattle.derived.proofs.Taken.{overlay-taken}
use Rattle.inputs.proofs.SummaryLaws.{plan-body, plan-list, plan-none, plan-noted, plan-record}
use Rattle.inputs.proofs.read.read_inputs.Goals as goal

pub returns-then-count-eq0 : goal.returns-then-count-eq0
returns-then-count-eq0 c =
    sym (plan-none _ _ _ _ _ (record { chroma = 0; depth = 0; alpha = 0 }) _ (sym c.parse.ensures ∙ c.in_ok-d.was) c.if-count-eq0.true)

pub returns-then-premultiplied-count : goal.returns-then-premultiplied-count
returns-then-premultiplied-count c =
    sym (plan-list _ _ _ _ _ (record { chroma = 0; depth = 0; alpha = 0 }) _ (sym c.parse.ensures ∙ c.in_ok-d.was) c.if-count-eq0.false c.if-premultiplied-count.true)

pub read_frames-requires : goal.read_frames-requires
read_frames-requires c =
    ((overlay-taken _ _ _ (sym c.parse.ensures ∙ c.in_ok-d.was)).0, (record-sound _ _ _ (sym c.read_record.ensures ∙ c.in-Ok.is)).form.high)

pub returns-in_err-d : goal.returns-in_err-d
returns-in_err-d c =
    let e : c.from_residual.result ≡ Err c.in_err-d.field-0.0 = search rules in
    e ∙ sym (plan-body _ _ _ _ _ _ (sym c.parse.ensures ∙ c.in_err-d.was))

pub returns-in-Err : goal.returns-in-Err
returns-in-Err c =
    ap (λ r. Err r) c.about.ensures
    ∙ sym (plan-record _ _ _ _ _ (record { chroma = 0; depth = 0; alpha = 0 }) _ (sym c.parse.ensures ∙ c.in_ok-d.was) c.if-count-eq0.false
    c.if-premultiplied-count.false _ (sym c.read_record.ensures ∙ c.in-Err.is))

pub returns-in-Ok : goal.returns-in-Ok
returns-in-Ok c =
    c.read_frames.ensures
    ∙ sym (plan-noted _ _ _ _ _ _ _ (sym c.parse.ensures ∙ c.in_ok-d.was) c.if-count-eq0.false c.if-premultiplied-count.false _
    (sym c.read_record.ensures ∙ c.in-Ok.is) refl)
