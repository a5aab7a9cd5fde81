use Rattle.std.specs.Prelude.{Err}
use Rattle.std.proofs.lemmas.Result.{err_from_is_err_and}
use mathlib.Core.Path.{◌∙◌, ap, sym}
use Prim.Native.Nat.{◌+◌, ◌-◌, ℕ}
use native.Mathlib.Omega.{arith}
use Rattle.laws.specs.Out.{Out, after, and_then}
use Rattle.laws.proofs.Out.{after_none, then-refused}
use Rattle.records.specs.Tray.{frames_at}
use Rattle.records.proofs.TrayLaws.{frames-refused-on}
use Rattle.tiles.proofs.TilesLaws.{judge-fault, judge-next, judge-start, judge-taken, judged, reading-out, reading-over, reading-refused}
use Rattle.tiles.proofs.judge.judge_tiles.Goals as goal

pub loop-i-init : goal.loop-i-init
loop-i-init c =
    judge-start _ _ _ _ _ c.requires (sym c.read_record.ensures ∙ c.in-Ok.is)
    ∙ ap (λ (k : Out ℕ). and_then (after 0 (frames_at (c.args.count - 0) c.args.tray.now c.args.at))
    (judged c.args.g c.args.at c.in-Ok.first.form k 0))
    (sym c.begin-held.ensures)

pub returns-in-Err : goal.returns-in-Err
returns-in-Err c =
    ap (λ r. Err r) c.about.ensures
    ∙ sym (then-refused _
    (sym (after_none _) ∙ frames-refused-on 0 _ _ _ _ c.requires (sym c.read_record.ensures ∙ c.in-Err.is)))

pub returns-in-Err-read_record : goal.returns-in-Err-read_record
returns-in-Err-read_record c =
    ap (λ r. Err r) c.about-in-Err-read_record.ensures
    ∙ sym (c.loop-i.invariant
    ∙ reading-refused _ _ _ _ _ _ (omega (arith, c.loop-i-test.true)) (sym c.read_record-in-loop-i.ensures ∙ c.in-Err-read_record.is))

pub loop-i-preserved : goal.loop-i-preserved
loop-i-preserved c =
    c.loop-i.invariant
    ∙ judge-next _ _ _ _ _ _ _ _ _ c.loop-i-test.true (sym c.read_record-in-loop-i.ensures ∙ c.in-Ok-read_record.is)
    ∙ ap (λ (h : Out ℕ). and_then
    (after (c.loop-i.i + 1) (frames_at (c.args.count - (c.loop-i.i + 1)) c.args.tray.now c.in-Ok-read_record.f.end))
    (judged c.args.g c.args.at c.in-Ok.first.form h (c.loop-i.i + 1)))
    (sym c.hold-held.ensures)

pub returns-then-next-tray : goal.returns-then-next-tray
returns-then-next-tray c = sym (c.loop-i.invariant ∙ reading-over _ _ _ _ _ (omega (arith, c.loop-i-test.false)) c.if-next-tray.true)

pub returns-in_err-alpha : goal.returns-in_err-alpha
returns-in_err-alpha c =
    let p = err_from_is_err_and c.from_residual.result c.from_residual.ensures.1 in
    rw (p.1, p.2) (sym (c.loop-i.invariant ∙ reading-out _ _ _ _ _ (omega (arith, c.loop-i-test.false)) c.if-next-tray.false ∙ judge-fault _ _ _ _ _ _ c.in_err-alpha.was))

pub returns : goal.returns
returns c =
    sym (c.loop-i.invariant ∙ reading-out _ _ _ _ _ (omega (arith, c.loop-i-test.false)) c.if-next-tray.false ∙ judge-taken _ _ _ _ _ _ c.in_ok-alpha.was)
