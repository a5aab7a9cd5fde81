use Rattle.std.proofs.lemmas.Result.{err_from_is_err_and}
use Rattle.std.specs.Prelude.{Ok}
use mathlib.Core.Path.{◌∙◌, ◌≡◌, sym}
use native.Mathlib.Omega.{arith}
use lib.ListN.{length}
use Rattle.laws.proofs.Out.{then-done}
use Rattle.laws.specs.Puts.{Bytes}
use Rattle.scene_room.proofs.SceneLaws.{RecordKnown, first-output, first-spare, held-refused, ready-output, ready-spare, record-chain, record-form, record-read, record-refused, scene-output, scene-refused, scene-spare}
use Rattle.plans.specs.inner.ChainPlan.{current_of}
use Rattle.transforms.proofs.transforms.apply_transforms.Goals as goal
use Rattle.transforms.proofs.transforms.apply_transforms.Goals.{In_ok-held, In_ok-c, then-held, else-held}

ready : (c : In_ok-c) →
    RecordKnown c.args.record.now c.args.chain.now c.args.essential_only c.in_ok-c.c c.in_ok-frame.frame
unfolding Bytes
ready c =
    record-read _ _ _ _ (sym c.parse_record.ensures ∙ c.in_ok-frame.was) (λ i. omega (arith, c.type_inv.record i)) _ (sym c.check_chain.ensures ∙ c.in_ok-c.was)

led : (c : In_ok-held) →
    current_of (ready (goal.at.In_ok-held c).In_ok-c).judged.entries c.args.essential_only c.in_ok-frame.frame.form (length c.args.output.now) (length c.args.spare.now) ≡ Ok c.in_ok-held.held
led c =
    sym (then-done _ (ready (goal.at.In_ok-held c).In_ok-c).judged.read) ∙ sym c.plan_scene.ensures ∙ c.in_ok-held.was

pub plan_scene-requires : goal.plan_scene-requires
plan_scene-requires c = ((ready (goal.at.plan_scene-requires c).In_ok-c).judged, (ready (goal.at.plan_scene-requires c).In_ok-c).sound.form)

pub invariant_of-picture : goal.invariant_of-picture
invariant_of-picture c = record { sound = (ready (goal.at.invariant_of-picture c).In_ok-c).sound }

pub invariant_of-picture-else-held : goal.invariant_of-picture-else-held
invariant_of-picture-else-held c = record { sound = (ready (goal.at.invariant_of-picture-else-held c).In_ok-c).sound }

pub tighten-requires : goal.tighten-requires
tighten-requires c =
    (first-output _ _ (ready (goal.at.tighten-requires c).In_ok-c).judged _ _ (ready (goal.at.tighten-requires c).In_ok-c).in_range _ (record-form _ _) c.args.output.now c.args.spare.now _ (led (goal.at.tighten-requires c).In_ok-held))

pub finish_scene-requires : goal.finish_scene-requires
finish_scene-requires c =
    let k = ready (goal.at.finish_scene-requires c).In_ok-c in
    let f = record-form _ _ in
    let l = led (goal.at.finish_scene-requires c).In_ok-held in
    elim c.if-held.branch [
      | then-held w ↦ rw (w.output-is, w.spare-is) (ready-output _ _ k.judged _ _ k.in_range _ f _ _ _ l _ w.if-held.true w.tighten.ensures.1)
      | else-held w ↦ rw (w.output-is, w.spare-is) (ready-spare _ _ k.judged _ _ k.in_range _ f _ _ _ l _ w.if-held.false w.tighten-else-held.ensures.1)
    ]

pub tighten-requires-else-held : goal.tighten-requires-else-held
tighten-requires-else-held c =
    (first-spare _ _ (ready (goal.at.tighten-requires-else-held c).In_ok-c).judged _ _ (ready (goal.at.tighten-requires-else-held c).In_ok-c).in_range _ (record-form _ _) c.args.output.now c.args.spare.now _ (led (goal.at.tighten-requires-else-held c).In_ok-held))

pub returns-in_err-frame : goal.returns-in_err-frame
returns-in_err-frame c =
    let p = err_from_is_err_and c.from_residual.result c.from_residual.ensures.1 in
    rw (p.1, p.2) (scene-refused _ _ _ _ (record-refused _ _ _ _ (sym c.parse_record.ensures ∙ c.in_err-frame.was) _ _))

pub returns-in_err-c : goal.returns-in_err-c
returns-in_err-c c =
    let p = err_from_is_err_and c.from_residual-in_err-c.result c.from_residual-in_err-c.ensures.1 in
    rw (p.1, p.2) (scene-refused _ _ _ _ (record-chain _ _ _ _ (sym c.parse_record.ensures ∙ c.in_ok-frame.was) _ (sym c.check_chain.ensures ∙ c.in_err-c.was) _ _))

pub returns-in_err-held : goal.returns-in_err-held
returns-in_err-held c =
    let p = err_from_is_err_and c.from_residual-in_err-held.result c.from_residual-in_err-held.ensures.1 in
    rw (p.1, p.2) (scene-refused _ _ _ _ ((ready (goal.at.returns-in_err-held c).In_ok-c).is _ _ ∙ held-refused _ _ _ (ready (goal.at.returns-in_err-held c).In_ok-c).in_range _ (record-form _ _) _ _ _ (sym (then-done _ (ready (goal.at.returns-in_err-held c).In_ok-c).judged.read) ∙ sym c.plan_scene.ensures ∙ c.in_err-held.was)))

pub returns : goal.returns
returns c =
    let k = ready (goal.at.returns c).In_ok-c in
    let f = record-form _ _ in
    let l = led (goal.at.returns c).In_ok-held in
    elim c.if-held.branch [
      | then-held w ↦ scene-output _ _ k.judged _ _ k.in_range _ f _ _ _ l _ _ (k.is _ _) _ _ _ w.if-held.true w.tighten.ensures.1 (rw (w.output-is, w.spare-is) at c.finish_scene.ensures)
      | else-held w ↦ scene-spare _ _ k.judged _ _ k.in_range _ f _ _ _ l _ _ (k.is _ _) _ _ _ w.if-held.false w.tighten-else-held.ensures.1 (rw (w.output-is, w.spare-is) at c.finish_scene.ensures)
    ]
