use Rattle.laws.proofs.Out.{answers-as}
use Rattle.chains.proofs.ApplyLaws.{step-clap, step-imir, step-irot, step-iscl, step_other}
use Rattle.chains.proofs.apply.draw_step.Goals as goal

pub returns-in-Other : goal.returns-in-Other
returns-in-Other c = answers-as _ _ _ _ _ (step_other _ _ _ c.in-Other.is) c.hand_back.ensures

pub returns-in-Clap : goal.returns-in-Clap
returns-in-Clap c = answers-as _ _ _ _ _ (step-clap _ _ _ _ c.in-Clap.is) c.apply_clap.ensures

pub returns-in-Irot : goal.returns-in-Irot
returns-in-Irot c = answers-as _ _ _ _ _ (step-irot _ _ _ _ c.in-Irot.is) c.apply_irot.ensures

pub returns-in-Imir : goal.returns-in-Imir
returns-in-Imir c = answers-as _ _ _ _ _ (step-imir _ _ _ _ c.in-Imir.is) c.apply_imir.ensures

pub returns-in-Iscl : goal.returns-in-Iscl
returns-in-Iscl c = answers-as _ _ _ _ _ (step-iscl _ _ _ _ c.in-Iscl.is) c.apply_iscl.ensures
