use Rattle.words.proofs.CanvasLaws.{kept-done, kept-refused}
use Rattle.words.proofs.canvas.keep.Goals as goal

pub returns-in-Err : goal.returns-in-Err
returns-in-Err c = kept-refused c.args.called _ _ _ c.in-Err.is c.refusal_code.ensures

pub returns-in-Ok : goal.returns-in-Ok
returns-in-Ok c =
    kept-done c.args.called _ _ _ c.in-Ok.is (rw c.put_canvas.ensures.0 c.requires)
    c.put_canvas.ensures.1
