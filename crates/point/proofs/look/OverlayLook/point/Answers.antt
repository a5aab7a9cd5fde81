use mathlib.Core.Path.{◌∙◌, ap, sym}
use Rattle.std.proofs.lemmas.Result.{err_from_is_err_and}
use Rattle.sight.specs.Sight.{place_out}
use Rattle.point.proofs.PointLaws.{point-done, point-refused}
use Rattle.point.specs.inner.Look.{overlay_looked}
use Rattle.point.specs.Point.{overlay_names}
use Rattle.point.proofs.look.OverlayLook.point.Goals as goal

pub returns-in_err-l : goal.returns-in_err-l
returns-in_err-l c =
    let p = err_from_is_err_and c.from_residual.result c.from_residual.ensures.1 in
    rw (p.1, p.2) (point-refused (overlay_looked _ _ c.args.self) _ _ c.requires.1 _ (sym c.place.ensures ∙ ap place_out c.in_err-l.was))

pub returns : goal.returns
unfolding overlay_names
returns c =
    point-done (overlay_looked _ _ c.args.self) _ _ c.requires.1 _ _ (sym c.place.ensures ∙ ap place_out c.in_ok-l.was)
    c.name_topmost-named.ensures
