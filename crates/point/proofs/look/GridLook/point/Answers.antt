use mathlib.Core.Path.{◌∙◌, ap, sym}
use Rattle.std.proofs.lemmas.Result.{err_from_is_err_and}
use Rattle.sight.specs.Sight.{place_out}
use Rattle.point.proofs.PointLaws.{held-tiled, point-done, point-refused}
use Rattle.point.specs.inner.Look.{grid_looked}
use Rattle.point.proofs.look.GridLook.point.Goals as goal

pub returns-in_err-l : goal.returns-in_err-l
returns-in_err-l c =
    let p = err_from_is_err_and c.from_residual.result c.from_residual.ensures.1 in
    rw (p.1, p.2) (point-refused (grid_looked c.args.self) _ _ c.requires.bounded _ (sym c.place.ensures ∙ ap place_out c.in_err-l.was))

pub name_tile-named-requires : goal.name_tile-named-requires
name_tile-named-requires c = held-tiled c.args.self _ _ _ c.requires (sym c.place.ensures ∙ ap place_out c.in_ok-l.was)

pub returns : goal.returns
returns c =
    point-done (grid_looked c.args.self) _ _ c.requires.bounded _ _ (sym c.place.ensures ∙ ap place_out c.in_ok-l.was)
    c.name_tile-named.ensures
