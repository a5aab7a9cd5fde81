use mathlib.Core.Path.{◌∙◌, sym}
use native.Mathlib.Omega.{arith}
use lib.ListN.{length}
use Rattle.laws.specs.Puts.{Bytes}
use Rattle.planes.proofs.ByteLaws.{data-bytes}
use Rattle.paste.specs.inner.Source.{RowsFit}
use Rattle.opaque.proofs.SourceLaws.{rows-capped, rows_fit, rows-plain}
use Rattle.opaque.proofs.lay.lay_rows.Goals as goal
use Rattle.opaque.proofs.lay.lay_rows.Goals.{After-shared_slice_known-1, After-source_of-s}

small : (c : After-shared_slice_known-1) → Bytes c.args.tray.now
unfolding Bytes
small c i = omega (arith, c.type_inv.tray i)

fits : (c : After-source_of-s)
    → RowsFit (length c.args.out.now) (length c.plane_data-data.result.now) c.args.to.at c.args.to.stride
    c.args.to.across.count c.args.to.down.count c.source_of-s.result
fits c =
    rw (c.plane_data-data.ensures, c.plane.ensures, c.source_of-s.ensures) (rows_fit c.args.tray.now c.args.fr c.args.canvas c.requires.0.fit c.args.part c.requires.1 c.args.to _ c.requires.0.inside.sound c.requires.2)

pub plane_data-data-requires : goal.plane_data-data-requires
plane_data-data-requires c =
    rw c.plane.ensures (c.requires.0.inside.planes c.args.part)

pub top-requires : goal.top-requires
top-requires c =
    c.requires.0.canvas.high

pub store_capped-requires : goal.store_capped-requires
store_capped-requires c =
    fits (goal.at.store_capped-requires c).After-source_of-s

pub returns-then-may_exceed : goal.returns-then-may_exceed
returns-then-may_exceed c =
    c.store_capped.ensures ∙ rw (c.plane_data-data.ensures, c.plane.ensures, c.source_of-s.ensures, c.top.ensures) (rows-capped c.args.tray.now c.args.fr c.args.canvas c.requires.0.fit c.args.part c.requires.1 c.args.to _)

pub store_rows-requires : goal.store_rows-requires
store_rows-requires c =
    fits (goal.at.store_rows-requires c).After-source_of-s

pub returns-else-may_exceed : goal.returns-else-may_exceed
returns-else-may_exceed c =
    c.store_rows.ensures
    ∙ rw (c.plane_data-data.ensures, c.plane.ensures, c.source_of-s.ensures)
    (rows-plain c.args.tray.now c.args.fr c.args.canvas c.requires.0.fit c.args.part c.requires.1
    c.args.to (data-bytes _ _ (small (goal.at.returns-else-may_exceed c).After-shared_slice_known-1)) (sym c.may_exceed.ensures ∙ c.if-may_exceed.false) _)
