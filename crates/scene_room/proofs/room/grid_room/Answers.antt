use Rattle.std.proofs.lemmas.Result.{err_from_is_err_and}
use mathlib.Core.Path.{◌∙◌, ap, sym}
use native.Mathlib.Omega.{arith}
use Rattle.laws.proofs.Out.{then-done}
use Rattle.laws.specs.Puts.{Bytes}
use Rattle.scene_room.proofs.SceneLaws.{GridKnown, grid-drawn-chain, grid-drawn-malformed, grid-drawn-tiles, grid-form, grid-read, room-on, room-refused-as}
use Rattle.scene_room.specs.Room.{longest_of}
use Rattle.scene_room.proofs.room.grid_room.Goals as goal
use Rattle.scene_room.proofs.room.grid_room.Goals.{In_ok-t}

ready : (c : In_ok-t) →
    GridKnown c.args.body.now c.args.tray.now c.args.chain.now c.args.essential_only c.in_ok-c.c c.in_ok-t.t
unfolding Bytes
ready c =
    grid-read _ _ _ _ _ _ (sym c.read_number.ensures ∙ c.in_ok-read_number.was) _ (sym c.check_chain.ensures ∙ c.in_ok-c.was) (λ i. omega (arith, c.type_inv.body i)) (λ i. omega (arith, c.type_inv.tray i)) _ (sym c.read_tiles.ensures ∙ c.in_ok-t.was)

pub returns-in_err-read_number : goal.returns-in_err-read_number
returns-in_err-read_number c =
    let p = err_from_is_err_and c.from_residual.result c.from_residual.ensures.1 in
    rw (p.1, p.2) (room-refused-as _ _ (grid-drawn-malformed _ _ _ _ _ (sym c.read_number.ensures ∙ c.in_err-read_number.was)))

pub chain_room-requires : goal.chain_room-requires
chain_room-requires c = ((ready (goal.at.chain_room-requires c).In_ok-t).judged, rw c.canvas_form-form.ensures (ready (goal.at.chain_room-requires c).In_ok-t).taken.canvas)

pub returns-in_err-c : goal.returns-in_err-c
returns-in_err-c c =
    let p = err_from_is_err_and c.from_residual-in_err-c.result c.from_residual-in_err-c.ensures.1 in
    rw (p.1, p.2) (room-refused-as _ _ (grid-drawn-chain _ _ _ _ _ _ (sym c.read_number.ensures ∙ c.in_ok-read_number.was) _ (sym c.check_chain.ensures ∙ c.in_err-c.was)))

pub returns-in_err-t : goal.returns-in_err-t
returns-in_err-t c =
    let p = err_from_is_err_and c.from_residual-in_err-t.result c.from_residual-in_err-t.ensures.1 in
    rw (p.1, p.2) (room-refused-as _ _ (grid-drawn-tiles _ _ _ _ _ _ (sym c.read_number.ensures ∙ c.in_ok-read_number.was) _ (sym c.check_chain.ensures ∙ c.in_ok-c.was) _ (sym c.read_tiles.ensures ∙ c.in_err-t.was)))

pub returns : goal.returns
returns c =
    c.chain_room.ensures ∙ then-done _ (ready (goal.at.returns c).In_ok-t).judged.read ∙ room-on _ _ _ (ready (goal.at.returns c).In_ok-t).in_range _ (grid-form _ _ _ c.canvas_form-form.ensures) ∙ ap longest_of (sym (ready (goal.at.returns c).In_ok-t).drawn)
