use Rattle.std.specs.Prelude.{Ok}
use mathlib.Core.Bool.{Bool}
use mathlib.Core.List.{List, ◌∷◌}
use mathlib.Core.Path.{◌∙◌, ◌≡◌, ap, ap₂, refl, sym}
use Prim.Native.Nat.{◌%◌, ◌*◌, ◌+◌, ◌-◌, ◌/◌, ◌<◌, ℕ}
use native.Mathlib.Omega.{arith}
use lib.ListN.{drop, get_or, length}
use Rattle.laws.proofs.Order.{mul-below}
use Rattle.laws.proofs.Puts.{length-puts}
use Rattle.laws.specs.Puts.{puts}
use Rattle.records.specs.Tray.{frames_at, no_frame, taken_of}
use Rattle.image.specs.declared.format.Form.{Form}
use Rattle.records.specs.declared.record.Frame.{Frame}
use Rattle.planes.specs.Bytes.{decode, encode, picture_in}
use Rattle.paste.proofs.HeadedLaws.{tight-form}
use Rattle.grid.proofs.Composed.{composed, drop_head, length-store_tiles, suits-at, tiles_more}
use Rattle.tiles.proofs.TilesLaws.{first-not-refused, first_read}
use Rattle.cells.specs.Cell.{store_tile, tile_pic}
use Rattle.grid.specs.Run.{frames_in}
use Rattle.tiles.specs.Tiles.{count_of}
use Rattle.grid.specs.inner.Stored.{store_tiles, under_at, under_pic}
use Rattle.tiles.specs.inner.Taken.{FramesTaken}
use Rattle.grid.proofs.compose.draw_grid.Goals as goal
use Rattle.grid.proofs.compose.draw_grid.Goals.{At-loop-i, In-Ok, In_default, In-loop-i, Start}

some : (c : In-loop-i)
    → 0 < c.args.t.desc.rows * c.args.t.desc.columns - c.loop-i.i
some c = omega (arith, c.loop-i-test.true)

-- the same tiles, in other words
stored-as : (tray : List ℕ) (frs : List Frame) (columns : ℕ) {n n' : ℕ} {m m' : Form} {b b' : Bool} {d d' : List ℕ} → n ≡ n' → m ≡ m' → b ≡ b' → d ≡ d'
    → store_tiles m (λ j. tile_pic b (picture_in tray frs j)) columns n d ≡ store_tiles m' (λ j. tile_pic b' (picture_in tray frs j)) columns n' d'
stored-as tray frs columns en em eb ed = rw (en, em, eb, ed) refl

-- the records were taken: none is refused
dead : {X : Type 0} (c : In_default) → X
unfolding FramesTaken
dead c = first-not-refused _ _ _ _ (some (goal.at.In_default c).In-loop-i) (_, c.loop-i.invariant.0) (sym c.read_record.ensures ∙ c.in_default.is)

-- the output keeps its length
long : (c : At-loop-i)
    → length c.loop-i.out ≡ length c.args.out.now
long c = ap length c.loop-i.invariant.1 ∙ length-store_tiles _ _ _ _ _ ∙ ap length c.outline_canvas.ensures.1 ∙ length-puts _ _ _

-- the frames of the tray
abbrev frames : Start → List Frame
frames start = taken_of (frames_at (start.args.t.desc.rows * start.args.t.desc.columns) start.args.tray.now start.args.t.first)

-- the record that was read
module _ (c : In-Ok) where
  step : (rest : List Frame)
      × (frames_at (c.args.t.desc.rows * c.args.t.desc.columns - c.loop-i.i - 1) c.args.tray.now c.in-Ok.f.end
      ≡ Ok rest)
      × (drop c.loop-i.i (frames (goal.at.In-Ok c).Start) ≡ c.in-Ok.f ∷ rest)
  step = first_read _ _ _ _ _ (some (goal.at.In-Ok c).In-loop-i) c.loop-i.invariant.0 (sym c.read_record.ensures ∙ c.in-Ok.is)

  frame_here : (get_or (frames (goal.at.In-Ok c).Start) c.loop-i.i no_frame ≡ c.in-Ok.f) × (drop (c.loop-i.i + 1) (frames (goal.at.In-Ok c).Start) ≡ step.0)
  frame_here =
      drop_head (frames (goal.at.In-Ok c).Start) c.loop-i.i _ _ step.2

pub overflow_mul-count : goal.overflow_mul-count
overflow_mul-count c =
    omega (arith, mul-below 256 256 c.args.t.desc.rows c.args.t.desc.columns c.requires.0.rows.1 c.requires.0.columns.1)

pub tight-to-requires : goal.tight-to-requires
tight-to-requires c =
    rw c.canvas_form-canvas.ensures c.requires.0.canvas

pub outline_canvas-requires : goal.outline_canvas-requires
outline_canvas-requires c =
    (rw c.canvas_form-canvas.ensures c.requires.0.canvas, rw c.canvas_form-canvas.ensures c.requires.1)

pub loop-i-init : goal.loop-i-init
unfolding frames_in count_of store_tiles
loop-i-init c =
    (ap (λ (k : ℕ). frames_at k c.args.tray.now c.args.t.first) (omega arith) ∙ c.requires.0.taken, refl)

pub returns-in_default : goal.returns-in_default
returns-in_default c = dead c

pub nonzero_rem-i : goal.nonzero_rem-i
nonzero_rem-i c =
    omega (arith, c.requires.0.columns.0)

pub nonzero_div-i : goal.nonzero_div-i
nonzero_div-i c =
    omega (arith, c.requires.0.columns.0)

pub draw_tile-requires : goal.draw_tile-requires
unfolding frames_in count_of
draw_tile-requires c =
    let to = tight-form _ _ c.tight-to.ensures in (
      to.1,
      suits-at c.args.tray.now c.args.t c.requires.0 c.loop-i.i _ _ _ _ c.loop-i-test.true (frame_here (goal.at.draw_tile-requires c).In-Ok).0
          (to.0 ∙ c.canvas_form-canvas.ensures) c.promotes-promoted.ensures (omega (arith, long (goal.at.draw_tile-requires c).At-loop-i, c.requires.1)),
    )

pub loop-i-preserved : goal.loop-i-preserved
unfolding picture_in
loop-i-preserved c =
    let s = step (goal.at.loop-i-preserved c).In-Ok in
    let q = frame_here (goal.at.loop-i-preserved c).In-Ok in
    let e : c.args.t.desc.rows * c.args.t.desc.columns - (c.loop-i.i + 1)
    ≡ c.args.t.desc.rows * c.args.t.desc.columns - c.loop-i.i - 1 = omega arith in (
      ap (λ (k : ℕ). frames_at k c.args.tray.now c.in-Ok.f.end) e ∙ s.1 ∙ ap Ok (sym q.1),
      c.draw_tile.ensures
          ∙ ap₂ (λ (f : Frame) (d : List ℕ). store_tile c.tight-to.result.form (tile_pic c.promotes-promoted.result (decode c.args.tray.now f))
          (c.loop-i.i % c.args.t.desc.columns) (c.loop-i.i / c.args.t.desc.columns) d)
          (sym q.0) c.loop-i.invariant.1
          ∙ tiles_more c.tight-to.result.form (λ j. tile_pic c.promotes-promoted.result (picture_in c.args.tray.now (frames (goal.at.loop-i-preserved c).Start) j))
          c.args.t.desc.columns c.loop-i.i _,
    )

pub returns : goal.returns
unfolding frames_in count_of under_pic under_at
returns c =
    let n = c.args.t.desc.rows * c.args.t.desc.columns in
    let e : c.loop-i.i ≡ n = omega arith in
    c.loop-i.invariant.1
    ∙ stored-as c.args.tray.now (frames (goal.at.returns c).Start) c.args.t.desc.columns e ((tight-form _ _ c.tight-to.ensures).0 ∙ c.canvas_form-canvas.ensures) c.promotes-promoted.ensures
    (c.outline_canvas.ensures.1 ∙ ap (λ (m : Form). puts c.args.out.now 0 (encode (under_pic m c.outline_canvas.ensures.0))) c.canvas_form-canvas.ensures)
    ∙ composed c.args.tray.now c.args.t c.requires.0 (under_pic _ c.outline_canvas.ensures.0) refl (λ x y. refl) c.args.out.now c.requires.1
