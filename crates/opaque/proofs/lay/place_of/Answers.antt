use mathlib.Core.Bool.{Bool}
use mathlib.Core.Path.{◌∙◌, ◌≡◌, ap, ap₂}
use Prim.Native.Nat.{◌*◌, ◌^◌, ◌≤◌, ℕ}
use native.Mathlib.Omega.{arith}
use Rattle.image.proofs.FormLaws.{columns-le, height-le, rows-le, width-le}
use Rattle.image.specs.Format.{columns_of, rows_of}
use Rattle.records.specs.Record.{plane_of}
use Rattle.records.specs.declared.record.Frame.{Frame}
use Rattle.records.specs.declared.record.Plane.{Plane}
use Rattle.planes.specs.Bytes.{tight_at}
use Rattle.paste.proofs.HeadedLaws.{part_end}
use Rattle.opaque.proofs.PlaceLaws.{above-small, before_small, place-worked}
use Rattle.opaque.specs.inner.Laid.{across_of, down_of}
use Rattle.opaque.specs.inner.Window.{window_of}
use Rattle.opaque.proofs.lay.place_of.Goals as goal
use Rattle.opaque.proofs.lay.place_of.Goals.{After-bytes_per_sample, After-columns, After-plane-plane, After-rows, After-window_of-across, After-window_of-down}

columns-is : (c : After-columns) → c.columns.result ≡ columns_of c.args.to.form c.args.part
unfolding columns_of
columns-is c = c.columns.ensures

rows_is : (c : After-rows) → c.rows.result ≡ rows_of c.args.to.form c.args.part
unfolding rows_of
rows_is c = c.rows.ensures

across-is : (c : After-window_of-across) → c.window_of-across.result ≡ across_of c.args.to.form c.args.m c.args.o c.args.part
unfolding across_of
across-is c =
    c.window_of-across.ensures ∙ ap₂ (λ (h : Bool) (n : ℕ). window_of h c.args.o.horizontal c.args.m.width n) c.half_width.ensures (columns-is (goal.at.After-window_of-across c).After-columns)

down_is : (c : After-window_of-down) → c.window_of-down.result ≡ down_of c.args.to.form c.args.m c.args.o c.args.part
unfolding down_of
down_is c =
    c.window_of-down.ensures ∙ ap₂ (λ (h : Bool) (n : ℕ). window_of h c.args.o.vertical c.args.m.height n) c.half_height.ensures (rows_is (goal.at.After-window_of-down c).After-rows)

plane-is : (c : After-plane-plane) → c.plane-plane.result ≡ plane_of (tight_at c.args.to.form 0) c.args.part
plane-is c =
    c.plane-plane.ensures ∙ ap (λ (f : Frame). plane_of f c.args.part) c.requires.0

above : (c : After-plane-plane) → c.window_of-down.result.at * c.plane-plane.result.stride ≤ 2 ^ 31
above c =
    above-small _ c.args.m c.requires.1 c.args.o c.args.part c.requires.2 _ _ (down_is (goal.at.After-plane-plane c).After-window_of-down) (ap (λ (q : Plane). q.stride) (plane-is c))

left : (c : After-bytes_per_sample) → c.window_of-across.result.at * c.bytes_per_sample.result ≤ 2 ^ 31
left c =
    before_small _ c.args.m c.requires.1 c.args.o c.args.part c.requires.2 _ _ (across-is (goal.at.After-bytes_per_sample c).After-window_of-across) c.bytes_per_sample.ensures

pub window_of-across-requires : goal.window_of-across-requires
window_of-across-requires c =
    omega (arith, columns-is c, columns-le _ c.requires.1 c.args.part, width-le _ c.requires.1)

pub window_of-down-requires : goal.window_of-down-requires
window_of-down-requires c =
    omega (arith, rows_is c, rows-le _ c.requires.1 c.args.part, height-le _ c.requires.1)

pub returns : goal.returns
returns c =
    place-worked _ c.args.m c.requires.1 c.args.o c.args.part c.requires.2 _ _ _ _ _ (across-is (goal.at.returns c).After-window_of-across)
    (down_is (goal.at.returns c).After-window_of-down) (ap (λ (q : Plane). q.start) (plane-is (goal.at.returns c).After-plane-plane)) (ap (λ (q : Plane). q.stride) (plane-is (goal.at.returns c).After-plane-plane))
    c.bytes_per_sample.ensures

pub overflow_mul-result : goal.overflow_mul-result
overflow_mul-result c = omega (arith, above (goal.at.overflow_mul-result c).After-plane-plane)

pub overflow_mul-result-2 : goal.overflow_mul-result-2
overflow_mul-result-2 c = omega (arith, left (goal.at.overflow_mul-result-2 c).After-bytes_per_sample)

pub overflow_add-result : goal.overflow_add-result
overflow_add-result c =
    omega (arith, above (goal.at.overflow_add-result c).After-plane-plane, left (goal.at.overflow_add-result c).After-bytes_per_sample)

pub overflow_add-result-2 : goal.overflow_add-result-2
overflow_add-result-2 c =
    omega (arith, above (goal.at.overflow_add-result-2 c).After-plane-plane, left (goal.at.overflow_add-result-2 c).After-bytes_per_sample, ap (λ (q : Plane). q.start) (plane-is (goal.at.overflow_add-result-2 c).After-plane-plane), part_end c.args.to.form c.args.part c.requires.2, c.requires.3)
