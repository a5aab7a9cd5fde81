use mathlib.Core.Path.{◌∙◌, ap, refl, sym}
use Prim.Native.Nat.{◌+◌, ◌<◌, ◌≤◌, ℕ}
use native.Mathlib.Nat.{lt_of_lt_of_le, sub-zero}
use native.Mathlib.Omega.{arith}
use borrow.Author.Count.{below_more, below_none}
use Rattle.laws.specs.Puts.{Bytes}
use Rattle.records.specs.inner.Frames.{frames_from}
use Rattle.planes.proofs.ByteLaws.{data-bytes}
use Rattle.planes.specs.Bytes.{sample_in}
use Rattle.inputs.proofs.BlendLaws.{less_one}
use Rattle.inputs.proofs.FrameLaws.{searched-all, searched-few, seen-clear, seen-found, seen-inside, seen-shown, some-none}
use Rattle.inputs.specs.Inputs.{alpha_above}
use Rattle.inputs.specs.inner.Sought.{found_at}
use Rattle.inputs.proofs.alpha_check.alpha_above.Goals as goal
use Rattle.inputs.proofs.alpha_check.alpha_above.Goals.{After-loop-y, In-loop-y}

-- a row that is searched is one of the plane's
in_rows : (c : In-loop-y) → c.loop-y.y < c.alpha_at-q.result.rows
in_rows c =
    omega (arith, c.loop-y-test.true, c.searched_rows-y-end.ensures, searched-few c.alpha_at-q.result.rows c.alpha_at-q.result.bytes c.args.top)

pub search-init : goal.search-init
search-init c = (refl, rw (sub-zero c.args.count) refl)

pub plane_data-plane-requires : goal.plane_data-plane-requires
plane_data-plane-requires c =
    seen-inside c.args.tray.now c.search.at c.args.top c.alpha_at-q.result _
    c.alpha_at-q.ensures refl

pub loop-y-init : goal.loop-y-init
loop-y-init c = (c.search.invariant.0, below_none _)

pub loop-x-init : goal.loop-x-init
loop-x-init c = (c.loop-y.invariant.0, below_none _)

pub sample-requires : goal.sample-requires
sample-requires c =
    seen-shown c.args.tray.now c.search.at c.args.top c.alpha_at-q.result _ c.alpha_at-q.ensures c.plane_data-plane.ensures
    c.loop-x.x c.loop-y.y c.loop-x-test.true (in_rows (goal.at.sample-requires c).In-loop-y)

pub loop-x-preserved : goal.loop-x-preserved
loop-x-preserved c = (c.loop-x.invariant.0, below_more _ _ c.loop-x.invariant.1 (rw c.sample.ensures at c.if-sample-top.false))

pub loop-y-preserved : goal.loop-y-preserved
loop-y-preserved c = (c.loop-x.invariant.0, below_more _ _ c.loop-y.invariant.1 (λ x h. c.loop-x.invariant.1 x (lt_of_lt_of_le h c.loop-x-test.false)))

-- no row of the plane has a sample above top
cleared : (c : After-loop-y)
    → (y : ℕ) → y < c.alpha_at-q.result.rows → (x : ℕ) → x < c.alpha_at-q.result.columns → sample_in c.plane_data-plane.result.now c.alpha_at-q.result.bytes c.alpha_at-q.result.plane.stride x y ≤ c.args.top
unfolding Bytes
cleared c y g x h =
    let few = seen-shown c.args.tray.now c.search.at c.args.top c.alpha_at-q.result _ c.alpha_at-q.ensures c.plane_data-plane.ensures x y h g in
    searched-all _ c.alpha_at-q.result.rows _ c.args.top _ x y (rw c.plane_data-plane.ensures (data-bytes _ _ (λ i. omega (arith, c.type_inv.tray i)))) few.0 few.1 g
    (λ k. c.loop-y.invariant.1 y (omega (arith, k, c.searched_rows-y-end.ensures, c.loop-y-test.false)) x h)

pub search-preserved : goal.search-preserved
search-preserved c = (
  c.loop-y.invariant.0,
  c.search.invariant.1
      ∙ seen-clear c.args.tray.now c.search.at c.args.top c.alpha_at-q.result _ c.alpha_at-q.ensures
      c.plane_data-plane.ensures _ _ _ (omega (arith, c.search-test.true)) (cleared c)
      ∙ ap (λ (k : ℕ). found_at (c.search.i + 1) (alpha_above c.args.tray.now c.args.top)
      (frames_from k c.args.tray.now c.alpha_at-q.result.end) c.args.count)
      (less_one _ _),
)

pub returns-after-search : goal.returns-after-search
returns-after-search c = c.search.invariant.0 ∙ sym (c.search.invariant.1 ∙ some-none _ _ _ _ _ _ (omega (arith, c.search-test.false)))

pub returns-then-sample-top : goal.returns-then-sample-top
returns-then-sample-top c =
    sym (c.search.invariant.1
    ∙ seen-found c.args.tray.now c.search.at c.args.top c.alpha_at-q.result _ c.alpha_at-q.ensures c.plane_data-plane.ensures _ _ _
    c.loop-x.x c.loop-y.y (omega (arith, c.search-test.true)) c.loop-x-test.true (in_rows (goal.at.returns-then-sample-top c).In-loop-y)
    (rw c.sample.ensures at c.if-sample-top.true))
