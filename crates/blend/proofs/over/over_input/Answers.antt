use mathlib.Core.Path.{◌∙◌, ap, refl}
use Prim.Native.Nat.{◌+◌, ◌-◌, ◌/◌, ◌<◌, ◌≤◌, max, min}
use native.Mathlib.Omega.{arith}
use Rattle.opaque.specs.declared.axis.Stretch.{Stretch}
use Rattle.opaque.specs.inner.Window.{stretch_of}
use Rattle.blend.proofs.ReachLaws.{row-begins}
use Rattle.blend.proofs.StripeLaws.{row-shown, rows-begin, rows_end, rows-held, rows_more}
use Rattle.blend.proofs.over.over_input.Goals as goal
use Rattle.blend.proofs.over.over_input.Goals.{After-loop-r, After-max-first, In-loop-r}

begun : (c : After-max-first)
    → (stretch_of c.args.run.half_down c.args.place.vertical c.args.fr.form.height).from ≤ c.max-first.result
begun c = let e = ap (λ (q : Stretch). q.from) c.reach-down.ensures in omega (arith, e, c.max-first.ensures)

deep_is : (c : In-loop-r)
    → c.loop-r.r < (stretch_of c.args.run.half_down c.args.place.vertical c.args.fr.form.height).to
deep_is c = let e = ap (λ (q : Stretch). q.to) c.reach-down.ensures in omega (arith, e, c.min-last.ensures, c.loop-r-test.true)

ended : (c : After-loop-r)
    → min (stretch_of c.args.run.half_down c.args.place.vertical c.args.fr.form.height).to
    ((c.args.run.start + c.args.run.count + c.args.run.columns - 1) / c.args.run.columns)
    ≤ c.loop-r.r
ended c = let e = ap (λ (q : Stretch). q.to) c.reach-down.ensures in omega (arith, e, c.min-last.ensures, c.loop-r-test.false)

pub overflow_add-end : goal.overflow_add-end
overflow_add-end c = omega (arith, c.requires.2.ends)

pub overflow_add-end-2 : goal.overflow_add-end-2
overflow_add-end-2 c = omega (arith, c.requires.2.ends, c.requires.2.narrow)

pub overflow_sub-end : goal.overflow_sub-end
overflow_sub-end c = omega (arith, c.requires.2.wide)

pub nonzero_div-end : goal.nonzero_div-end
nonzero_div-end c = omega (arith, c.requires.2.wide)

pub loop-r-init : goal.loop-r-init
loop-r-init c = (
  begun (goal.at.loop-r-init c).After-max-first,
  refl,
  λ j h. rows-begin c.args.tray.now c.args.fr c.args.place c.args.premultiplied c.args.part
      c.args.top c.args.run c.requires.2 j _ _
      (c.max-first.ensures
      ∙ ap (λ (q : Stretch). max q.from (c.args.run.start / c.args.run.columns)) c.reach-down.ensures),
)

pub over_line-requires : goal.over_line-requires
over_line-requires c = (
  c.requires.0,
  c.requires.1,
  c.requires.2,
  omega (arith, c.requires.3, c.loop-r.invariant.1),
  row-begins c.loop-r.r (c.args.run.start + c.args.run.count) c.args.run.columns c.requires.2.wide
      (omega (arith, c.loop-r-test.true, c.min-last.ensures)),
  row-shown c.args.tray.now c.args.fr c.args.place c.args.premultiplied c.args.part c.args.top
      c.args.run c.requires.2 c.loop-r.r c.loop-r.invariant.0 (deep_is (goal.at.over_line-requires c).In-loop-r),
  λ j h. rows-held c.args.tray.now c.args.fr c.args.place c.args.premultiplied c.args.part
      c.args.top c.args.run c.requires.2 j _ _ c.loop-r.r c.requires.1
      (c.loop-r.invariant.2 j h) (c.requires.4 j h),
)

pub loop-r-preserved : goal.loop-r-preserved
loop-r-preserved c = (
  omega (arith, c.loop-r.invariant.0),
  c.over_line.auto.acc ∙ c.loop-r.invariant.1,
  λ j h. rows_more c.args.tray.now c.args.fr c.args.place c.args.premultiplied c.args.part
      c.args.top c.args.run c.requires.2 j _ _ _ c.loop-r.r (c.loop-r.invariant.2 j h) (c.over_line.ensures j h),
)

pub returns : goal.returns
returns c =
    λ j h. c.loop-r.invariant.2 j h
    ∙ rows_end c.args.tray.now c.args.fr c.args.place c.args.premultiplied c.args.part c.args.top
    c.args.run c.requires.2 j _ c.loop-r.r h (ended c)
