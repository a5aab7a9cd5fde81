use mathlib.Core.List.{◌++◌}
use mathlib.Core.Path.{◌∙◌, ◌≡◌, ap, sym}
use Prim.Native.Nat.{◌+◌, min, ℕ}
use native.Mathlib.Omega.{arith}
use Rattle.laws.proofs.Span.{span-end}
use Rattle.laws.proofs.Writing.{Writing, writing-as, writing-done, writing-fits, writing-run, writing_start}
use Rattle.laws.specs.Span.{span}
use Rattle.planes.proofs.ByteLaws.{length-sample_bytes, length-samples_of}
use Rattle.planes.specs.Bytes.{sample_bytes, samples_of}
use Rattle.paste.proofs.SourceLaws.{capped-next}
use Rattle.paste.specs.inner.Source.{capped_row, source_at}
use Rattle.paste.proofs.rows.store_capped_row.Goals as goal
use Rattle.paste.proofs.rows.store_capped_row.Goals.{After-capped, After-sample-v}

sample-is : (c : After-sample-v) →
    c.sample-v.result ≡ source_at c.args.plane.now c.args.s c.loop-i.i c.args.k
unfolding source_at
sample-is c =
    c.sample-v.ensures ∙ simp (c.covering-row.ensures, c.covering-column.ensures)

next : (c : After-capped)
    → Writing c.args.out.now c.args.at
    (capped_row c.args.plane.now c.args.s c.args.top c.args.across c.args.k) c.loop-i.out c.loop-i.to
    (sample_bytes c.args.s.bytes c.capped.result
    ++ span
    (λ j. sample_bytes c.args.s.bytes (min (source_at c.args.plane.now c.args.s j c.args.k) c.args.top))
    (c.loop-i.i + 1) c.args.across)
next c =
    writing-as c.loop-i.invariant (capped-next c.args.plane.now c.args.s c.args.top c.args.across c.loop-i.i c.args.k c.capped.result c.loop-i-test.true (c.capped.ensures ∙ ap (λ (v : ℕ). min v c.args.top) (sample-is (goal.at.After-capped c).After-sample-v)))

pub overflow_add-s : goal.overflow_add-s
overflow_add-s c =
    omega (arith, c.requires.3)

pub loop-i-init : goal.loop-i-init
unfolding capped_row samples_of
loop-i-init c =
    writing_start _ _ _ (rw (length-samples_of c.args.s.bytes _ c.args.across c.requires.0 c.requires.1) c.requires.4)

pub overflow_add-s-in-loop-i : goal.overflow_add-s-in-loop-i
overflow_add-s-in-loop-i c =
    omega (arith, c.requires.2)

pub sample-v-requires : goal.sample-v-requires
sample-v-requires c =
    (c.requires.0, c.requires.1, rw (c.covering-row.ensures, c.covering-column.ensures) (c.requires.5 c.loop-i.i c.loop-i-test.true))

pub put_sample-to-requires : goal.put_sample-to-requires
put_sample-to-requires c =
    (c.requires.0, c.requires.1, rw (← length-sample_bytes c.args.s.bytes c.capped.result c.requires.0 c.requires.1) (writing-fits (sample_bytes c.args.s.bytes c.capped.result) _ (next (goal.at.put_sample-to-requires c).After-capped)))

pub loop-i-preserved : goal.loop-i-preserved
loop-i-preserved c =
    writing-run (sample_bytes c.args.s.bytes c.capped.result) (next (goal.at.loop-i-preserved c).After-capped) (c.put_sample-to.ensures.0 ∙ ap (λ (n : ℕ). c.loop-i.to + n) (sym (length-sample_bytes c.args.s.bytes c.capped.result c.requires.0 c.requires.1))) c.put_sample-to.ensures.1

pub returns : goal.returns
returns c =
    let e : c.loop-i.i ≡ c.args.across = omega arith in (writing-done (writing-as c.loop-i.invariant (span-end _ _ _ (omega arith)))).1
