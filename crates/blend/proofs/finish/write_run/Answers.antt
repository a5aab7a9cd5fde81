use mathlib.Core.List.{List, ◌++◌}
use mathlib.Core.Path.{◌∙◌, ◌≡◌, ap, sym}
use Prim.Native.Nat.{◌*◌, ◌+◌, ℕ}
use native.Mathlib.Omega.{arith}
use lib.ListN.{get_or, length}
use Rattle.laws.proofs.Span.{span-end, span-step}
use Rattle.laws.proofs.Writing.{Writing, writing-as, writing-done, writing-fits, writing-run, writing_start}
use Rattle.laws.specs.Puts.{puts}
use Rattle.laws.specs.Span.{span}
use Rattle.planes.proofs.ByteLaws.{length-sample_bytes, length-samples_of}
use Rattle.planes.specs.Bytes.{sample_bytes, samples_of}
use Rattle.blend.specs.Overlay.{final_sample}
use Rattle.blend.proofs.finish.write_run.Goals as goal
use Rattle.blend.proofs.finish.write_run.Goals.{In-loop-k}

item : (c : In-loop-k) → ℕ → List ℕ
item c j =
    sample_bytes c.args.bytes (final_sample c.args.top c.args.part c.args.fill (get_or c.args.colour.now j 0) (get_or c.args.opacity.now j 0))

long : (c : In-loop-k) → length (item c c.loop-k.k) ≡ c.args.bytes
unfolding item
long c =
    length-sample_bytes c.args.bytes _ c.requires.0 c.requires.1

step : (c : In-loop-k) → span (item c) c.loop-k.k c.args.n ≡ item c c.loop-k.k ++ span (item c) (c.loop-k.k + 1) c.args.n
step c =
    span-step (item c) c.loop-k.k c.args.n c.loop-k-test.true

going : (c : In-loop-k) → Writing c.args.out.now c.args.at
    (samples_of c.args.bytes (λ j. final_sample c.args.top c.args.part c.args.fill (get_or c.args.colour.now j 0) (get_or c.args.opacity.now j 0)) c.args.n)
    c.loop-k.out c.loop-k.i (item c c.loop-k.k ++ span (item c) (c.loop-k.k + 1) c.args.n)
unfolding item
going c = writing-as c.loop-k.invariant.1 (step c)

pub loop-k-init : goal.loop-k-init
unfolding samples_of
loop-k-init c = (
  omega arith,
  writing_start _ _ _
      (omega (
        arith,
        c.requires.4,
        length-samples_of c.args.bytes
            (λ j. final_sample c.args.top c.args.part c.args.fill (get_or c.args.colour.now j 0) (get_or c.args.opacity.now j 0))
            c.args.n c.requires.0 c.requires.1,
      )),
)

pub bounds-colour-k : goal.bounds-colour-k
bounds-colour-k c =
    omega (arith, c.requires.2, c.loop-k-test.true)

pub bounds-opacity-k : goal.bounds-opacity-k
bounds-opacity-k c =
    omega (arith, c.requires.3, c.loop-k-test.true)

pub put_sample-i-requires : goal.put_sample-i-requires
put_sample-i-requires c =
    (c.requires.0, c.requires.1, rw (← (long (goal.at.put_sample-i-requires c).In-loop-k)) (writing-fits (item (goal.at.put_sample-i-requires c).In-loop-k c.loop-k.k) _ (going (goal.at.put_sample-i-requires c).In-loop-k)))

pub loop-k-preserved : goal.loop-k-preserved
unfolding item
loop-k-preserved c = (
  omega (arith, c.put_sample-i.ensures.0, c.loop-k.invariant.0),
  writing-run (item (goal.at.loop-k-preserved c).In-loop-k c.loop-k.k) (going (goal.at.loop-k-preserved c).In-loop-k)
      (c.put_sample-i.ensures.0 ∙ ap (λ (k : ℕ). c.loop-k.i + k) (sym (long (goal.at.loop-k-preserved c).In-loop-k)))
      (c.put_sample-i.ensures.1
      ∙ ap (puts c.loop-k.out c.loop-k.i) (ap (sample_bytes c.args.bytes) c.final_sample-v.ensures)),
)

pub returns : goal.returns
returns c =
    let e : c.loop-k.k ≡ c.args.n = omega (arith, c.loop-k-test.false) in (
      c.loop-k.invariant.0 ∙ ap (λ (x : ℕ). c.args.at + x * c.args.bytes) e,
      (writing-done (writing-as c.loop-k.invariant.1 (span-end _ _ _ c.loop-k-test.false))).1,
    )
