use mathlib.Core.List.{List, ◌++◌}
use mathlib.Core.Path.{◌∙◌, ◌≡◌, ap, sym}
use Prim.Native.Nat.{◌*◌, ◌+◌, ◌≤◌, ℕ}
use native.Mathlib.Omega.{arith}
use lib.ListN.{get_or, length}
use Rattle.laws.proofs.Span.{span-end, span-step}
use Rattle.laws.proofs.Writing.{Writing, writing-as, writing-done, writing-fits, writing-run, writing_start}
use Rattle.laws.specs.Puts.{puts}
use Rattle.laws.specs.Span.{span}
use Rattle.planes.proofs.ByteLaws.{length-sample_bytes, length-samples_of}
use Rattle.planes.specs.Bytes.{sample_bytes, samples_of}
use Rattle.blend.proofs.RowLaws.{depth-bytes}
use Rattle.blend.specs.Overlay.{unpremultiply}
use Rattle.blend.proofs.finish.solid_samples.Given.{Over}
use Rattle.blend.proofs.finish.solid_samples.Goals as goal
use Rattle.blend.proofs.finish.solid_samples.Goals.{In-loop-k, Start}

few : (g : Over) (c : Start g) → (1 ≤ g.row.BYTES) × (g.row.BYTES ≤ 2)
few g c = depth-bytes c.args.d g.row.BYTES c.requires.4

item : (g : Over) (c : In-loop-k g) → ℕ → List ℕ
item g c j = sample_bytes g.row.BYTES (unpremultiply c.args.top 0 (get_or c.args.colour.now j 0) c.args.top)

long : (g : Over) (c : In-loop-k g) → length (item g c c.loop-k.k) ≡ g.row.BYTES
unfolding item
long g c = let b = few g (goal.at.In-loop-k g c).Start in length-sample_bytes g.row.BYTES _ b.0 b.1

going : (g : Over) (c : In-loop-k g) → Writing c.args.out.now c.args.at
    (samples_of g.row.BYTES (λ j. unpremultiply c.args.top 0 (get_or c.args.colour.now j 0) c.args.top) c.args.n)
    c.loop-k.out c.loop-k.i (item g c c.loop-k.k ++ span (item g c) (c.loop-k.k + 1) c.args.n)
unfolding item
going g c = writing-as c.loop-k.invariant.1 (span-step (item g c) c.loop-k.k c.args.n c.loop-k-test.true)

pub loop-k-init : goal.loop-k-init
unfolding samples_of
loop-k-init g c =
    let b = few g (goal.at.loop-k-init g c).Start in (
      omega arith,
      writing_start _ _ _
          (omega (arith, c.requires.1, length-samples_of g.row.BYTES (λ j. unpremultiply c.args.top 0 (get_or c.args.colour.now j 0) c.args.top) c.args.n b.0 b.1)),
    )

pub bounds-colour-k : goal.bounds-colour-k
bounds-colour-k g c = omega (arith, c.requires.0, c.loop-k-test.true)

pub solid_sample-requires : goal.solid_sample-requires
solid_sample-requires g c = (c.requires.2, c.requires.3, c.requires.4, c.requires.5 c.loop-k.k c.loop-k-test.true)

pub put_sample-i-requires : goal.put_sample-i-requires
put_sample-i-requires g c =
    let b = few g (goal.at.put_sample-i-requires g c).Start in
    let q = (goal.at.put_sample-i-requires g c).In-loop-k in
    (b.0, b.1, rw (← (long g q)) (writing-fits (item g q c.loop-k.k) _ (going g q)))

pub loop-k-preserved : goal.loop-k-preserved
unfolding item
loop-k-preserved g c =
    let q = (goal.at.loop-k-preserved g c).In-loop-k in (
      omega (arith, c.put_sample-i.ensures.0, c.loop-k.invariant.0),
      writing-run (item g q c.loop-k.k) (going g q)
          (c.put_sample-i.ensures.0 ∙ ap (λ (k : ℕ). c.loop-k.i + k) (sym (long g q)))
          (c.put_sample-i.ensures.1 ∙ ap (puts c.loop-k.out c.loop-k.i) (ap (sample_bytes g.row.BYTES) c.solid_sample.ensures)),
    )

pub returns : goal.returns
returns g c =
    let e : c.loop-k.k ≡ c.args.n = omega (arith, c.loop-k-test.false) in (
      c.loop-k.invariant.0 ∙ ap (λ (x : ℕ). c.args.at + x * g.row.BYTES) e,
      (writing-done (writing-as c.loop-k.invariant.1 (span-end _ _ _ c.loop-k-test.false))).1,
    )
