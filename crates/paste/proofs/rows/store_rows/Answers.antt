use mathlib.Core.List.{List}
use mathlib.Core.Path.{◌∙◌, ◌≡◌, ap, ap₂, refl}
use Prim.Native.Nat.{◌*◌, ◌+◌, ℕ}
use native.Mathlib.Omega.{arith}
use lib.ListN.{length}
use Rattle.laws.specs.Puts.{puts}
use Rattle.planes.specs.declared.samples.Line.{Line}
use Rattle.planes.specs.inner.Line.{line_bytes}
use Rattle.paste.proofs.RowLaws.{length-store_rows, rows_more}
use Rattle.paste.proofs.SourceLaws.{line-fits, line_row, source_line}
use Rattle.paste.specs.Stored.{store_rows}
use Rattle.paste.proofs.rows.store_rows.Goals as goal
use Rattle.paste.proofs.rows.store_rows.Goals.{After-covering}

line : (c : After-covering) →
    ◌≡◌ {A = Line} (record { origin = c.covering.result * c.args.s.stride; step = c.args.s.bytes; from = c.args.s.x; forth = 1; back = 0; half = c.shift-half.result }) (source_line c.args.s c.loop-k.k)
line c =
    simp (c.covering.ensures, c.shift-half.ensures)

pub loop-k-init : goal.loop-k-init
unfolding store_rows
loop-k-init c = refl

pub overflow_add-s : goal.overflow_add-s
overflow_add-s c =
    omega (arith, c.requires.tall)

pub overflow_mul-line : goal.overflow_mul-line
overflow_mul-line c =
    let f = c.requires.reads 0 c.loop-k.k c.requires.any c.loop-k-test.true in let e = ap (λ (n : ℕ). n * c.args.s.stride) c.covering.ensures in omega arith

pub overflow_mul-k : goal.overflow_mul-k
overflow_mul-k c =
    let w = c.requires.writes c.loop-k.k c.loop-k-test.true in omega arith

pub overflow_add-at : goal.overflow_add-at
overflow_add-at c =
    let w = c.requires.writes c.loop-k.k c.loop-k-test.true in omega arith

pub write_line-requires : goal.write_line-requires
write_line-requires c =
    let w = c.requires.writes c.loop-k.k c.loop-k-test.true in let l = ap length c.loop-k.invariant ∙ length-store_rows _ _ _ _ _ in (rw (line (goal.at.write_line-requires c).After-covering) (line-fits _ _ _ _ _ _ _ _ c.requires c.loop-k-test.true), omega arith)

pub loop-k-preserved : goal.loop-k-preserved
loop-k-preserved c =
    c.write_line.ensures.1
    ∙ ap (λ (l : Line). puts c.loop-k.out (c.args.at + c.loop-k.k * c.args.stride)
    (line_bytes c.args.plane.now c.args.s.bytes l c.args.across))
    (line (goal.at.loop-k-preserved c).After-covering)
    ∙ ap₂ (λ (d b : List ℕ). puts d (c.args.at + c.loop-k.k * c.args.stride) b) c.loop-k.invariant
    (line_row c.args.plane.now c.args.s c.args.across c.loop-k.k)
    ∙ rows_more c.args.out.now c.args.at c.args.stride _ c.loop-k.k

pub returns : goal.returns
returns c =
    let e : c.loop-k.k ≡ c.args.down = omega arith in c.loop-k.invariant ∙ ap (store_rows c.args.out.now c.args.at c.args.stride _) e
