use mathlib.Core.List.{List}
use mathlib.Core.Path.{◌∙◌, ◌≡◌, ap, refl}
use Prim.Native.Nat.{◌*◌, ◌+◌, ℕ}
use native.Mathlib.Omega.{arith}
use lib.ListN.{length}
use Rattle.laws.specs.Puts.{puts}
use Rattle.planes.specs.Bytes.{samples_of}
use Rattle.paste.proofs.RowLaws.{length-store_rows, rows_more}
use Rattle.paste.specs.Stored.{store_rows}
use Rattle.paste.proofs.rows.store_even.Goals as goal

pub loop-k-init : goal.loop-k-init
unfolding store_rows
loop-k-init c = refl

pub overflow_mul-k : goal.overflow_mul-k
overflow_mul-k c =
    let w = c.requires.2 c.loop-k.k c.loop-k-test.true in omega arith

pub overflow_add-at : goal.overflow_add-at
overflow_add-at c =
    let w = c.requires.2 c.loop-k.k c.loop-k-test.true in omega arith

pub fill_row-requires : goal.fill_row-requires
fill_row-requires c =
    let w = c.requires.2 c.loop-k.k c.loop-k-test.true in let l = ap length c.loop-k.invariant ∙ length-store_rows _ _ _ _ _ in (c.requires.0, c.requires.1, omega arith)

pub loop-k-preserved : goal.loop-k-preserved
loop-k-preserved c =
    c.fill_row.ensures.1 ∙ ap (λ (d : List ℕ). puts d (c.args.at + c.loop-k.k * c.args.stride) (samples_of c.args.bytes (λ i. c.args.v) c.args.across)) c.loop-k.invariant ∙ rows_more c.args.out.now c.args.at c.args.stride _ c.loop-k.k

pub returns : goal.returns
returns c =
    let e : c.loop-k.k ≡ c.args.down = omega arith in c.loop-k.invariant ∙ ap (store_rows c.args.out.now c.args.at c.args.stride _) e
