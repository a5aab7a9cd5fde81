use mathlib.Core.List.{List}
use mathlib.Core.Path.{◌∙◌, ◌≡◌, ap, refl}
use Prim.Native.Nat.{◌*◌, ◌+◌, ℕ}
use native.Mathlib.Omega.{arith}
use lib.ListN.{length}
use Rattle.laws.specs.Puts.{puts}
use Rattle.paste.proofs.RowLaws.{length-store_rows, rows_more}
use Rattle.paste.specs.Stored.{store_rows}
use Rattle.paste.specs.inner.Source.{capped_row}
use Rattle.paste.proofs.rows.store_capped.Goals as goal

pub loop-k-init : goal.loop-k-init
unfolding store_rows
loop-k-init c = refl

pub overflow_mul-k : goal.overflow_mul-k
overflow_mul-k c =
    let w = c.requires.writes c.loop-k.k c.loop-k-test.true in omega arith

pub overflow_add-at : goal.overflow_add-at
overflow_add-at c =
    let w = c.requires.writes c.loop-k.k c.loop-k-test.true in omega arith

pub store_capped_row-requires : goal.store_capped_row-requires
store_capped_row-requires c =
    let w = c.requires.writes c.loop-k.k c.loop-k-test.true in let l = ap length c.loop-k.invariant ∙ length-store_rows _ _ _ _ _ in (c.requires.positive, c.requires.bounded, c.requires.wide, omega (arith, c.requires.tall), omega arith, λ i h. c.requires.reads i c.loop-k.k h c.loop-k-test.true)

pub loop-k-preserved : goal.loop-k-preserved
loop-k-preserved c =
    c.store_capped_row.ensures ∙ ap (λ (d : List ℕ). puts d (c.args.at + c.loop-k.k * c.args.stride) (capped_row c.args.plane.now c.args.s c.args.top c.args.across c.loop-k.k)) c.loop-k.invariant ∙ rows_more c.args.out.now c.args.at c.args.stride _ c.loop-k.k

pub returns : goal.returns
returns c =
    let e : c.loop-k.k ≡ c.args.down = omega arith in c.loop-k.invariant ∙ ap (store_rows c.args.out.now c.args.at c.args.stride _) e
