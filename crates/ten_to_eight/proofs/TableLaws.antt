-- The rule of a table by one test over its entries; and what a sample above the table becomes.
use mathlib.Core.Bool.{Bool, ◌&&◌, true}
use mathlib.Core.List.{List, [], ◌∷◌}
use mathlib.Core.Path.{◌∙◌, ◌≡◌, ap, sym}
use Prim.Native.Nat.{◌+◌, ◌<◌, ◌≤◌, min, suc, zero, ℕ}
use native.Mathlib.Nat.{add-suc, add-zero, le_of_suc-le-suc, not-suc-le-zero, suc-add, zero-add}
use native.Mathlib.Omega.{arith}
use lib.Dec.{eqb}
use lib.ListN.{get_or, length}
use borrow.Author.Tests.{eqb-true}
use Rattle.laws.proofs.Order.{and-true, by_order}
use Rattle.sampling.proofs.DepthLaws.{level-above}
use Rattle.sampling.proofs.FootLaws.{min-left, min-right}
use Rattle.sampling.specs.Depth.{level_of}
use Rattle.sampling.specs.Nearest.{near_place}
use Rattle.sampling.specs.declared.raster.Axis.{Axis}
use Rattle.sampling.specs.declared.raster.Rule.{Rule}
use Rattle.sampling.specs.inner.Redraw.{row_of}
use Rattle.ten_to_eight.specs.inner.Table.{Table, eight_row, ten_to_eight_of}

-- every entry is what a rule says of its place, counted from i
unfoldable pub ruled : (ℕ → ℕ) → ℕ → List ℕ → Bool
ruled f i [] = true
ruled f i (x ∷ xs) = eqb x (f i) && ruled f (suc i) xs

ruled-from : (f : ℕ → ℕ) (t : List ℕ) (i : ℕ) → ruled f i t ≡ true → (v : ℕ) → v < length t → get_or t v 0 ≡ f (i + v)
unfolding ruled
ruled-from f [] i h v l = absurd (not-suc-le-zero l)
ruled-from f (x ∷ xs) i h zero l = eqb-true x (f i) (and-true (eqb x (f i)) (ruled f (suc i) xs) h).0 ∙ ap f (sym (add-zero i))
ruled-from f (x ∷ xs) i h (suc v) l = ruled-from f xs (suc i) (and-true (eqb x (f i)) (ruled f (suc i) xs) h).1 v (le_of_suc-le-suc l) ∙ ap f (suc-add i v ∙ sym (add-suc i v))

-- a list of 1,024 entries that passes the test is the table
pub table_at : (t : List ℕ) → length t ≡ 1024 → ruled (level_of 10 8) 0 t ≡ true → Table t
table_at t n h = record {
  entries = n;
  rule = λ v l. ruled-from (level_of 10 8) t 0 h v (omega (arith, n, l)) ∙ ap (level_of 10 8) (zero-add v);
}

-- a sample above 1,023 becomes what 1,023 does
above : (v : ℕ) → 1023 ≤ v → level_of 10 8 1023 ≡ level_of 10 8 v
above v l =
    let apart : ten_to_eight_of.old ≡ ten_to_eight_of.new → ⊥ = λ e. omega (arith, e) in
    sym (level-above ten_to_eight_of apart 1023 (omega arith)) ∙ level-above ten_to_eight_of apart v l

pub looked-up : (t : List ℕ) → Table t → (v : ℕ) → get_or t (min v 1023) 0 ≡ level_of 10 8 v
looked-up t k v =
    by_order v 1024
    (λ l. ap (λ (n : ℕ). get_or t n 0) (min-left v 1023 (omega (arith, l))) ∙ k.rule v (omega (arith, l)))
    (λ l. ap (λ (n : ℕ). get_or t n 0) (min-right v 1023 (omega (arith, l))) ∙ k.rule 1023 (omega arith) ∙ above v (omega (arith, l)))

-- the row that a new row is made of
pub eight-row : (rule : Rule) (down : Axis) (y u : ℕ) → rule ≡ Rule.Near ten_to_eight_of → u ≡ near_place down.from down.to y → eight_row u ≡ row_of rule down y
unfolding row_of
eight-row rule down y u e h = ap eight_row h ∙ sym (ap (λ (k : Rule). row_of k down y) e)
