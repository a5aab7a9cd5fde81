-- The first of a list that passes a test, item by item.
use Rattle.std.specs.Prelude.{Err}
use mathlib.Core.Bool.{Bool, ◌||◌, false, true}
use mathlib.Core.List.{List, [], ◌∷◌}
use mathlib.Core.Path.{◌∙◌, ◌≡◌, ap, refl, sym}
use Prim.Native.Nat.{◌+◌, ◌<◌, ◌≤◌, ℕ}
use native.Mathlib.Nat.{add-zero}
use native.Mathlib.Omega.{arith}
use lib.ListN.{length}
use Rattle.laws.proofs.Order.{apart, by-test, pick-false, pick_true}
use Rattle.laws.proofs.Out.{item-no, item-yes}
use Rattle.laws.specs.Any.{any, first_at}
use Rattle.laws.specs.Out.{Out, own_reason, refuse_item}
use Rattle.laws.specs.declared.Item.{Item}
use Rattle.laws.specs.Pick.{pick}
use Rattle.inputs.specs.inner.Sought.{found_at}

module _ {A : Type 0} (t : A → Bool) where
  -- none
  pub none_found : (i n : ℕ) → found_at i t [] n ≡ n
  unfolding found_at any pick
  none_found i n = refl

  -- it is the first, or among the others
  pub found_here : (i : ℕ) (a : A) (items : List A) (n : ℕ) → t a ≡ true → found_at i t (a ∷ items) n ≡ i
  unfolding found_at any first_at pick
  found_here i a items n e = rw e (add-zero i)

  pub found-next : (i : ℕ) (a : A) (items : List A) (n : ℕ) → t a ≡ false → found_at i t (a ∷ items) n ≡ found_at (i + 1) t items n
  unfolding found_at any first_at pick
  found-next i a items n e = rw e (ap (λ (k : ℕ). pick (any t items) k n) (omega arith))

  -- where one does
  pub first_below : (items : List A) → any t items ≡ true → first_at t items < length items
  unfolding any first_at
  first_below [] e = apart (cc)
  first_below (a ∷ items) e =
      by-test (t a)
      (λ h. let k = pick_true (t a) 0 (1 + first_at t items) h in omega arith)
      (λ h.
      let k = pick-false (t a) 0 (1 + first_at t items) h in
      let q : any t items ≡ true = sym (ap (λ (b : Bool). b || any t items) h) ∙ e in
      omega (arith, first_below items q))

  -- what was found is refused, and nothing where none was
  module _ (sort : ℕ → Item) (n : ℕ) (items : List A) (count k : ℕ) (few : length items ≤ count) (e : k ≡ found_at 0 t items count) where
    pub first_found : any t items ≡ true → first_at t items ≡ k
    unfolding found_at
    first_found h = sym (e ∙ pick_true _ _ _ h ∙ omega arith)

    pub item-found : {B : Type 0} (o : Out B) → k < count → refuse_item sort t n items o ≡ Err (own_reason n sort k)
    unfolding found_at
    item-found o l = by-test (any t items)
        (λ h. item-yes sort t n items k o h (first_found h))
        (λ h. let q : k ≡ count = e ∙ pick-false _ _ _ h in absurd (below q))
      where
        below : k ≡ count → ⊥
        below q = omega arith

    pub item-none : {B : Type 0} (o : Out B) → count ≤ k → refuse_item sort t n items o ≡ o
    item-none o l = by-test (any t items)
        (λ h. absurd (above (first_below items h) (first_found h)))
        (λ h. item-no sort t n items o h)
      where
        above : first_at t items < length items → first_at t items ≡ k → ⊥
        above p q = omega arith
