-- Laws of runs of bytes and of rows that are stored beside each other, before or after.
use mathlib.Core.List.{List, [], ◌++◌, ◌∷◌, append-nil}
use mathlib.Core.Path.{◌∙◌, ◌≡◌, ap, ap₂, refl, sym}
use Prim.Native.Nat.{◌*◌, ◌+◌, ◌<◌, ◌≤◌, suc, zero, ℕ}
use native.Mathlib.Omega.{arith}
use lib.ListN.{length, set}
use Rattle.laws.proofs.Order.{item-within}
use Rattle.laws.proofs.Puts.{puts-append, set-puts}
use Rattle.laws.proofs.Span.{length-span-all, span-end, span-split, span-step}
use Rattle.laws.specs.Puts.{puts}
use Rattle.laws.specs.Span.{span}
use Rattle.paste.specs.Stored.{store_rows}

-- ---- one run stored before another

puts-apart : (d : List ℕ) (i : ℕ) (vs : List ℕ) (j : ℕ) (us : List ℕ) → j + length us ≤ i → puts (puts d i vs) j us ≡ puts (puts d j us) i vs
unfolding puts
puts-apart d i vs j [] h = refl
puts-apart d i vs j (u ∷ us) h =
    ap (λ (q : List ℕ). puts q (j + 1) us) (set-puts d i j u vs (omega arith)) ∙ puts-apart (set d j u) i vs (j + 1) us (omega arith)

pub puts-before : (d : List ℕ) (i : ℕ) (vs : List ℕ) (j : ℕ) (us : List ℕ) → j + length us ≡ i → puts (puts d i vs) j us ≡ puts d j (us ++ vs)
puts-before d i vs j us e = puts-apart d i vs j us (omega arith) ∙ ap (λ (k : ℕ). puts (puts d j us) k vs) (sym e) ∙ sym (puts-append d j us vs)

-- ---- rows stored one below the other

-- bytes behind all rows may be stored before them or after
rows_apart : (d : List ℕ) (at stride : ℕ) (g : ℕ → List ℕ) (n i : ℕ) (vs : List ℕ) → ((y : ℕ) → y < n → at + y * stride + length (g y) ≤ i)
    → store_rows (puts d i vs) at stride g n ≡ puts (store_rows d at stride g n) i vs
unfolding store_rows
rows_apart d at stride g zero i vs h = refl
rows_apart d at stride g (suc n) i vs h =
    ap (λ (q : List ℕ). puts q (at + n * stride) (g n)) (rows_apart d at stride g n i vs (λ y l. h y (omega arith)))
    ∙ puts-apart (store_rows d at stride g n) i vs (at + n * stride) (g n) (h n (omega arith))

-- rows beside rows of a bytes
pub rows-joined : (d : List ℕ) (at stride a : ℕ) (f g : ℕ → List ℕ) (n : ℕ) → ((y : ℕ) → length (f y) ≡ a) → ((y : ℕ) → a + length (g y) ≤ stride)
    → store_rows (store_rows d at stride f n) (at + a) stride g n ≡ store_rows d at stride (λ y. f y ++ g y) n
unfolding store_rows
rows-joined d at stride a f g zero h r = refl
rows-joined d at stride a f g (suc n) h r =
    let e : at + a + n * stride ≡ at + n * stride + length (f n) = omega (arith, h n) in
    ap (λ (q : List ℕ). puts q (at + a + n * stride) (g n)) (rows_apart (store_rows d at stride f n) (at + a) stride g n (at + n * stride) (f n) before)
    ∙ ap₂ (λ (q : List ℕ) (i : ℕ). puts q i (g n)) (ap (λ (q : List ℕ). puts q (at + n * stride) (f n)) (rows-joined d at stride a f g n h r)) e
    ∙ sym (puts-append (store_rows d at stride (λ y. f y ++ g y) n) (at + n * stride) (f n) (g n))
  where
    before : (y : ℕ) → y < n → at + a + y * stride + length (g y) ≤ at + n * stride
    before y l = omega (arith, r y, item-within y n stride l)

pub rows_empty : (d : List ℕ) (at stride : ℕ) (f : ℕ → List ℕ) (n : ℕ) → ((y : ℕ) → f y ≡ []) → store_rows d at stride f n ≡ d
unfolding store_rows puts
rows_empty d at stride f zero h = refl
rows_empty d at stride f (suc n) h = ap (puts (store_rows d at stride f n) (at + n * stride)) (h n) ∙ rows_empty d at stride f n h

span_last : (f : ℕ → List ℕ) (n : ℕ) → span f 0 (suc n) ≡ span f 0 n ++ f n
span_last f n =
    span-split f 0 n (suc n) (omega arith) (omega arith)
    ∙ ap (λ (q : List ℕ). span f 0 n ++ q)
    (span-step f n (suc n) (omega arith) ∙ ap (λ (q : List ℕ). f n ++ q) (span-end f (n + 1) (suc n) (omega arith)) ∙ append-nil (f n))

-- whole rows are bytes one after the other
pub rows_whole : (d : List ℕ) (at stride : ℕ) (f : ℕ → List ℕ) (n : ℕ) → ((y : ℕ) → length (f y) ≡ stride) → store_rows d at stride f n ≡ puts d at (span f 0 n)
unfolding store_rows puts
rows_whole d at stride f zero h = sym (ap (puts d at) (span-end f 0 0 (omega arith)))
rows_whole d at stride f (suc n) h =
    let e : at + n * stride ≡ at + length (span f 0 n) = ap (λ (k : ℕ). at + k) (sym (length-span-all f stride n h)) in
    ap₂ (λ (q : List ℕ) (i : ℕ). puts q i (f n)) (rows_whole d at stride f n h) e
    ∙ sym (puts-append d at (span f 0 n) (f n)) ∙ ap (puts d at) (sym (span_last f n))
