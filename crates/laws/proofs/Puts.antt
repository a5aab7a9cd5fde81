-- Laws of bytes stored one after the other.
use mathlib.Core.Path.{◌≡◌, refl, sym, ap, ◌∙◌}
use mathlib.Core.List.{List, [], ◌∷◌, ◌++◌, append_assoc}
use Prim.Native.Nat.{ℕ, ◌+◌, ◌-◌, ◌≤◌, ◌<◌}
use native.Mathlib.Nat.{add-zero}
use native.Mathlib.Numerals.{add-one}
use native.Mathlib.Omega.{arith}
use lib.ListN.{length, take, drop, set, length-set, length-append}
use lib.Seq.{sets, sets-eq, take_at, drop_at, set_comm}
use Rattle.laws.specs.Puts.{puts}

pub length-puts : (d : List ℕ) (i : ℕ) (vs : List ℕ) → length (puts d i vs) ≡ length d
unfolding puts
length-puts d i [] = refl
length-puts d i (v ∷ vs) = length-puts (set d i v) (i + 1) vs ∙ length-set d i v

pub puts-append : (d : List ℕ) (i : ℕ) (us bs : List ℕ) → puts d i (us ++ bs) ≡ puts (puts d i us) (i + length us) bs
unfolding puts
puts-append d i [] bs = rw add-zero
puts-append d i (a ∷ us) bs =
    let e : i + 1 + length us ≡ i + length (a ∷ us) = omega arith in
    puts-append (set d i a) (i + 1) us bs ∙ ap (λ (k : ℕ). puts (puts (set d i a) (i + 1) us) k bs) e

puts-sets : (d : List ℕ) (i : ℕ) (vs : List ℕ) → puts d i vs ≡ sets d i vs
unfolding puts
puts-sets d i [] = refl
puts-sets d i (v ∷ vs) = puts-sets (set d i v) (i + 1) vs ∙ ap (λ (k : ℕ). sets (set d i v) k vs) (add-one i)

-- what stands there after: the bytes, and the rest as it was
pub puts-split : (d : List ℕ) (i : ℕ) (vs : List ℕ) → i + length vs ≤ length d → puts d i vs ≡ take i d ++ (vs ++ drop (i + length vs) d)
puts-split d i vs h = puts-sets d i vs ∙ sets-eq vs d i h ∙ append_assoc (take i d) vs (drop (i + length vs) d)

-- from the start
pub puts-start : (d bs : List ℕ) → length bs ≤ length d → puts d 0 bs ≡ bs ++ drop (length bs) d
puts-start d bs h =
    let z : 0 + length bs ≡ length bs = omega arith in
    puts-split d 0 bs (omega arith) ∙ ap (λ (k : ℕ). bs ++ drop k d) z

-- in the middle of a list that is put together: the bytes take the place of as many
pub puts-middle : (a b c bs : List ℕ) (i : ℕ) → length a ≡ i → length b ≡ length bs → puts (a ++ (b ++ c)) i bs ≡ a ++ (bs ++ c)
puts-middle a b c bs i h k =
    let l : length (a ++ (b ++ c)) ≡ length a + (length b + length c) = simp length-append in
    let n : length (a ++ b) ≡ i + length bs = length-append a b ∙ omega arith in
    puts-split (a ++ (b ++ c)) i bs (omega arith)
    ∙ ap (λ (q : List ℕ). q ++ (bs ++ drop (i + length bs) (a ++ (b ++ c)))) (take_at a (b ++ c) i h)
    ∙ ap (λ (q : List ℕ). a ++ (bs ++ q)) (ap (drop (i + length bs)) (sym (append_assoc a b c)) ∙ drop_at (a ++ b) c (i + length bs) n)

-- a byte before them
pub set-puts : (d : List ℕ) (i j v : ℕ) (vs : List ℕ) → j < i → set (puts d i vs) j v ≡ puts (set d j v) i vs
unfolding puts
set-puts d i j v [] h = refl
set-puts d i j v (u ∷ vs) h =
    set-puts (set d i u) (i + 1) j v vs (omega arith)
    ∙ ap (λ (q : List ℕ). puts q (i + 1) vs) (set_comm d i j u v (λ e. differ e))
  where
    differ : i ≡ j → ⊥
    differ e = omega arith

-- one byte more in front, where the bytes are stored from the last to the first
pub puts-front : (d₀ d : List ℕ) (i v : ℕ) (vs : List ℕ) → 1 ≤ i → d ≡ puts d₀ i vs → set d (i - 1) v ≡ puts d₀ (i - 1) (v ∷ vs)
unfolding puts
puts-front d₀ d i v vs h e =
    ap (λ (q : List ℕ). set q (i - 1) v) e ∙ set-puts d₀ i (i - 1) v vs (omega arith)
    ∙ ap (λ (k : ℕ). puts (set d₀ (i - 1) v) k vs) (back i h)
  where
    back : (k : ℕ) → 1 ≤ k → k ≡ k - 1 + 1
    back k l = omega arith
