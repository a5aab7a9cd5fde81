-- The record that a loop or a run of calls carries while it stores bytes one after the other.
use mathlib.Core.Path.{◌≡◌, refl, sym, ap, ◌∙◌}
use mathlib.Core.List.{List, [], ◌∷◌, ◌++◌}
use Prim.Native.Nat.{ℕ, ◌+◌, ◌≤◌}
use native.Mathlib.Nat.{zero-add}
use native.Mathlib.Omega.{arith}
use lib.ListN.{length, set, length-set, length-append}
use Rattle.laws.specs.Puts.{puts}
use Rattle.laws.proofs.Puts.{length-puts, puts-append}

-- all is being stored in d₀ from i₀; d is how far that has come, and rest is what is left, to go to i
pub record Writing (d₀ : List ℕ) (i₀ : ℕ) (all : List ℕ) (d : List ℕ) (i : ℕ) (rest : List ℕ) : Type 0 where
  pub same : puts d₀ i₀ all ≡ puts d i rest
  pub place : i + length rest ≡ i₀ + length all
  pub long : length d ≡ length d₀
  pub room : i + length rest ≤ length d

pub writing_start : (d : List ℕ) (i : ℕ) (all : List ℕ) → i + length all ≤ length d → Writing d i all d i all
writing_start d i all h = record { same = refl; place = refl; long = refl; room = h }

-- from the start of a list
pub writing-whole : (d all : List ℕ) → length all ≤ length d → Writing d 0 all d 0 all
writing-whole d all h = writing_start d 0 all (omega arith)

-- the same, where what is to be stored is said in another form
pub writing-begin : (d : List ℕ) (i : ℕ) (all bs : List ℕ) → all ≡ bs → i + length all ≤ length d → Writing d i all d i bs
writing-begin d i all bs e h =
    let l : length all ≡ length bs = ap length e in
    record { same = ap (puts d i) e; place = omega arith; long = refl; room = omega arith }

module _ {d₀ : List ℕ} {i₀ : ℕ} {all : List ℕ} {d : List ℕ} {i : ℕ} where
  -- one byte more
  pub writing-put : {b : ℕ} {rest : List ℕ} → Writing d₀ i₀ all d i (b ∷ rest) → Writing d₀ i₀ all (set d i b) (i + 1) rest
  unfolding puts
  writing-put {b} {rest} w = record {
    same = w.same;
    place = omega arith;
    long = length-set d i b ∙ w.long;
    room = simp length-set (omega arith);
  }

  -- a run of bytes more, as a callee stored them
  pub writing-run : {rest : List ℕ} (bs : List ℕ) → Writing d₀ i₀ all d i (bs ++ rest) → {d' : List ℕ} {i' : ℕ} → i' ≡ i + length bs → d' ≡ puts d i bs → Writing d₀ i₀ all d' i' rest
  writing-run {rest} bs w {d'} {i'} e f =
      let l : length (bs ++ rest) ≡ length bs + length rest = length-append bs rest in
      let n : length d' ≡ length d = ap length f ∙ length-puts d i bs in
      record {
        same = w.same ∙ puts-append d i bs rest ∙ (cc);
        place = omega arith;
        long = n ∙ w.long;
        room = omega arith;
      }

  -- what is left, said in another form
  pub writing-as : {rest rest' : List ℕ} → Writing d₀ i₀ all d i rest → rest ≡ rest' → Writing d₀ i₀ all d i rest'
  writing-as w e = rw e at w

  -- the place, said in another form
  pub writing-to : {rest : List ℕ} {i' : ℕ} → Writing d₀ i₀ all d i rest → i ≡ i' → Writing d₀ i₀ all d i' rest
  writing-to w e = rw e at w

  -- the next run fits
  pub writing-fits : (bs rest : List ℕ) → Writing d₀ i₀ all d i (bs ++ rest) → i + length bs ≤ length d
  writing-fits bs rest w = omega (arith, length-append bs rest)

  -- nothing is left
  pub writing-done : Writing d₀ i₀ all d i [] → (i ≡ i₀ + length all) × (d ≡ puts d₀ i₀ all)
  unfolding puts
  writing-done w = (omega arith, sym w.same)

  -- the last run
  pub writing-last : {bs : List ℕ} → Writing d₀ i₀ all d i bs → {d' : List ℕ} {i' : ℕ} → i' ≡ i + length bs → d' ≡ puts d i bs → (i' ≡ i₀ + length all) × (d' ≡ puts d₀ i₀ all)
  writing-last w e f = (e ∙ w.place, f ∙ sym w.same)

-- no bytes to store
pub writing-none : (d : List ℕ) (i : ℕ) (bs : List ℕ) → bs ≡ [] → (i ≡ i + length bs) × (d ≡ puts d i bs)
unfolding puts
writing-none d i bs e = let l = ap length e in (omega arith, sym (ap (puts d i) e))

-- the last run of what was begun at the start
pub writing-ended : {d₀ all d : List ℕ} {i : ℕ} {bs : List ℕ} → Writing d₀ 0 all d i bs → {d' : List ℕ} {i' : ℕ} → i' ≡ i + length bs → d' ≡ puts d i bs → (i' ≡ length all) × (d' ≡ puts d₀ 0 all)
writing-ended {all} w e f = let r = writing-last w e f in (r.0 ∙ zero-add (length all), r.1)
