-- Laws of scaling: it rounds up, and keeps within a picture's limits.
use Rattle.std.specs.Prelude.{Ok}
use mathlib.Core.Bool.{Bool, ◌&&◌, false, true}
use mathlib.Core.Path.{◌∙◌, ◌≡◌, refl, sym}
use Prim.Native.Nat.{◌*◌, ◌+◌, ◌-◌, ◌<◌, ◌≤◌, suc, ℕ}
use native.Mathlib.Nat.{div-add-mod', div-lt_iff_lt-mul, mod-lt, suc-mul, zero-mul}
use native.Mathlib.Omega.{arith}
use lib.Dec.{eqb}
use borrow.Author.Tests.{eqb-false, ltb-false}
use Rattle.laws.proofs.Order.{by_order, mul-below, pick-false, pick_true}
use Rattle.laws.proofs.Out.{done-same, refuse-done}
use Rattle.laws.specs.Pick.{pick}
use Rattle.image.specs.Sound.{SizeSound}
use Rattle.image.specs.declared.size.Size.{Size}
use Rattle.sizes.specs.Scale.{changed, scale_of, scaled_side, within_of}
use Rattle.sizes.specs.declared.iscl.Iscl.{Iscl}

-- ---- rounding up

-- the scaled side is the least whole number that is not below side * num / den
pub scaled-covers : (side num den : ℕ) → 0 < den → side * num ≤ scaled_side side num den * den
unfolding scaled_side
scaled-covers side num den h = omega (arith, div-add-mod' (side * num + (den - 1)) den, mod-lt (side * num + (den - 1)) h)

pub scaled-least : (side num den m : ℕ) → 0 < den → side * num ≤ m * den → scaled_side side num den ≤ m
unfolding scaled_side
scaled-least side num den m h g =
    let a : side * num + (den - 1) < suc m * den = omega (arith, suc-mul m den) in
    omega (arith, (div-lt_iff_lt-mul h).1 a)

-- a part of something is something
pub scaled-some : (side num den : ℕ) → 1 ≤ side → 1 ≤ num → 0 < den → 1 ≤ scaled_side side num den
scaled-some side num den h g l =
    by_order (scaled_side side num den) 1
    (λ o.
    let z : scaled_side side num den ≡ 0 = omega arith in
    let a : side * num ≤ 0 * den = rw z at (scaled-covers side num den l) in
    absurd (none a))
    (λ o. o)
  where
    none : side * num ≤ 0 * den → ⊥
    none a = omega (arith, zero-mul den, mul-below side num 1 1 h g)

-- ---- sizes that a picture may have, and what a property makes of them

pub sound-as : (z y : Size) → z ≡ y → SizeSound z → SizeSound y
sound-as z y p k = rw p at k

not-zero : (k : ℕ) → eqb k 0 ≡ false → 1 ≤ k
not-zero k e = go (eqb-false k 0 e)
  where
    go : (k ≡ 0 → ⊥) → 1 ≤ k
    go f = omega arith

within-sound : (z x y : Size) → 1 ≤ x.width → 1 ≤ x.height → within_of z x ≡ Ok y → SizeSound y
unfolding within_of
within-sound z x y w h e =
    let a = refuse-done _ _ _ y e in
    let b = refuse-done _ _ _ y a.1 in
    let c = refuse-done _ _ _ y b.1 in
    let d = refuse-done _ _ _ y c.1 in
    let f = refuse-done _ _ _ y d.1 in
    sound-as x y (done-same x y f.1) (record { wide = w; tall = h; area = ltb-false _ _ a.0 })

changed-sound : (z x y : Size) → SizeSound z → 1 ≤ x.width → 1 ≤ x.height → changed z x ≡ Ok y → SizeSound y
unfolding changed
changed-sound z x y s w h e = go (eqb x.width z.width && eqb x.height z.height) e
  where
    go : (b : Bool) → pick b (Ok z) (within_of z x) ≡ Ok y → SizeSound y
    go true q = sound-as z y (done-same z y (sym (pick_true true (Ok z) (within_of z x) refl) ∙ q)) s
    go false q = within-sound z x y w h (sym (pick-false false (Ok z) (within_of z x) refl) ∙ q)

pub scale-sound : (k : Iscl) (z y : Size) → SizeSound z → scale_of k z.width z.height ≡ Ok y → SizeSound y
unfolding scale_of
scale-sound k z y s e =
    let a = refuse-done _ _ _ y e in
    let b = refuse-done _ _ _ y a.1 in
    let c = refuse-done _ _ _ y b.1 in
    let d = refuse-done _ _ _ y c.1 in
    let f = refuse-done _ _ _ y d.1 in
    let g = refuse-done _ _ _ y f.1 in
    changed-sound z _ y s (scaled-some z.width _ _ s.wide (not-zero _ a.0) (not-zero _ b.0))
    (scaled-some z.height _ _ s.tall (not-zero _ c.0) (not-zero _ d.0)) g.1
