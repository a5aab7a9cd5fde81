-- Laws of nearest samples and of depths.
use mathlib.Core.Path.{◌≡◌, refl}
use Prim.Native.Nat.{◌*◌, ◌<◌, ◌≤◌, min, ℕ}
use native.Mathlib.Nat.{div-lt_iff_lt-mul, mul_comm, mul-div_cancel, mul-lt-mul_of_pos_right}
use native.Mathlib.Omega.{arith}
use borrow.Author.Tests.{eq-eqb, ne_eqb}
use Rattle.laws.proofs.Order.{pick-false, pick_true}
use Rattle.image.specs.Format.{top_at}
use Rattle.sampling.specs.Depth.{level_of}
use Rattle.sampling.specs.Nearest.{near_place}
use Rattle.sampling.specs.Rounded.{rounded}

pub near_same : (n k : ℕ) → 1 ≤ n → near_place n n k ≡ k
unfolding near_place
near_same n k h = mul-div_cancel k h

pub near-in : (from to k : ℕ) → 1 ≤ from → k < to → near_place from to k < from
unfolding near_place
near-in from to k l h =
    let z : 0 < to = omega arith in
    let m : k * from < to * from = mul-lt-mul_of_pos_right h l in
    (div-lt_iff_lt-mul z).1 (omega (arith, m, mul_comm from to))

-- ---- depths

-- an equal depth is the identity
pub level-same : (d v : ℕ) → level_of d d v ≡ v
unfolding level_of
level-same d v = pick_true _ _ _ (eq-eqb d d refl)

pub level-other : (old new v : ℕ) → (old ≡ new → ⊥) → level_of old new v ≡ min (rounded (v * top_at new) (top_at old)) (top_at new)
unfolding level_of
level-other old new v h = pick-false _ _ _ (ne_eqb old new h)
