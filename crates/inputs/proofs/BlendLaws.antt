-- Bounds of the blending arithmetic: every number fits.
use mathlib.Core.Path.{◌≡◌}
use Prim.Native.Nat.{◌*◌, ◌+◌, ◌-◌, ◌/◌, ◌<◌, ◌^◌, ◌≤◌, ℕ}
use native.Mathlib.Nat.{div-le_self}
use native.Mathlib.Omega.{arith}
use Rattle.laws.proofs.Order.{mul-below}

-- v of 32 bits under a rest of 16 bits
pub under-small : (v t x : ℕ) → v < 2 ^ 32 → t < 2 ^ 16 → x ≤ t → v * x + t / 2 < 2 ^ 49
under-small v t x h k l = omega (arith, mul-below (2 ^ 32 - 1) (2 ^ 16 - 1) v x (omega arith) (omega arith))

-- and its share
pub share-small : (v t x : ℕ) → v < 2 ^ 32 → t < 2 ^ 16 → x ≤ t → (v * x + t / 2) / t < 2 ^ 49
share-small v t x h k l = omega (arith, under-small v t x h k l, div-le_self (v * x + t / 2) t)

-- a product of two samples
pub sample-product : (a b : ℕ) → a < 2 ^ 16 → b < 2 ^ 16 → a * b < 2 ^ 32
sample-product a b h k = omega (arith, mul-below (2 ^ 16 - 1) (2 ^ 16 - 1) a b (omega arith) (omega arith))

-- one less, and one more done
pub less_one : (n i : ℕ) → n - i - 1 ≡ n - (i + 1)
less_one n i = omega arith
